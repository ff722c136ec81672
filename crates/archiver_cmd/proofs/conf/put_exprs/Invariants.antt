use Rattle.std.proofs.Common.{◌≡◌, ◌++◌, take}
use Rattle.archiver_cmd.proofs.conf.put_exprs.Given as goal

abbrev pub invariant-loop-expr : goal.invariant-loop-expr
invariant-loop-expr l = l.found ≡ l.fn.found ++ take l.expr-index l.exprs
