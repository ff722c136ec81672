use Rattle.std.proofs.Common.{◌≡◌, take}
use Rattle.archiver_cmd.specs.Conf.{exprs_under}
use Rattle.archiver_cmd.proofs.conf.exprs_under.Given as goal

abbrev pub invariant-loop-line : goal.invariant-loop-line
invariant-loop-line l = l.found ≡ exprs_under (take l.line-index l.lines) l.name
