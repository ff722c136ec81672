use Rattle.std.proofs.Common.{◌≡◌, ◌++◌, take}
use Rattle.archiver_cmd.specs.Conf.{copies_numbered}
use Rattle.archiver_cmd.proofs.conf.put_copy.Given as goal

abbrev pub invariant-loop-line : goal.invariant-loop-line
invariant-loop-line l = l.found ≡ l.fn.found ++ copies_numbered (take l.line-index l.copies) l.set l.number
