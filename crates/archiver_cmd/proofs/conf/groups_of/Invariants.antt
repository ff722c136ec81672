use Rattle.std.proofs.Common.{◌≡◌, take, map}
use Rattle.archiver_cmd.specs.Conf.{group_of, names_of}
use Rattle.archiver_cmd.proofs.conf.groups_of.Given as goal

abbrev pub invariant-loop-line : goal.invariant-loop-line
invariant-loop-line l = l.groups ≡ map (group_of l.lines) (names_of (take l.line-index l.lines))
