use Rattle.std.proofs.Common.{◌≡◌, drop}
use Rattle.archiver_cmd.specs.Conf.{exprs_in}
use Rattle.archiver_cmd.specs.Levels.{name_at}
use Rattle.archiver_cmd.proofs.conf.exprs_at.Given as goal

abbrev pub invariant-loop-group : goal.invariant-loop-group
invariant-loop-group l = exprs_in (drop l.group-index l.groups) (name_at l.level l.set l.copy) ≡ exprs_in l.groups (name_at l.level l.set l.copy)
