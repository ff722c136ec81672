use Rattle.std.proofs.Common.{◌≡◌, take}
use Rattle.archiver_cmd.specs.ParamsSteps.{params_named}
use Rattle.archiver_cmd.specs.Levels.{name_at}
use Rattle.archiver_cmd.proofs.params.params_named.Given as goal

abbrev pub invariant-loop-line : goal.invariant-loop-line
invariant-loop-line l = l.params ≡ params_named (take l.line-index l.lines) (name_at l.level l.set l.copy)
