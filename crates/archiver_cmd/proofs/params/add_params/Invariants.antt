use Rattle.std.proofs.Common.{◌≡◌, fold, take}
use Rattle.archiver_cmd.specs.ParamsSteps.{with_param}
use Rattle.archiver_cmd.proofs.params.add_params.Given as goal

abbrev pub invariant-loop-one : goal.invariant-loop-one
invariant-loop-one l = l.params ≡ fold with_param l.initial.params (take l.one-index l.given)
