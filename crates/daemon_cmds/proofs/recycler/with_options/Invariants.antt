use Rattle.std.proofs.Common.{◌≡◌, take}
use Rattle.daemon_cmds.specs.RecyclerSteps.{with_options}
use Rattle.daemon_cmds.proofs.recycler.with_options.Given as goal

abbrev pub invariant-loop-option : goal.invariant-loop-option
invariant-loop-option l = l.library ≡ with_options l.initial.library (take l.option-index l.options)
