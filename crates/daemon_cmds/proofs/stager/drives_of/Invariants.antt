use Rattle.std.proofs.Common.{◌≡◌, take, map}
use Rattle.daemon_cmds.proofs.stager.drives_of.Given as goal

abbrev pub invariant-loop-library : goal.invariant-loop-library
invariant-loop-library l = l.drives ≡ map (λ x. x.drives) (take l.library-index l.libraries)
