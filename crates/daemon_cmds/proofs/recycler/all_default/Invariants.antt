use Rattle.std.proofs.Common.{◌≡◌, take, map, []}
use Rattle.daemon_cmds.specs.RecyclerTold.{recycling_of}
use Rattle.daemon_cmds.proofs.recycler.all_default.Given as goal

abbrev pub invariant-loop-library : goal.invariant-loop-library
invariant-loop-library l = l.all ≡ map (λ x. recycling_of []) (take l._library-index l.libraries)
