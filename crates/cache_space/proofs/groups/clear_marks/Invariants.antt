use Rattle.std.proofs.Common.{take}
use Rattle.cache_space.specs.Blocks.{is_in_runs}
use Rattle.cache_space.specs.Flags.{AreCleared}
use Rattle.cache_space.proofs.groups.clear_marks.Given as goal

abbrev pub invariant-loop-run : goal.invariant-loop-run
invariant-loop-run l = AreCleared l.fn.full.items l.full.items (is_in_runs (take l.run-index l.runs))
