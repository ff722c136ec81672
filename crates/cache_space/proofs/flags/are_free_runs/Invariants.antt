use Rattle.std.proofs.Common.{ℕ, true, take, get_or, IsTrue, IsFalse}
use Rattle.cache_space.specs.Blocks.{is_in_runs}
use Rattle.cache_space.proofs.flags.are_free_runs.Given as goal

abbrev pub invariant-loop-run : goal.invariant-loop-run
invariant-loop-run l = (block : ℕ) → IsTrue (is_in_runs (take l.run-index l.runs) block) → IsFalse (get_or l.taken block true)
