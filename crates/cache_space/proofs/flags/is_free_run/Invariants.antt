use Rattle.std.proofs.Common.{ℕ, ◌+◌, ◌<◌, true, get_or, IsFalse}
use Rattle.cache_space.proofs.flags.is_free_run.Given as goal

abbrev pub invariant-loop-offset : goal.invariant-loop-offset
invariant-loop-offset l = (k : ℕ) → k < l.offset → IsFalse (get_or l.taken (l.run.first + k) true)
