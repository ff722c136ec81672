use Rattle.std.proofs.Common.{◌≡◌, length}
use Rattle.cache_space.specs.Flags.{FullAreTaken}
use Rattle.cache_space.proofs.groups.mark_full.Given as goal

abbrev pub invariant-loop-run : goal.invariant-loop-run
invariant-loop-run l = record { marks : FullAreTaken l.full.items l.taken; len : length l.full.items ≡ length l.fn.full.items }
