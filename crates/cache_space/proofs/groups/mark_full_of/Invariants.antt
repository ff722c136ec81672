use Rattle.std.proofs.Common.{◌≡◌, length}
use Rattle.cache_space.specs.Flags.{FullAreTaken}
use Rattle.cache_space.proofs.groups.mark_full_of.Given as goal

abbrev pub invariant-loop-group : goal.invariant-loop-group
invariant-loop-group l = record { marks : FullAreTaken l.full.items l.taken; len : length l.full.items ≡ length l.fn.full.items }
