use Rattle.std.proofs.Common.{◌≡◌, ◌-◌, length}
use Rattle.cache_space.specs.Flags.{open_blocks}
use Rattle.cache_space.proofs.flags.lacking.Given as goal

abbrev pub invariant-loop-block : goal.invariant-loop-block
invariant-loop-block l = l.left ≡ l.wanted - length (open_blocks l.taken l.but 0 l.block)
