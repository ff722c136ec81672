use Rattle.std.proofs.Common.{◌≡◌, ◌+◌, take}
use Rattle.cache_space.specs.Space.{blocks_in}
use Rattle.cache_space.proofs.runs.have_blocks.Given as goal

abbrev pub invariant-loop-run : goal.invariant-loop-run
invariant-loop-run l = blocks_in (take l.run-index l.runs) + l.left ≡ l.blocks
