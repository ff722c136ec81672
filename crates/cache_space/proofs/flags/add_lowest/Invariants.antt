use Rattle.std.proofs.Common.{◌≡◌, ℕ, ◌-◌, List, ◌++◌, length, take}
use Rattle.cache_space.specs.Blocks.{as_runs}
use Rattle.cache_space.specs.Flags.{open_blocks}
use Rattle.cache_space.proofs.flags.add_lowest.Given as goal

abbrev pub invariant-loop-block : goal.invariant-loop-block
invariant-loop-block l = record {
  left : l.left ≡ l.wanted - length (open_blocks l.taken l.but l.from (l.block - l.from));
  runs : (blocks : List ℕ) → l.fn.runs.items ≡ as_runs blocks
      → l.runs.items ≡ as_runs (blocks ++ take l.wanted (open_blocks l.taken l.but l.from (l.block - l.from)));
}
