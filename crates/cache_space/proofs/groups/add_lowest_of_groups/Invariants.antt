use Rattle.std.proofs.Common.{◌≡◌, ℕ, ◌-◌, ◌*◌, List, ◌++◌, length, take, min}
use Rattle.cache_space.specs.Blocks.{as_runs}
use Rattle.cache_space.specs.Flags.{open_blocks}
use Rattle.cache_space.proofs.groups.add_lowest_of_groups.Given as goal

abbrev pub invariant-loop-is_full : goal.invariant-loop-is_full
invariant-loop-is_full l = record {
  from : l.from ≡ min (l.is_full-index * 4096) (length l.taken);
  left : l.left ≡ l.wanted - length (open_blocks l.taken l.but 0 l.from);
  runs : (blocks : List ℕ) → l.fn.runs.items ≡ as_runs blocks
      → l.runs.items ≡ as_runs (blocks ++ take l.wanted (open_blocks l.taken l.but 0 l.from));
}
