use Rattle.std.proofs.Common.{◌≡◌, ◌+◌, ◌-◌, ◌≤◌, not, count_by}
use Rattle.cache_space.specs.Blocks.{is_in_run}
use Rattle.cache_space.specs.Flags.{Takes}
use Rattle.cache_space.proofs.TakenBlocks.{first_of}
use Rattle.cache_space.proofs.flags.take_run.Given as goal

abbrev pub invariant-loop-block : goal.invariant-loop-block
invariant-loop-block l = record {
  flags : Takes l.fn.taken.items l.taken.items (λ block. is_in_run block (first_of l.run (l.block - l.run.first)));
  count : count_by not l.taken.items + l.changed ≡ count_by not l.fn.taken.items;
  few : l.changed ≤ l.block - l.run.first;
}
