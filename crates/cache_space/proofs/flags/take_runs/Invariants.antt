use Rattle.std.proofs.Common.{◌≡◌, ◌+◌, not, take, count_by}
use Rattle.cache_space.specs.Blocks.{is_in_runs}
use Rattle.cache_space.specs.Flags.{Takes}
use Rattle.cache_space.proofs.flags.take_runs.Given as goal

abbrev pub invariant-loop-run : goal.invariant-loop-run
invariant-loop-run l = record {
  flags : Takes l.fn.taken.items l.taken.items (is_in_runs (take l.run-index l.runs));
  count : count_by not l.taken.items + l.changed ≡ count_by not l.fn.taken.items;
}
