use Rattle.std.proofs.Common.{◌≤◌, ◌^◌, drop}
use Rattle.cache_space.specs.Space.{AreMaximal, AreMaximalFrom}
use Rattle.cache_space.proofs.runs.are_maximal.Given as goal

abbrev pub invariant-loop-run : goal.invariant-loop-run
invariant-loop-run l = record {
  rest : AreMaximal l.runs → AreMaximalFrom l.low (drop l.run-index l.runs);
  whole : AreMaximalFrom l.low (drop l.run-index l.runs) → AreMaximal l.runs;
  small : l.low ≤ 2 ^ 33;
}
