use Rattle.step_codec.proofs.InRange.{in_range, ranges}
use Rattle.step_codec.proofs.unique.ranges.Goals as goal

pub returns-clause-in_range : goal.returns-clause-in_range
returns-clause-in_range c = in_range

pub returns-clause-ranges : goal.returns-clause-ranges
returns-clause-ranges c = ranges
