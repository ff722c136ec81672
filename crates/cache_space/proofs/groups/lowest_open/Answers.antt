use Rattle.std.proofs.Common.{[]}
use Rattle.cache_space.proofs.groups.lowest_open.Goals as goal

pub returns-clause-lowest : goal.returns-clause-lowest
returns-clause-lowest c = c.in-Ok.ensures.runs [] c.new-runs.ensures.items
