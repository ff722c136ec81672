use Rattle.std.proofs.Common.{not, count_by, ◌∙◌, ap}
use Rattle.cache_space.proofs.TakenBlocks.{count_by-taken_by}
use Rattle.cache_space.proofs.space.CacheSpace.free.Goals as goal

pub returns : goal.returns
returns c = λ total held is. c.self.invariant.count ∙ ap (count_by not) (c.self.view_is ∙ is) ∙ count_by-taken_by total held
