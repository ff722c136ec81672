use Rattle.cache_space.proofs.TakenBlocks.{taken_by-nothing}
use Rattle.cache_space.proofs.space.CacheSpace.new.Goals as goal

pub returns : goal.returns
returns c = taken_by-nothing c.in_ok-taken.taken.items c.args.blocks (c.in_ok-taken.ensures.items_if_clones_equal (λ y e. e))
