use Rattle.std.proofs.Common.{◌∙◌}
use Rattle.cache_space.proofs.TakenBlocks.{Frees-taken_by}
use Rattle.cache_space.proofs.space.CacheSpace.give.Goals as goal

pub returns : goal.returns
returns c = λ total kept is apart.
    Frees-taken_by c.self.inside.taken.items c.free_runs-changed.new.taken.items total kept c.args.runs.now c.free_runs-changed.ensures.flags apart (c.self.view_is ∙ is)
