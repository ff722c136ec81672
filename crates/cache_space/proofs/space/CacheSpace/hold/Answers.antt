use Rattle.std.proofs.Common.{◌∙◌}
use Rattle.cache_space.proofs.TakenBlocks.{Takes-taken_by}
use Rattle.cache_space.proofs.space.CacheSpace.hold.Goals as goal

pub returns : goal.returns
returns c = λ total held is.
    Takes-taken_by c.self.inside.taken.items c.take_runs-changed.new.taken.items total held c.args.runs.now c.take_runs-changed.ensures.flags (c.self.view_is ∙ is)
