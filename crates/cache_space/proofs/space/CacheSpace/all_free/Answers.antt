use Rattle.std.proofs.Common.{◌∙◌}
use Rattle.cache_space.proofs.TakenBlocks.{AreFree-from_flags, flags_from_AreFree}
use Rattle.cache_space.proofs.space.CacheSpace.all_free.Goals as goal

pub returns : goal.returns
returns c = λ total held is.
    let now = c.as_slice.ensures.value ∙ c.self.view_is ∙ is in (
      λ yes. AreFree-from_flags c.as_slice.result.now total held c.args.runs.now now (c.are_free_runs.ensures.0 yes),
      λ free. c.are_free_runs.ensures.1 (flags_from_AreFree c.as_slice.result.now total held c.args.runs.now now free),
    )
