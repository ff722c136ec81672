use Rattle.std.proofs.Common.{List, length, sym, subst, arith}
use Rattle.cache_space.specs.Space.{AreMaximal}
use Rattle.site_types.specs.declared.file.Run.{Run}
use Rattle.cache_space.proofs.LowestRuns.{lowest_runs-maximal}
use Rattle.site_history.proofs.RunRanges.{lowest_known, held_by}
use Rattle.site_state.proofs.state.SiteState.free_runs.Goals as goal

pub returns-in-Ok-clause-few : goal.returns-in-Ok-clause-few
returns-in-Ok-clause-few c =
    let known = lowest_known c.args.self.now.space c.in-Ok.runs c.blocks_needed.result (omega (arith, c.blocks-blocks.ensures, c.blocks-blocks.type_inv)) c.in-Ok.ensures.lowest in
    omega (arith, known.0, c.blocks_needed.ensures)

pub returns-in-Ok-clause-small : goal.returns-in-Ok-clause-small
returns-in-Ok-clause-small c =
    (lowest_known c.args.self.now.space c.in-Ok.runs c.blocks_needed.result (omega (arith, c.blocks-blocks.ensures, c.blocks-blocks.type_inv)) c.in-Ok.ensures.lowest).1

pub returns-in-Ok-clause-maximal : goal.returns-in-Ok-clause-maximal
returns-in-Ok-clause-maximal c =
    subst (λ (l : List Run). AreMaximal l) (sym (c.in-Ok.ensures.lowest (length c.args.self.now.space) _ (held_by c.args.self.now.space)))
    (lowest_runs-maximal (length c.args.self.now.space) _ c.blocks_needed.result)
