use Rattle.std.proofs.Common.{◌≡◌, ◌+◌, true, false, get_or, refl, ◌∙◌, arith}
use Rattle.std.proofs.lemmas.Bool.{both_ways, false≢true}
use Rattle.std.proofs.lemmas.List.{get_or_past, get_or_default}
use Rattle.cache_space.proofs.RunLemmas.{is_in_run_at}
use Rattle.cache_space.proofs.TakenBlocks.{free_run_each}
use Rattle.cache_space.proofs.flags.is_free_run.Goals as goal
use Rattle.cache_space.proofs.flags.is_free_run.Goals.{then-block-taken-via-then-block-taken, then-block-taken-via-else-block-taken+then-taken-block}

pub returns-then-block-taken : goal.returns-then-block-taken
returns-then-block-taken c =
    let block = c.args.run.now.first + c.loop-offset.offset in
    let is_taken : get_or c.args.taken.now block true ≡ true = elim c.then-block-taken.branch [
      | then-block-taken-via-then-block-taken w ↦ get_or_past c.args.taken.now block true (omega arith)
      | then-block-taken-via-else-block-taken+then-taken-block w ↦ get_or_default c.args.taken.now block true false w.if-block-taken.false ∙ w.if-taken-block.true
    ] in (
      λ no. absurd (false≢true no),
      λ all. absurd (both_ways (get_or c.args.taken.now block true) (all block (is_in_run_at c.args.run.now c.loop-offset.offset c.loop-offset-test.true)) is_taken),
    )

pub returns : goal.returns
returns c = (λ yes block h. free_run_each c.args.taken.now c.args.run.now c.loop-offset.offset c.loop-offset-test.false c.loop-offset.invariant block h, λ all. refl)
