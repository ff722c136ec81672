use Rattle.std.proofs.Common.{◌-◌, sym, ◌∙◌, arith}
use Rattle.cache_space.proofs.RunLemmas.{added_joins, added_follows, added_first}
use Rattle.cache_space.proofs.runs.add_block.Goals as goal
use Rattle.cache_space.proofs.runs.add_block.Goals.{else-len-gt0-via-then-len-gt0+else-end_of-block, else-len-gt0-via-else-len-gt0}

pub returns-then-end_of-block-clause-ok : goal.returns-then-end_of-block-clause-ok
returns-then-end_of-block-clause-ok c = λ blocks is.
    added_joins c.args.runs.now.items (c.len-len.result - 1) c.index.result.now c.index_mut.result.now c.args.block blocks is
    (omega (arith, c.len-len.ensures, c.args.runs.now.ok.0)) c.index.ensures c.index_mut.ensures.value (sym c.end_of.ensures ∙ c.if-end_of-block.true)

pub returns-clause-ok : goal.returns-clause-ok
returns-clause-ok c = λ blocks is. c.in_ok-push.ensures.items ∙ elim c.else-len-gt0.branch [
  | else-len-gt0-via-then-len-gt0+else-end_of-block w ↦
      added_follows c.args.runs.now.items (c.len-len.result - 1) w.index.result.now c.args.block blocks is
      (omega (arith, c.len-len.ensures, w.if-len-gt0.true, c.args.runs.now.ok.0)) w.index.ensures (λ e. w.if-end_of-block.false (w.end_of.ensures ∙ e))
  | else-len-gt0-via-else-len-gt0 w ↦
      added_first c.args.runs.now.items c.args.block blocks is (omega (arith, c.len-len.ensures, w.if-len-gt0.false, c.args.runs.now.ok.0))
]
