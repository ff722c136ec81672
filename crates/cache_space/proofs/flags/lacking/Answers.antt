use Rattle.std.proofs.Common.{◌+◌, ◌-◌, ◌≤◌, length, refl, sym, ◌∙◌, ap, arith}
use Rattle.cache_space.specs.Flags.{open_blocks}
use Rattle.cache_space.proofs.OpenBlocks.{take-open_enough, left_at_open, open_blocks_same}
use Rattle.cache_space.proofs.flags.lacking.Goals as goal
use Rattle.cache_space.proofs.flags.lacking.Goals.{then-is_open, else-is_open}

pub returns-then-left-eq0 : goal.returns-then-left-eq0
returns-then-left-eq0 c =
    let enough : c.args.wanted ≤ length (open_blocks c.args.taken.now c.args.but.now 0 c.loop-block.block) = omega (arith, c.loop-block.invariant, c.if-left-eq0.true) in
    sym (take-open_enough c.args.taken.now c.args.but.now 0 c.loop-block.block (length c.args.taken.now) c.args.wanted (omega arith) enough).1

pub loop-block-preserved : goal.loop-block-preserved
loop-block-preserved c = elim c.if-is_open.branch [
  | then-is_open w ↦ w.left-is ∙ left_at_open c.args.taken.now c.args.but.now 0 c.loop-block.block (c.loop-block.block + 1) c.loop-block.block c.args.wanted c.loop-block.left
      (omega arith) refl (sym c.is_open.ensures ∙ w.if-is_open.true) c.loop-block.invariant
  | else-is_open w ↦ w.left-is ∙ c.loop-block.invariant ∙ ap (λ blocks. c.args.wanted - length blocks)
      (open_blocks_same c.args.taken.now c.args.but.now 0 c.loop-block.block (c.loop-block.block + 1) c.loop-block.block (omega arith) refl (sym c.is_open.ensures ∙ w.if-is_open.false))
]
