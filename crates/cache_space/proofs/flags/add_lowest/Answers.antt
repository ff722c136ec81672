use Rattle.std.proofs.Common.{◌≡◌, ◌+◌, ◌-◌, ◌≤◌, ◌<◌, true, ◌++◌, length, take, sym, ◌∙◌, ap, arith}
use Rattle.cache_space.specs.Blocks.{as_runs}
use Rattle.cache_space.specs.Flags.{is_open, open_blocks}
use Rattle.cache_space.proofs.OpenBlocks.{take-open_enough, left_at_open, open_blocks_same, as_runs-open_more}
use Rattle.cache_space.proofs.flags.add_lowest.Goals as goal
use Rattle.cache_space.proofs.flags.add_lowest.Goals.{then-is_open+in_ok-add_block, else-is_open}

pub returns-then-left-eq0-clause-left : goal.returns-then-left-eq0-clause-left
returns-then-left-eq0-clause-left c =
    let enough : c.args.wanted ≤ length (open_blocks c.args.taken.now c.args.but.now c.args.from (c.loop-block.block - c.args.from)) = omega (arith, c.loop-block.invariant.left, c.if-left-eq0.true) in
    sym (take-open_enough c.args.taken.now c.args.but.now c.args.from (c.loop-block.block - c.args.from) (c.args.to - c.args.from) c.args.wanted (omega arith) enough).1

pub returns-then-left-eq0-clause-runs : goal.returns-then-left-eq0-clause-runs
returns-then-left-eq0-clause-runs c = λ blocks is.
    let enough : c.args.wanted ≤ length (open_blocks c.args.taken.now c.args.but.now c.args.from (c.loop-block.block - c.args.from)) = omega (arith, c.loop-block.invariant.left, c.if-left-eq0.true) in
    c.loop-block.invariant.runs blocks is ∙ ap (λ xs. as_runs (blocks ++ xs))
    (sym (take-open_enough c.args.taken.now c.args.but.now c.args.from (c.loop-block.block - c.args.from) (c.args.to - c.args.from) c.args.wanted (omega arith) enough).0)

pub loop-block-preserved : goal.loop-block-preserved
loop-block-preserved c =
    let n = c.loop-block.block - c.args.from in
    let here : c.args.from + n ≡ c.loop-block.block = omega (arith, c.loop-block.auto.block) in
    let one : c.loop-block.block + 1 - c.args.from ≡ n + 1 = omega (arith, c.loop-block.auto.block) in
    let few : 0 < c.loop-block.left = omega (arith, c.if-left-eq0.false) in
    elim c.if-is_open.branch [
      | then-is_open+in_ok-add_block w ↦
          let opened : is_open c.args.taken.now c.args.but.now c.loop-block.block ≡ true = sym c.is_open.ensures ∙ w.if-is_open.true in
          record {
            left = w.left-is ∙ left_at_open c.args.taken.now c.args.but.now c.args.from n (c.loop-block.block + 1 - c.args.from) c.loop-block.block c.args.wanted c.loop-block.left
                here one opened c.loop-block.invariant.left;
            runs = λ blocks is. ap (λ v. v.items) w.runs-is ∙ w.in_ok-add_block.ensures.ok (blocks ++ take c.args.wanted (open_blocks c.args.taken.now c.args.but.now c.args.from n)) (c.loop-block.invariant.runs blocks is)
                ∙ as_runs-open_more c.args.taken.now c.args.but.now c.args.from n (c.loop-block.block + 1 - c.args.from) c.loop-block.block c.args.wanted blocks
                here one opened (omega (arith, c.loop-block.invariant.left, few));
          }
      | else-is_open w ↦
          let same : open_blocks c.args.taken.now c.args.but.now c.args.from n ≡ open_blocks c.args.taken.now c.args.but.now c.args.from (c.loop-block.block + 1 - c.args.from) =
          open_blocks_same c.args.taken.now c.args.but.now c.args.from n (c.loop-block.block + 1 - c.args.from) c.loop-block.block here one (sym c.is_open.ensures ∙ w.if-is_open.false) in
          record {
            left = w.left-is ∙ c.loop-block.invariant.left ∙ ap (λ blocks. c.args.wanted - length blocks) same;
            runs = λ blocks is. ap (λ v. v.items) w.runs-is ∙ c.loop-block.invariant.runs blocks is ∙ ap (λ xs. as_runs (blocks ++ take c.args.wanted xs)) same;
          }
    ]
