use Rattle.std.proofs.Common.{◌≡◌, ◌+◌, ◌-◌, ◌*◌, ◌≤◌, min, ◌++◌, length, take, sym, ◌∙◌, ap, arith}
use Rattle.cache_space.specs.Blocks.{as_runs}
use Rattle.cache_space.specs.Flags.{open_blocks}
use Rattle.cache_space.proofs.GroupLemmas.{left_joined, runs_joined, open_blocks-full}
use Rattle.cache_space.proofs.OpenBlocks.{take-open_enough}
use Rattle.cache_space.proofs.groups.add_lowest_of_groups.Goals as goal
use Rattle.cache_space.proofs.groups.add_lowest_of_groups.Goals.{then-not-is_full+in_ok-left, else-not-is_full}

pub returns-then-left-eq0-clause-left : goal.returns-then-left-eq0-clause-left
returns-then-left-eq0-clause-left c =
    let enough : c.args.wanted ≤ length (open_blocks c.args.taken.now c.args.but.now 0 c.loop-is_full.from) = omega (arith, c.loop-is_full.invariant.left, c.if-left-eq0.true) in
    sym (take-open_enough c.args.taken.now c.args.but.now 0 c.loop-is_full.from (length c.args.taken.now) c.args.wanted (omega (arith, c.loop-is_full.invariant.from)) enough).1

pub returns-then-left-eq0-clause-runs : goal.returns-then-left-eq0-clause-runs
returns-then-left-eq0-clause-runs c = λ blocks is.
    let enough : c.args.wanted ≤ length (open_blocks c.args.taken.now c.args.but.now 0 c.loop-is_full.from) = omega (arith, c.loop-is_full.invariant.left, c.if-left-eq0.true) in
    c.loop-is_full.invariant.runs blocks is ∙ ap (λ xs. as_runs (blocks ++ xs))
    (sym (take-open_enough c.args.taken.now c.args.but.now 0 c.loop-is_full.from (length c.args.taken.now) c.args.wanted (omega (arith, c.loop-is_full.invariant.from)) enough).0)

pub loop-is_full-preserved : goal.loop-is_full-preserved
loop-is_full-preserved c =
    let from = c.loop-is_full.from in
    let to = c.loop-is_full.from + c.min.result in
    let ends : to ≡ min ((c.loop-is_full.is_full-index + 1) * 4096) (length c.args.taken.now) = omega (arith, c.min.ensures, c.loop-is_full.invariant.from) in
    let gap : to ≡ from + (to - from) = omega arith in
    elim c.if-not-is_full.branch [
      | then-not-is_full+in_ok-left w ↦
          record {
            from = w.from-is ∙ ends;
            left = w.left-is ∙ w.in_ok-left.ensures.left ∙ left_joined c.args.taken.now c.args.but.now from to (to - from) c.args.wanted c.loop-is_full.left gap c.loop-is_full.invariant.left
                ∙ ap (λ n. c.args.wanted - length (open_blocks c.args.taken.now c.args.but.now 0 n)) (sym w.from-is);
            runs = λ blocks is. ap (λ v. v.items) w.runs-is
                ∙ w.in_ok-left.ensures.runs (blocks ++ take c.args.wanted (open_blocks c.args.taken.now c.args.but.now 0 from)) (c.loop-is_full.invariant.runs blocks is)
                ∙ runs_joined c.args.taken.now c.args.but.now from to (to - from) c.args.wanted c.loop-is_full.left blocks gap c.loop-is_full.invariant.left
                ∙ ap (λ n. as_runs (blocks ++ take c.args.wanted (open_blocks c.args.taken.now c.args.but.now 0 n))) (sym w.from-is);
          }
      | else-not-is_full w ↦
          let same : open_blocks c.args.taken.now c.args.but.now 0 from ≡ open_blocks c.args.taken.now c.args.but.now 0 c.if-not-is_full.from =
          open_blocks-full c.args.taken.now c.args.full.now c.args.but.now c.loop-is_full.is_full-index from to c.requires.marks w.if-not-is_full.false c.loop-is_full.invariant.from ends
          ∙ ap (open_blocks c.args.taken.now c.args.but.now 0) (sym w.from-is) in
          record {
            from = w.from-is ∙ ends;
            left = w.left-is ∙ c.loop-is_full.invariant.left ∙ ap (λ blocks. c.args.wanted - length blocks) same;
            runs = λ blocks is. ap (λ v. v.items) w.runs-is ∙ c.loop-is_full.invariant.runs blocks is ∙ ap (λ xs. as_runs (blocks ++ take c.args.wanted xs)) same;
          }
    ]
