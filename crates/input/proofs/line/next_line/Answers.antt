use Rattle.std.proofs.Common.{◌<◌, ◌≤◌, ◌+◌, ◌≡◌, ℕ, List, [], ◌∷◌, ◌++◌, length, cond, refl, sym, ◌∙◌, ap, subst, arith}
use Rattle.std.proofs.lemmas.Grind.{common_steps}
use Rattle.input.specs.Lines.{line_of}
use Rattle.input.specs.Reading.{Reading}
use Rattle.input.specs.Reads.{TellsLine}
use Rattle.input.specs.Lines.{Long}
use Rattle.input.proofs.LineLaws.{begun, one_more, pushed, too_long, fed_line, last_line, cut_line, over_line, is_not_empty}
use Rattle.input.proofs.Steps.{falls_by}
use Rattle.input.proofs.line.next_line.Goals as goal

pub loop-reader-init : goal.loop-reader-init
loop-reader-init g c = record { so_far = begun _ c.args.reader.now c.begin_line.new.self c.begin_line.ensures; later = omega arith; beside = refl }

pub returns-in-Ok-eq10-clause-read : goal.returns-in-Ok-eq10-clause-read
returns-in-Ok-eq10-clause-read g c =
    fed_line _ _ _ c.args.reader.now c.loop-reader.reader c.next_byte.new.self c.loop-reader.long c.loop-reader.invariant.so_far c.whole.result c.in-Ok-eq10.field-0 c.drop_return.new.self
    c.drop_return.ensures c.in-Ok-eq10.ensures.line (subst (λ (l : List ℕ). TellsLine c.whole.result l (cond c.loop-reader.long Long (line_of l))) c.line.ensures c.whole.ensures)
    c.in-Ok-eq10.field-0-test c.in-Ok-eq10.ensures.next.0 c.in-Ok-eq10.ensures.next.1 c.in-Ok-eq10.ensures.next.2

pub loop-reader-smaller-then-is_full : goal.loop-reader-smaller-then-is_full
loop-reader-smaller-then-is_full g c = falls_by _ _ c.loop-reader.reader c.next_byte.new.self (c.in-Ok.byte ∷ []) c.in-Ok.ensures.next.0 (omega arith)

pub loop-reader-preserved-then-is_full : goal.loop-reader-preserved-then-is_full
loop-reader-preserved-then-is_full g c = record {
  so_far =
      let full : 4097 ≤ length c.next_byte.new.self.line = c.if-is_full.ensures.0 refl in
      one_more _ _ _ c.args.reader.now c.loop-reader.reader c.next_byte.new.self c.loop-reader.long c.loop-reader.invariant.so_far c.in-Ok.byte c.next_byte.new.self c.loop-reader.reader.line _
      c.in-Ok.ensures.next.0 c.in-Ok.ensures.next.1 c.in-Ok.ensures.next.2 c.in-Ok.byte-test.1 (ap (λ (l : List ℕ). record c.next_byte.new.self { line = l }) c.in-Ok.ensures.line)
      (too_long c.loop-reader.reader.line c.loop-reader.long c.in-Ok.byte (omega (arith, full, ap length c.in-Ok.ensures.line)));
  later = omega (arith, c.loop-reader.invariant.later, c.in-Ok.ensures.later);
  beside = c.in-Ok.ensures.beside ∙ c.loop-reader.invariant.beside;
}

pub loop-reader-smaller : goal.loop-reader-smaller
loop-reader-smaller g c =
    subst (λ (r : Reading). r.budget + length r.held < c.loop-reader.reader.budget + length c.loop-reader.reader.held) (sym c.keep.ensures)
    (falls_by _ _ c.loop-reader.reader c.next_byte.new.self (c.in-Ok.byte ∷ []) c.in-Ok.ensures.next.0 (omega arith))

pub loop-reader-preserved : goal.loop-reader-preserved
loop-reader-preserved g c = record {
  so_far =
      let room : length c.next_byte.new.self.line < 4097 = grind (arith, common_steps, c.if-is_full.ensures) in
      one_more _ _ _ c.args.reader.now c.loop-reader.reader c.next_byte.new.self c.loop-reader.long c.loop-reader.invariant.so_far c.in-Ok.byte c.keep.new.self (c.loop-reader.reader.line ++ c.in-Ok.byte ∷ []) _
      c.in-Ok.ensures.next.0 c.in-Ok.ensures.next.1 c.in-Ok.ensures.next.2 c.in-Ok.byte-test.1
      (c.keep.ensures ∙ ap (λ (l : List ℕ). record c.next_byte.new.self { line = l ++ c.in-Ok.byte ∷ [] }) c.in-Ok.ensures.line)
      (pushed c.loop-reader.reader.line c.loop-reader.long c.in-Ok.byte (omega (arith, room, ap length c.in-Ok.ensures.line)));
  later = omega (arith, c.loop-reader.invariant.later, c.in-Ok.ensures.later);
  beside = c.in-Ok.ensures.beside ∙ c.loop-reader.invariant.beside;
}

pub returns-in-Err-Ended-clause-read : goal.returns-in-Err-Ended-clause-read
returns-in-Err-Ended-clause-read g c =
    let next = rw c.in-Err-Ended.field-0-is at c.in-Err-Ended.ensures.next in
    let some : length c.next_byte.new.self.line ≡ 0 → ⊥ = λ e. is_not_empty _ _ c.is_empty.ensures c.if-is_empty.false (ap length c.line-in-Err-Ended.ensures ∙ e) in
    last_line _ _ _ c.args.reader.now c.loop-reader.reader c.next_byte.new.self c.loop-reader.long c.loop-reader.invariant.so_far c.whole-in-Err-Ended.result c.in-Err-Ended.ensures.line
    (subst (λ (l : List ℕ). TellsLine c.whole-in-Err-Ended.result l (cond c.loop-reader.long Long (line_of l))) c.line-in-Err-Ended-2.ensures c.whole-in-Err-Ended.ensures)
    (omega (arith, some)) next.0 next.1 next.2

pub returns-in-Err-SourceFault-clause-read : goal.returns-in-Err-SourceFault-clause-read
returns-in-Err-SourceFault-clause-read g c =
    let next = rw c.in-Err-SourceFault.field-0-is at c.in-Err-SourceFault.ensures.next in
    cut_line _ _ _ c.args.reader.now c.loop-reader.reader c.next_byte.new.self c.loop-reader.long c.loop-reader.invariant.so_far
    next.0 next.1 next.2

pub returns-in-Err-OverBudget-clause-read : goal.returns-in-Err-OverBudget-clause-read
returns-in-Err-OverBudget-clause-read g c =
    let next = rw c.in-Err-OverBudget.field-0-is at c.in-Err-OverBudget.ensures.next in
    over_line _ _ _ c.args.reader.now c.loop-reader.reader c.next_byte.new.self c.loop-reader.long c.loop-reader.invariant.so_far next.0 next.1 next.2 next.3 next.4
