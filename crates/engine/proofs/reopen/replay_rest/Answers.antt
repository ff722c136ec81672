use Rattle.std.proofs.Common.{ℕ, ◌+◌, ◌<◌, ◌^◌, List, length, refl, sym, ◌∙◌, subst, arith}
use Rattle.bank.proofs.Readings.{nothing_read, read_then_read}
use Rattle.journal.specs.Readers.{IsFound, GoesOn}
use Rattle.journal.specs.declared.reader.Found.{Found}
use Rattle.site_history.specs.Histories.{after}
use Rattle.site_history.specs.Journals.{IsBadJournal}
use Rattle.site_history.proofs.KeptLaws.{after_kept}
use Rattle.site_state.specs.Replays.{IsReplayed as IsStepReplayed, IsOfNoStep, TellsPayload}
use Rattle.site_state.specs.declared.replays.ReplayRefusal.{ReplayRefusal}
use Rattle.engine.proofs.Reading.{still_over, found_before, read_more, read_to_end, bad_length, bad_step}
use Rattle.engine.proofs.reopen.replay_rest.Goals as goal

pub records-init : goal.records-init
records-init g c = record {
  over = λ told. c.requires.over told;
  so_far = c.requires.so_far;
  size = refl;
  unchanged = λ told. nothing_read _ (g.met.B.Bank.sound _ told);
  later = omega arith;
  journal_later = omega arith;
}

pub returns-in-End-clause-read : goal.returns-in-End-clause-read
returns-in-End-clause-read g c = λ terms.
    let i = c.records.invariant in
    let content = (g.B.Bank.view c.args.bank.now).content 0 in
    read_to_end terms g.B.Bank.tells content c.records.reader c.advance.new.self c.records.site (i.so_far terms)
    (subst (λ (f : Found). GoesOn c.records.reader c.advance.new.self f) c.in-End.is c.in-Ok.ensures.on)
    c.advance.ensures.size
    (λ told. subst (λ (f : Found). IsFound content c.records.reader c.advance.new.self f) c.in-End.is
    (found_before _ _ c.records.reader c.advance.new.self c.in-Ok.found (i.unchanged told) (λ over. c.in-Ok.ensures.found told over) (i.over told)))

pub returns-in-BadLength-clause-bad : goal.returns-in-BadLength-clause-bad
returns-in-BadLength-clause-bad g c = λ told terms size.
    let i = c.records.invariant in
    let content = (g.B.Bank.view c.args.bank.now).content 0 in
    let found = subst (λ (f : Found). IsFound content c.records.reader c.advance.new.self f) c.in-BadLength.is
    (found_before _ _ c.records.reader c.advance.new.self c.in-Ok.found (i.unchanged told) (λ over. c.in-Ok.ensures.found told over) (i.over told)) in
    subst (λ (n : ℕ). IsBadJournal terms content n) (sym c.place-place.ensures.place)
    (bad_length terms g.B.Bank.tells content c.records.reader c.advance.new.self c.records.site (i.so_far terms) (i.size ∙ size) told found)

pub records-preserved : goal.records-preserved
records-preserved g c =
    let i = c.records.invariant in
    let content = (g.B.Bank.view c.args.bank.now).content 0 in
    record {
      over = λ told. still_over _ _ c.records.reader c.advance.new.self (i.unchanged told) (λ over. c.in-Ok.ensures.over told over) (i.over told);
      so_far = λ terms.
          let before = i.so_far terms in
          let few : length before.steps + 1 < 2 ^ 64 = omega (arith, before.count, c.place-place.ensures.few, c.place-place.ensures.bounded) in
          let made = subst (λ (p : List ℕ). IsStepReplayed terms (after terms before.steps).fields p c.replay.new.self) c.payload.ensures
          (c.in-Ok-replay.ensures.made terms (length before.steps) (after terms before.steps).fields (after_kept terms before.steps before.history) few before.keeps) in
          read_more terms g.B.Bank.tells content c.records.reader c.advance.new.self c.records.site before c.replay.new.self
          (subst (λ (f : Found). GoesOn c.records.reader c.advance.new.self f) c.in-Record.is c.in-Ok.ensures.on)
          c.advance.ensures.size
          (λ told. subst (λ (f : Found). IsFound content c.records.reader c.advance.new.self f) c.in-Record.is
          (found_before _ _ c.records.reader c.advance.new.self c.in-Ok.found (i.unchanged told) (λ over. c.in-Ok.ensures.found told over) (i.over told)))
          made;
      size = c.advance.ensures.size ∙ i.size;
      unchanged = λ told. read_then_read _ _ _ (i.unchanged told) (c.advance.ensures.unchanged told);
      later = omega (arith, i.later, c.advance.ensures.counted.later);
      journal_later = omega (arith, i.journal_later, c.advance.ensures.counted.journal_later);
    }

pub returns-in-Err-BadStep-clause-bad : goal.returns-in-Err-BadStep-clause-bad
returns-in-Err-BadStep-clause-bad g c = λ told terms size.
    let i = c.records.invariant in
    let content = (g.B.Bank.view c.args.bank.now).content 0 in
    let fields = (after terms (i.so_far terms).steps).fields in
    let found = subst (λ (f : Found). IsFound content c.records.reader c.advance.new.self f) c.in-Record.is
    (found_before _ _ c.records.reader c.advance.new.self c.in-Ok.found (i.unchanged told) (λ over. c.in-Ok.ensures.found told over) (i.over told)) in
    let refused = subst (λ (p : List ℕ). IsOfNoStep terms fields p) c.payload.ensures
    (subst (λ (r : ReplayRefusal). TellsPayload terms fields c.payload.result.now r) c.in-Err-BadStep.field-0-is (c.in-Err-BadStep.ensures.refused terms fields (i.so_far terms).keeps)) in
    subst (λ (n : ℕ). IsBadJournal terms content n) (sym c.place-place.ensures.place)
    (bad_step terms g.B.Bank.tells content c.records.reader c.advance.new.self c.records.site (i.so_far terms) (i.size ∙ size) told found refused)
