use Rattle.std.proofs.Common.{◌≡◌, ℕ, ◌+◌, ◌<◌, ◌^◌, ◌++◌, ◌∷◌, [], List, length, refl, sym, ◌∙◌, ap, subst, arith}
use Rattle.std.specs.Prelude.{IsTrue}
use Rattle.journal.specs.Records.{AllHold, IsBeforeOrAfter}
use Rattle.journal.specs.State.{JournalState}
use Rattle.bank.specs.View.{LeavesOnly, Wrote}
use Rattle.site_types.specs.declared.step.Step.{Step}
use Rattle.site_history.specs.Histories.{written_forms}
use Rattle.site_history.specs.Worlds.{site_of, steps_of}
use Rattle.site_history.specs.Steps.{fields_after, IsLegal}
use Rattle.site_history.proofs.WorldLaws.{world_kept}
use Rattle.site_state.specs.Keeps.{Keeps}
use Rattle.engine.proofs.Committing.{at_end, count_is, keeps_now, records_now, made_moves, owed_moves}
use Rattle.engine.proofs.engine.Engine.commit.Goals as goal

pub returns-in-Ok-clause-made : goal.returns-in-Ok-clause-made
returns-in-Ok-clause-made g c = λ terms told tells w made is ready.
    let same : c.deref.result.now ≡ c.args.self.now.payload.items = c.deref.ensures.value in
    let place = λ (t : IsTrue told). at_end terms told g.B.Bank.view c.args.self.now c.args.self.now w made ready t in
    let holds = λ (t : IsTrue told). records_now terms told g.B.Bank.view c.args.self.now c.args.self.now w made ready t (g.met.B.Bank.sound _ (tells t)) in
    let few : steps_of w + 1 < 2 ^ 64 = omega (arith, c.count-self.ensures, c.count-self.type_inv, count_is terms told g.B.Bank.view c.args.self.now c.args.self.now w made ready, c.in-Ok.ensures.count) in
    made_moves terms told g.B.Bank.view c.args.self.now _ w made ready refl c.in-Ok.ensures.size
    (λ t. g.met.B.Bank.sound _ (tells t)) (λ t. g.met.B.Bank.sound _ (tells t))
    (λ t. subst (λ (l : List ℕ). LeavesOnly (g.B.Bank.view c.args.self.now.bank) (g.B.Bank.view c.append.new.bank)
    (IsBeforeOrAfter (g.B.Bank.view c.args.self.now.bank) (written_forms w.history) l c.args.self.now.journal.size)) same
    (c.in-Ok.ensures.any_instant (tells t) (written_forms w.history) (place t) (holds t)))
    (c.count-self.ensures ∙ c.in-Ok.ensures.count.1 ∙ c.in-Ok.ensures.count.0) (c.in-Ok.ensures.count.1 ∙ c.in-Ok.ensures.count.0)
    (c.in-Ok.ensures.place ∙ ap (λ (l : List ℕ). c.args.self.now.journal.place + 5 + length l) same)
    c.requires.ready
    (subst (λ (s : Step). Keeps c.apply.new.self (fields_after terms s (site_of terms w).fields)) (sym is)
    (c.apply.ensures terms (steps_of w) (site_of terms w).fields (world_kept terms w ready.stands.kept) few (keeps_now terms told g.B.Bank.view c.args.self.now c.args.self.now w made ready) (subst (λ (s : Step). IsLegal terms (site_of terms w).fields s) is ready.legal)))
    (λ t. subst (λ (l : List ℕ). AllHold (g.B.Bank.view c.append.new.bank) (written_forms w.history ++ l ∷ []) c.args.self.now.journal.size) same
    (c.in-Ok.ensures.acknowledged (tells t) (written_forms w.history) (place t) (holds t)))
    (λ t. subst (λ (l : List ℕ). Wrote 0 c.args.self.now.journal.place (6 + length l) (g.B.Bank.view c.args.self.now.bank) (g.B.Bank.view c.append.new.bank)) same (c.in-Ok.ensures.wrote (tells t)))

pub returns-in-Err-BankFault-clause-owed : goal.returns-in-Err-BankFault-clause-owed
returns-in-Err-BankFault-clause-owed g c = λ terms told tells w made is ready.
    let same : c.deref.result.now ≡ c.args.self.now.payload.items = c.deref.ensures.value in
    let place = λ (t : IsTrue told). at_end terms told g.B.Bank.view c.args.self.now c.args.self.now w made ready t in
    owed_moves terms told g.B.Bank.view c.args.self.now _ w made ready refl (ap (λ (j : JournalState). j.size) c.in-Err-BankFault.ensures.err)
    (λ t. g.met.B.Bank.sound _ (tells t)) (λ t. g.met.B.Bank.sound _ (tells t))
    (λ t. subst (λ (l : List ℕ). LeavesOnly (g.B.Bank.view c.args.self.now.bank) (g.B.Bank.view c.append.new.bank)
    (IsBeforeOrAfter (g.B.Bank.view c.args.self.now.bank) (written_forms w.history) l c.args.self.now.journal.size)) same
    (c.in-Err-BankFault.ensures.any_instant (tells t) (written_forms w.history) (place t)
    (records_now terms told g.B.Bank.view c.args.self.now c.args.self.now w made ready t (g.met.B.Bank.sound _ (tells t)))))
    refl refl
