use Rattle.std.proofs.Common.{◌≡◌, ◌+◌, ◌∷◌, [], List, ℕ, length, arith, ap, subst, ◌∙◌, length-append}
use Rattle.bank.specs.View.{Wrote}
use Rattle.bank.proofs.Writes.{wrote}
use Rattle.journal.specs.Records.{frame}
use Rattle.journal.proofs.RecordLaws.{length-frame}
use Rattle.journal.proofs.writing.write_short.Goals as goal

pub write-requires : goal.write-requires
write-requires g c = omega (arith, ap (λ (l : List ℕ). length l) (c.as_slice.ensures.value ∙ c.fill.ensures.framed), length-append (frame c.args.payload.now) (0 ∷ []), length-frame c.args.payload.now)

pub returns-clause-wrote : goal.returns-clause-wrote
returns-clause-wrote g c = λ told.
    let long : length c.as_slice.result.now ≡ 5 + length c.args.payload.now =
    omega (arith, ap (λ (l : List ℕ). length l) (c.as_slice.ensures.value ∙ c.fill.ensures.framed), length-append (frame c.args.payload.now) (0 ∷ []), length-frame c.args.payload.now) in
    subst (λ (n : ℕ). Wrote 0 (c.args.place + 1) n (g.B.Bank.view c.args.bank.now) (g.B.Bank.view c.write.new.self)) long
    (wrote _ _ _ _ _ (g.met.B.Bank.sound _ told) (g.met.B.Bank.sound _ told) (c.write.ensures.torn told))
