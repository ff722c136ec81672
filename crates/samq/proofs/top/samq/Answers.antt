use Rattle.std.proofs.Common.{◌≡◌, ℕ, [], Bool, true, false, IsTrue, sym, ◌∙◌, arith}
use Rattle.session.proofs.Handing.{never_one}
use Rattle.samq.proofs.top.samq.Goals as goal

-- a store that tells nothing promises nothing of what it tells
no_tells : {A : Type 0} → IsTrue false → A
no_tells t = absurd (let e : false ≡ true = t in cc)

-- the words are no form exactly where the status is 1
iff : (form : Bool) (status : ℕ) → form ≡ true → (status ≡ 1 → ⊥) → (status ≡ 1 → form ≡ false) × (form ≡ false → status ≡ 1)
iff form status is never = ((λ one. absurd (never one)), (λ no. absurd (let e : true ≡ false = sym is ∙ no in cc)))

pub returns-clause-words : goal.returns-clause-words
returns-clause-words g c = iff _ _ (grind (arith, c.is_form.ensures, c.if-not-is_form.false)) (never_one _ false _ _ _ _ _ [] _ _ g.B.Bank.tells (c.run_lines.ensures.outcome false no_tells [] no_tells))
