-- What the reading of a payload says, where it was of no step, and where of one.
use Rattle.std.proofs.Common.{◌≡◌, ℕ, List, sym, ◌∙◌, ap, subst, Option, Some, None, Result, Ok, Err}
use Rattle.std.specs.Prelude.{IfOk, IfSome, MatchOption}
use Rattle.site_types.specs.declared.step.Step.{Step}
use Rattle.step_codec.specs.Written.{written, InRange}
use Rattle.site_history.specs.Terms.{Terms}
use Rattle.site_history.specs.Site.{Fields}
use Rattle.site_history.specs.Steps.{IsLegal}
use Rattle.site_state.specs.declared.prepare.Prepared.{Prepared}
use Rattle.site_state.specs.Replays.{IsOfNoStep, IsRead}

pub read_none : (terms : Terms) (fields : Fields) (payload : List ℕ) (read : Option Prepared) → read ≡ None → IsRead terms fields payload read → IsOfNoStep terms fields payload
read_none terms fields payload read is h = subst (λ (o : Option Prepared). IsRead terms fields payload o) is h

pub read_some : (terms : Terms) (fields : Fields) (payload : List ℕ) (read : Option Prepared) (prepared : Prepared) → read ≡ Some prepared → IsRead terms fields payload read
    → IsLegal terms fields prepared.step × (payload ≡ written prepared.step)
read_some terms fields payload read prepared is h = subst (λ (o : Option Prepared). IsRead terms fields payload o) is h

-- what is read of a payload from which a step was decoded, by what was prepared
read_prepared : (terms : Terms) (fields : Fields) (payload : List ℕ) (step : Step) (Ready : Prepared → Type 0) (made : Option Prepared) → payload ≡ written step
    → ((s : Step) → InRange s → payload ≡ written s → s ≡ step) → MatchOption made (IsLegal terms fields step → ⊥) (λ _. IsLegal terms fields step)
    → IfSome made (λ prepared. (prepared.step ≡ step) × Ready prepared) → IsRead terms fields payload made
read_prepared terms fields payload step Ready None form only refused ready = λ s is legal. refused (subst (λ (x : Step). IsLegal terms fields x) (only s legal.0 (sym is)) legal)
read_prepared terms fields payload step Ready (Some prepared) form only legal ready =
    (subst (λ (x : Step). IsLegal terms fields x) (sym ready.0) legal, form ∙ ap written (sym ready.0))

pub read_result : {E : Type 0} (terms : Terms) (fields : Fields) (payload : List ℕ) (step : Step) (Ready : Prepared → Type 0) (result : Result (Option Prepared) E) → payload ≡ written step
    → ((s : Step) → InRange s → payload ≡ written s → s ≡ step) → IfOk result (λ made. MatchOption made (IsLegal terms fields step → ⊥) (λ _. IsLegal terms fields step))
    → IfOk result (λ made. IfSome made (λ prepared. (prepared.step ≡ step) × Ready prepared)) → IfOk result (IsRead terms fields payload)
read_result terms fields payload step Ready (Ok made) form only legal ready = read_prepared terms fields payload step Ready made form only legal ready
read_result terms fields payload step Ready (Err e) form only legal ready = tt
