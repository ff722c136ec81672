-- What a payload of a journal says of a site.
use Rattle.std.specs.Prelude.{◌≡◌, ℕ, List, MatchOption, Option}
use Rattle.site_types.specs.declared.step.Step.{Step}
use Rattle.step_codec.specs.Written.{written}
use Rattle.site_history.specs.Terms.{Terms}
use Rattle.site_history.specs.Site.{Fields}
use Rattle.site_history.specs.Steps.{IsLegal, fields_after}
use Rattle.site_state.specs.declared.state.SiteState.{SiteState}
use Rattle.site_state.specs.declared.prepare.Prepared.{Prepared}
use Rattle.site_state.specs.declared.replays.ReplayRefusal.{ReplayRefusal}
use Rattle.site_state.specs.declared.replays.ReplayRefusal.TheVariants.{BadStep, NoMemory}
use Rattle.site_state.specs.Keeps.{Keeps}

-- the payload is the written form of no step that may come
abbrev pub IsOfNoStep : Terms → Fields → List ℕ → Type 0
IsOfNoStep terms fields payload = (step : Step) → written step ≡ payload → IsLegal terms fields step → ⊥

-- it is that of this step, or of none that may come
abbrev pub IsRead : Terms → Fields → List ℕ → Option Prepared → Type 0
IsRead terms fields payload read = MatchOption read (IsOfNoStep terms fields payload) (λ prepared. IsLegal terms fields prepared.step × (payload ≡ written prepared.step))

-- the payload is the written form of a step that may come, and the site keeps what that leaves
pub record IsReplayed (terms : Terms) (fields : Fields) (payload : List ℕ) (site : SiteState) : Type 0 where
  pub step : Step
  pub legal : IsLegal terms fields step
  pub form : payload ≡ written step
  pub keeps : Keeps site (fields_after terms step fields)

-- why a payload is not replayed
abbrev pub TellsPayload : Terms → Fields → List ℕ → ReplayRefusal → Type 0
TellsPayload terms fields payload BadStep = IsOfNoStep terms fields payload
TellsPayload terms fields payload NoMemory = Unit {0}
