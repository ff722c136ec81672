-- Where a session stands, and how a round moves it.
use Rattle.std.specs.Prelude.{◌≡◌, ◌⊎◌, ℕ, List, Bool, IsTrue, Option}
use Rattle.bank.specs.View.{View, LeavesOnly}
use Rattle.engine.specs.declared.engine.Engine.{Engine}
use Rattle.engine.specs.StandsFor.{StandsFor}
use Rattle.site_history.specs.Images.{ReadsAs}
use Rattle.session.specs.Rounds.{Phase, moments_of}
use Rattle.site_history.specs.Terms.{Terms}

-- The engine stands for the world of a phase, and its moments are those to come: the session's own moment, or else those that a
-- clock tells.
pub record StandsAt (terms : Terms) {B P : Type 0} (told : Bool) (view : B → View) (engine : Engine B P) (own_moment : Option ℕ) (clock : Option (List ℕ)) (phase : Phase) : Type 0 where
  pub world : StandsFor terms told view engine phase.world
  pub moments : phase.moments ≡ moments_of own_moment clock

-- From a phase the engine was moved to the world of another, and the moments then to come are that phase's. Each image meanwhile
-- reads as the one world or as the other.
pub record IsMoved (terms : Terms) {B P : Type 0} (told : Bool) (view : B → View) (old new : Engine B P) (own_moment : Option ℕ) (clock : Option (List ℕ)) (phase phase' : Phase) : Type 0 where
  pub world : StandsFor terms told view new phase'.world
  pub meanwhile : IsTrue told → LeavesOnly (view old.bank) (view new.bank) (λ c. ReadsAs terms phase.world c ⊎ ReadsAs terms phase'.world c)
  pub moments : phase'.moments ≡ moments_of own_moment clock
