-- What stands before a step is recorded.
use Rattle.std.specs.Prelude.{◌≡◌, Bool, false, IsTrue}
use Rattle.bank.specs.View.{View}
use Rattle.step_codec.specs.Written.{written}
use Rattle.site_history.specs.Terms.{Terms}
use Rattle.site_history.specs.Steps.{HistoryStep, IsLegal, HasBytes, step_extents}
use Rattle.site_history.specs.Worlds.{World, site_of}
use Rattle.site_history.specs.Pinned.{StandInAll}
use Rattle.engine.specs.declared.engine.Engine.{Engine}
use Rattle.engine.specs.StandsFor.{StandsFor}

-- The engine stands for a world with nothing open. The step may come there, at the clock's moment; its written form is in the
-- buffer, and where the store tells its content the bytes that it stores stand in whatever a crash leaves.
pub record IsReady (terms : Terms) {B P : Type 0} (told : Bool) (view : B → View) (engine : Engine B P) (w : World) (made : HistoryStep) : Type 0 where
  pub stands : StandsFor terms told view engine w
  pub ready : engine.due ≡ false
  pub legal : IsLegal terms (site_of terms w).fields made.step
  pub bytes : HasBytes made
  pub form : engine.payload.items ≡ written made.step
  pub moment : made.step.moment ≡ engine.clock
  pub stored : IsTrue told → StandInAll (view engine.bank) (step_extents made (site_of terms w))
