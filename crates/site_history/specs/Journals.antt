-- What the journal's area says.
use Rattle.std.specs.Prelude.{◌≡◌, ◌⊎◌, ℕ, List}
use Rattle.bank.specs.Content.{Content}
use Rattle.journal.specs.Records.{IsRecord, AreRecords, HoldsRecords, IsBadAt, end_of}
use Rattle.site_types.specs.declared.step.Step.{Step}
use Rattle.step_codec.specs.Written.{written}
use Rattle.site_history.specs.Terms.{Terms}
use Rattle.site_history.specs.Steps.{HistoryStep, IsLegal}
use Rattle.site_history.specs.Histories.{after, IsHistory, written_forms}

-- it holds the records of this history
pub record HoldsHistory (terms : Terms) (c : Content) (steps : List HistoryStep) : Type 0 where
  pub history : IsHistory terms steps
  pub records : HoldsRecords c 0 (written_forms steps) terms.size

-- behind the records of these steps, at this place, stands a record of no step that may come there
pub record HasBadStep (terms : Terms) (c : Content) (place : ℕ) (steps : List HistoryStep) : Type 0 where
  pub before : AreRecords c 0 (written_forms steps) terms.size
  pub behind : place ≡ end_of 0 (written_forms steps)
  pub payload : List ℕ
  pub here : IsRecord c place payload terms.size
  pub refused : (step : Step) → written step ≡ payload → IsLegal terms (after terms steps).fields step → ⊥

-- The journal is bad at this place: up to it stand the records of a history, and there a record whose length is none, or one
-- of no step that may come.
pub record IsBadJournal (terms : Terms) (c : Content) (place : ℕ) : Type 0 where
  pub steps : List HistoryStep
  pub history : IsHistory terms steps
  pub bad : IsBadAt c place terms.size (written_forms steps) ⊎ HasBadStep terms c place steps
