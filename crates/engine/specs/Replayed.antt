-- What was read of a journal.
use Rattle.std.specs.Prelude.{◌≡◌, Bool, IsTrue, length, List}
use Rattle.bank.specs.Content.{Content}
use Rattle.journal.specs.Records.{AreRecords, IsEnd, end_of}
use Rattle.journal.specs.Readers.{ReaderState}
use Rattle.journal.specs.State.{JournalState}
use Rattle.site_history.specs.Terms.{Terms}
use Rattle.site_history.specs.Steps.{HistoryStep}
use Rattle.site_history.specs.Histories.{after, IsHistory, journal_length, written_forms}
use Rattle.site_state.specs.declared.state.SiteState.{SiteState}
use Rattle.site_state.specs.Keeps.{Keeps}

-- the site keeps what this history leaves, and the journal has its records
pub record IsReplayed (terms : Terms) (journal : JournalState) (site : SiteState) (steps : List HistoryStep) : Type 0 where
  pub history : IsHistory terms steps
  pub keeps : Keeps site (after terms steps).fields
  pub count : journal.count ≡ length steps
  pub place : journal.place ≡ journal_length steps

-- The site keeps what a history leaves, and the reader stands behind its records; where the store tells its content, they are
-- those of the journal's area.
pub record IsReadUpTo (terms : Terms) (told : Bool) (c : Content) (reader : ReaderState) (site : SiteState) : Type 0 where
  pub steps : List HistoryStep
  pub history : IsHistory terms steps
  pub keeps : Keeps site (after terms steps).fields
  pub count : reader.count ≡ length steps
  pub place : reader.place ≡ end_of 0 (written_forms steps)
  pub records : IsTrue told → AreRecords c 0 (written_forms steps) reader.size

-- and there the journal ends
pub record IsReadToEnd (terms : Terms) (told : Bool) (c : Content) (reader : ReaderState) (site : SiteState) : Type 0 where
  pub so_far : IsReadUpTo terms told c reader site
  pub shut : IsTrue told → IsEnd c reader.place reader.size
