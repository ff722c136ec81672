-- What a loop over the requests of an input keeps.
use Rattle.std.specs.Prelude.{◌≡◌, ℕ, List, [], ◌++◌, Bool, true, false, IsTrue}
use Rattle.std.specs.Io.KnownBytes.{Appends}
use Rattle.base.specs.Causes.{AreCounted}
use Rattle.bank.specs.View.{View}
use Rattle.input.specs.Reading.{Reading, Items, Moved}
use Rattle.session.specs.Requests.{Request}
use Rattle.session.specs.Rounds.{Phase, Round, GoOn, IsRun, phase_after, asked, output, AreInTime, marks_from, status_from, faults_in, journal_faults_in, IsLastArea, JournalsStood, folder_faults_in}
use Rattle.session.specs.Session.{Outside}
use Rattle.session.specs.Kept.{AreKept}
use Rattle.session.specs.declared.kept.Mark.{Mark}
use Rattle.site_history.specs.Terms.{Terms}

-- all that was asked was answered whole, and the session goes on
pub record Ran (terms : Terms) (Asks : Items Request) (Stands : Phase → Type 0) (tells : Bool) (store : View) (old new : Outside) (start reader : Reading) (first : Phase) (marks : List Mark) (status : ℕ) : Type 0 where
  pub rounds : List Round
  pub used : List ℕ
  pub moved : Moved old.left new.left start reader used []
  pub opened : reader.ended ≡ false → (more : List ℕ) (ended : Bool) → Asks (used ++ more) ended ≡ asked rounds ++ Asks more ended
  pub whole : reader.ended ≡ true → Asks used true ≡ asked rounds
  pub run : IsRun terms tells old.folder first rounds
  pub go_on : GoOn rounds
  pub stands : Stands (phase_after first rounds)
  pub written : Appends old.written new.written (output rounds)
  pub marks_kept : marks ≡ marks_from 0 rounds
  pub in_time : IsTrue tells → AreInTime old.instant rounds new.instant
  pub kept : IsTrue tells → AreKept terms store old.instant first.world rounds
  pub counted : AreCounted old.bank_faults (faults_in rounds) new.bank_faults
  pub journal_counted : AreCounted old.journal_faults (journal_faults_in rounds) new.journal_faults
  pub last_area : IsLastArea rounds new.last_fault
  pub journals_stood : IsTrue tells → JournalsStood store old.instant rounds
  pub folder_stays : new.folder ≡ old.folder
  pub folder_counted : AreCounted old.folder_faults (folder_faults_in rounds) new.folder_faults
  pub status_now : status ≡ status_from rounds 0
