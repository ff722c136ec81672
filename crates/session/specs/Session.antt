-- A session: from bytes to bytes.
use Rattle.std.specs.Prelude.{◌≡◌, ◌≢◌, ◌≤◌, ℕ, List, [], ◌∷◌, ◌++◌, length, take, Option, Bool, true, false, IsTrue}
use Rattle.std.specs.Io.KnownBytes.{Consumes, Appends, IsAtEnd}
use Rattle.base.specs.Causes.{Rose, AreCounted}
use Rattle.outside.specs.declared.folder.NamedText.{NamedText}
use Rattle.bank.specs.View.{View}
use Rattle.input.specs.Reading.{Items}
use Rattle.session.specs.Requests.{Request}
use Rattle.session.specs.Rounds.{Phase, Round, IsRun, phase_after, asked, output, AreInTime, marks_from, status_from, faults_in, journal_faults_in, IsLastArea, JournalsStood, folder_faults_in, GoOn, calm}
use Rattle.session.specs.Machine.{AreResponses, machine_run, texts_told}
use Rattle.session.specs.Kept.{AreKept}
use Rattle.session.specs.declared.kept.Mark.{Mark}
use Rattle.session.specs.declared.kept.Ending.{Ending}
use Rattle.session.specs.declared.kept.Ending.TheVariants.{Ended, Closed, SourceFault, SinkFault, OverBudget, NoMemory}
use Rattle.site_history.specs.Terms.{Terms}

-- what is told of the objects outside
pub record Outside : Type 0 where
  pub left : Option (List ℕ)
  pub source_faults : ℕ
  pub written : Option (List ℕ)
  pub sink_faults : ℕ
  pub folder : Option (List NamedText)
  pub folder_faults : ℕ
  -- the store's faults, those of them in the journal's area, the area of the last one, and its instant
  pub bank_faults : ℕ
  pub journal_faults : ℕ
  pub last_fault : ℕ
  pub instant : ℕ

-- what a source, a sink, a folder and a store tell
abbrev pub seen : {S K F B : Type 0} → (S → Option (List ℕ)) → (S → ℕ) → (K → Option (List ℕ)) → (K → ℕ) → (F → Option (List NamedText)) → (F → ℕ)
    → (B → ℕ) → (B → ℕ) → (B → ℕ) → (B → View) → S → K → F → B → Outside
seen left source_faults written sink_faults texts folder_faults bank_faults journal_faults last_fault view source sink folder bank = record {
  left = left source;
  source_faults = source_faults source;
  written = written sink;
  sink_faults = sink_faults sink;
  folder = texts folder;
  folder_faults = folder_faults folder;
  bank_faults = bank_faults bank;
  journal_faults = journal_faults bank;
  last_fault = last_fault bank;
  instant = (view bank).instant;
}

abbrev pub status_of : Ending → ℕ
status_of Ended = 0
status_of Closed = 0
status_of SourceFault = 4
status_of SinkFault = 5
status_of OverBudget = 7
status_of NoMemory = 9

-- How a session ended: none of the answers but the last ends it, and where the last one does, that ended it.
-- beyond: the bytes taken beyond the budget; met_end: whether the input's end was met; answered: the rounds whose answer was
-- written whole; unanswered: those whose answer was not; cut: what was written of it; lost: what was not; unasked: the requests that
-- have no round
abbrev pub Ends : ℕ → Outside → Outside → List ℕ → List ℕ → Bool → List Round → List Round → List ℕ → List ℕ → List Request → Ending → Type 0
Ends budget old new read beyond met_end answered unanswered cut lost unasked Ended =
    GoOn answered × (beyond ≡ []) × (met_end ≡ true) × (unasked ≡ []) × (unanswered ≡ [])
Ends budget old new read beyond met_end answered unanswered cut lost unasked Closed =
    ((front : List Round) × (last : Round) × (answered ≡ front ++ last ∷ []) × GoOn front × (last.request.closes last.reply ≡ true)) × (beyond ≡ []) × (unanswered ≡ [])
Ends budget old new read beyond met_end answered unanswered cut lost unasked SourceFault =
    GoOn answered × (beyond ≡ []) × (met_end ≡ false) × (unasked ≡ []) × (unanswered ≡ []) × Rose old.source_faults new.source_faults
Ends budget old new read beyond met_end answered unanswered cut lost unasked OverBudget =
    GoOn answered × (length beyond ≡ 1) × (length read ≡ budget) × (met_end ≡ false) × (unasked ≡ []) × (unanswered ≡ [])
Ends budget old new read beyond met_end answered unanswered cut lost unasked SinkFault =
    GoOn answered × (beyond ≡ []) × (length unanswered ≡ 1) × (lost ≢ []) × Rose old.sink_faults new.sink_faults
Ends budget old new read beyond met_end answered unanswered cut lost unasked NoMemory =
    GoOn answered × (beyond ≡ []) × (length unanswered ≡ 1) × (cut ≡ [])

-- A session from a phase, on these terms: what was read, asked, answered and written, what ended it, and what a
-- crash at any instant left. `Asks` is what a text asks and how that is answered, be it the lines of a script or the requests of a
-- protocol. `Stands` says at which phase the session stands at the end, `tells` whether the store tells its content, and `store`
-- what it tells at the end.
pub record IsSession (terms : Terms) (Asks : Items Request) (Stands : Phase → Type 0) (tells : Bool) (budget : ℕ) (store : View) (old new : Outside) (first : Phase) (marks : List Mark) (status : ℕ) : Type 0 where
  -- the bytes taken from the source, within the budget and beyond it
  pub read : List ℕ
  pub beyond : List ℕ
  pub taken : Consumes old.left new.left (read ++ beyond)
  pub within : length read ≤ budget
  pub met_end : Bool
  pub end : met_end ≡ true → IsAtEnd new.left
  -- the rounds: those whose answers were written whole, and at most one more
  pub answered : List Round
  pub unanswered : List Round
  pub unasked : List Request
  pub asks : asked (answered ++ unanswered) ++ unasked ≡ Asks read met_end
  pub run : IsRun terms tells old.folder first (answered ++ unanswered)
  pub stands : Stands (phase_after first (answered ++ unanswered))
  -- what was written
  pub cut : List ℕ
  pub lost : List ℕ
  pub cut_off : cut ++ lost ≡ output unanswered
  pub written : Appends old.written new.written (output answered ++ cut)
  pub marks_kept : marks ≡ marks_from 0 answered
  pub in_time : IsTrue tells → AreInTime old.instant (answered ++ unanswered) new.instant
  -- what a crash left at any instant since
  pub kept : IsTrue tells → AreKept terms store old.instant first.world (answered ++ unanswered)
  -- what the journal's area read when each round began
  pub journals_stood : IsTrue tells → JournalsStood store old.instant (answered ++ unanswered)
  -- what was counted
  pub counted : AreCounted old.bank_faults (faults_in (answered ++ unanswered)) new.bank_faults
  pub journal_counted : AreCounted old.journal_faults (journal_faults_in (answered ++ unanswered)) new.journal_faults
  pub last_area : IsLastArea (answered ++ unanswered) new.last_fault
  pub folder_stays : new.folder ≡ old.folder
  pub folder_counted : AreCounted old.folder_faults (folder_faults_in (answered ++ unanswered)) new.folder_faults
  -- the status
  pub ending : Ending
  pub ends : Ends budget old new read beyond met_end answered unanswered cut lost unasked ending
  pub first_cause : status ≡ status_from (answered ++ unanswered) (status_of ending)
  -- Up to the first fault or want of memory all answers and worlds are the machine's, for the bytes that were read, the folder's
  -- texts and the moments. Where the folder tells nothing, so it is up to the first `configure` as well, and where a clock tells
  -- nothing up to the first event.
  pub fixed : AreResponses tells (calm old.folder first.moments (answered ++ unanswered))
      (machine_run terms (texts_told old.folder) first (take (length (calm old.folder first.moments (answered ++ unanswered))) (Asks read met_end)))
