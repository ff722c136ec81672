-- What a whole call does.
use Rattle.std.specs.Prelude.{◌≡◌, ◌≤◌, ◌<◌, ◌⊎◌, ℕ, List, [], ◌++◌, length, Bool, true, IsTrue, None, IfSome}
use Rattle.std.specs.List.{list_all}
use Rattle.std.specs.Io.KnownBytes.{Appends, IsAtEnd}
use Rattle.base.specs.declared.limits.TheConstants.{JOURNAL_SIZE_MAX}
use Rattle.base.specs.Causes.{Rose}
use Rattle.outside.specs.Streams.{IsWritten}
use Rattle.bank.specs.Content.{Content}
use Rattle.bank.specs.View.{View, OnlyRead}
use Rattle.site_events.specs.declared.reply.Reply.TheVariants.{BadJournal}
use Rattle.desk.specs.Texts.{text_of}
use Rattle.site_history.specs.Terms.{Terms}
use Rattle.site_history.specs.Steps.{HistoryStep}
use Rattle.site_history.specs.Worlds.{World}
use Rattle.site_history.specs.Turns.{IsFound}
use Rattle.site_history.specs.Images.{IsSettled, IsSettledAs}
use Rattle.site_history.specs.Journals.{IsBadJournal}
use Rattle.input.specs.Reading.{Items}
use Rattle.session.specs.Asking.{asks_of}
use Rattle.session.specs.Rounds.{Phase, phase_after, asked, own, is_fixed}
use Rattle.session.specs.Requests.{Request}
use Rattle.session.specs.Machine.{output_of, texts_told}
use Rattle.session.specs.Kept.{IsOpening, AreHeld}
use Rattle.session.specs.Session.{Outside, IsSession}
use Rattle.session.specs.declared.kept.Mark.{Mark}

-- the size of the journal's area, in bytes
abbrev pub journal_bytes : ℕ
journal_bytes = JOURNAL_SIZE_MAX

-- the terms of a run, with these patterns
abbrev pub run_terms : (List ℕ → List ℕ → Bool) → Terms
run_terms finds = record { size = journal_bytes; finds = finds }

-- a run of lines in a world begins at the clock's moment, which is its own until `at` moves it on
abbrev pub phase_of : World → Phase
phase_of w = record { world = w; moments = own w.clock }

-- why nothing was asked: a fault of the store, want of memory, or a bad journal, which is told with its place
abbrev pub Refusal : Terms → Outside → Outside → Bool → Content → ℕ → Type 0
Refusal terms old new tells journal status =
    ((status ≡ 3) × Rose old.bank_faults new.bank_faults × Appends old.written new.written [])
    ⊎ ((status ≡ 9) × Appends old.written new.written [])
    ⊎ ((place : ℕ) × (status ≡ 2) × (IsTrue tells → IsBadJournal terms journal place)
    × IsWritten old.written new.written old.sink_faults new.sink_faults (text_of (BadJournal place)))

-- The store was not opened, or no memory was found to read a line. Nothing was read of the source and of the folder, and the
-- store was only read, whatever stands in it; `tells` is whether it tells its content.
pub record IsRefused (terms : Terms) (tells : Bool) (entry store : View) (old new : Outside) (marks : List Mark) (status : ℕ) : Type 0 where
  pub unread : new.left ≡ old.left
  pub no_read_failed : new.source_faults ≡ old.source_faults
  pub folder_stays : new.folder ≡ old.folder
  pub folder_unread : new.folder_faults ≡ old.folder_faults
  pub no_marks : marks ≡ []
  pub refusal : Refusal terms old new tells (entry.content 0) status
  pub only_read : IsTrue tells → OnlyRead entry store

-- The store was opened, and a session followed. At its end the store is settled for the last world: for its history, or for
-- that with the step that is owed. `Asks` is what a text asks, and `begins` where a session in a world begins.
pub record IsAnswered (terms : Terms) (Asks : Items Request) (begins : World → Phase) (tells : Bool) (budget : ℕ) (entry store : View) (old new : Outside) (before : List HistoryStep) (marks : List Mark) (status : ℕ) : Type 0 where
  -- the world that the store was opened with
  pub found : World
  pub is_found : IsFound terms tells before found
  -- the instant at which it was open
  pub opened : ℕ
  pub opening : IsTrue tells → IsOpening entry store opened
  pub session : IsSession terms Asks (λ phase. IsTrue tells → IsSettledAs terms store phase.world) tells budget store (record old { instant = opened }) new (begins found) marks status
  -- a step is owed only after a fault of the journal
  pub rests : (Rose old.journal_faults new.journal_faults → ⊥) → (phase_after (begins found) (session.answered ++ session.unanswered)).world.owed ≡ None
  -- each acknowledged step is held by whatever a crash left since its mark
  pub acknowledged : IsTrue tells → AreHeld terms store (phase_after (begins found) (session.answered ++ session.unanswered)).world.history marks
  -- With status 0 what was written is the machine's output for what was asked, up to an answer that ended the session. That is
  -- fixed but where `configure` was asked and the folder tells nothing, or an event and a clock tells nothing.
  pub output : IsTrue tells → status ≡ 0 → IsTrue (list_all (λ (request : Request). is_fixed old.folder (begins found).moments request.asked) (asked (session.answered ++ session.unanswered)))
      → Appends old.written new.written (output_of terms (texts_told old.folder) (begins found) (Asks session.read session.met_end))

-- Of a run of lines in this world: with status 0 what was written is the machine's output for all that was read. That is
-- fixed but where `configure` was asked and the folder tells nothing.
abbrev pub WritesWhole : Terms → Bool → ℕ → Outside → Outside → World → ℕ → Type 0
WritesWhole terms tells budget old new found status = IsTrue tells → status ≡ 0 → IfSome old.left (λ bytes. (length bytes ≤ budget)
    × (IsTrue (list_all (λ (request : Request). is_fixed old.folder (phase_of found).moments request.asked) (asks_of bytes true))
    → Appends old.written new.written (output_of terms (texts_told old.folder) (phase_of found) (asks_of bytes true))))

-- What a call does that answers lines; `tells` is whether the store tells its content. Where `told` that is made use of: the store
-- was then settled for this history before the call. It was opened, and a session followed; or it was refused, and is as settled as
-- before.
abbrev pub IsOutcome : Terms → Bool → Bool → ℕ → View → View → Outside → Outside → List HistoryStep → List Mark → ℕ → Type 0
IsOutcome terms told tells budget entry store old new before marks status =
    ((answered : IsAnswered terms asks_of phase_of told budget entry store old new before marks status) × WritesWhole terms told budget old new answered.found status)
    ⊎ (IsRefused terms tells entry store old new marks status × (IsTrue told → IsSettled terms store before))

-- The causes of a status, over any store, and what the statuses 0 and 7 mean. `journal` is what stands in the journal's area.
pub record HasStatus (terms : Terms) (tells : Bool) (journal : Content) (budget : ℕ) (old new : Outside) (status : ℕ) : Type 0 where
  -- a bad journal is met at opening; at a reopening, which comes after a fault of the store alone, that fault is the first cause
  pub bad_journal : status ≡ 2 → IsTrue tells → (place : ℕ) × IsBadJournal terms journal place
  -- a fault of the store or of the folder
  pub fault : status ≡ 3 → Rose old.bank_faults new.bank_faults ⊎ Rose old.folder_faults new.folder_faults
  pub source : status ≡ 4 → Rose old.source_faults new.source_faults
  pub sink : status ≡ 5 → Rose old.sink_faults new.sink_faults
  pub over : status ≡ 7 → IfSome old.left (λ bytes. budget < length bytes)
  pub read : status ≡ 0 → IsAtEnd new.left
  -- where the journal is bad the status is 2, but for a fault of the store and want of memory
  pub refused : IsTrue tells → (place : ℕ) → IsBadJournal terms journal place → (status ≡ 2) ⊎ (status ≡ 9) ⊎ ((status ≡ 3) × Rose old.bank_faults new.bank_faults)
  -- where no count rose, an input within the budget ends with 0, a longer one with 7, but for a bad journal and want of memory
  pub complete : (Rose old.bank_faults new.bank_faults → ⊥) → (Rose old.folder_faults new.folder_faults → ⊥) → (Rose old.source_faults new.source_faults → ⊥)
      → (Rose old.sink_faults new.sink_faults → ⊥)
      → IfSome old.left (λ bytes. ((length bytes ≤ budget) → (status ≡ 0) ⊎ (status ≡ 2) ⊎ (status ≡ 9)) × ((budget < length bytes) → (status ≡ 7) ⊎ (status ≡ 2) ⊎ (status ≡ 9)))
