-- What one round does.
use Rattle.std.specs.Prelude.{◌≡◌, ◌⊎◌, ◌+◌, ℕ, List, [], ◌∷◌, ◌++◌, length, Option, Some, None, Bool, true, false, IsTrue}
use Rattle.std.specs.Io.KnownBytes.{Appends}
use Rattle.base.specs.Causes.{Rose, AreCounted}
use Rattle.outside.specs.declared.folder.NamedText.{NamedText}
use Rattle.bank.specs.Content.{Image}
use Rattle.outside.specs.Streams.{IsCut}
use Rattle.bank.specs.View.{View, LeavesOnly, IsSince}
use Rattle.site_history.specs.Terms.{Terms}
use Rattle.site_history.specs.Images.{ReadsAs}
use Rattle.session.specs.Requests.{Request}
use Rattle.session.specs.Rounds.{Phase, Round, IsRoundOf, cause_of, first_of, mark_of, faults_of, journal_faults_of, folder_faults_of}
use Rattle.session.specs.declared.kept.Mark.{Mark}
use Rattle.session.specs.declared.kept.Ending.{Ending}
use Rattle.session.specs.declared.kept.Ending.TheVariants.{Ended, Closed, SourceFault, SinkFault, OverBudget, NoMemory}

-- what of an answer was written, and whether it has its mark; `text` is the whole of it, and `closes` whether it ends the session
abbrev pub Writes : Option (List ℕ) → Option (List ℕ) → ℕ → ℕ → List Mark → List Mark → Option Ending → List ℕ → Bool → Mark → Type 0
Writes written written' faults faults' marks marks' None text closes mark = Appends written written' text × (marks' ≡ marks ++ mark ∷ []) × (closes ≡ false)
Writes written written' faults faults' marks marks' (Some Closed) text closes mark = Appends written written' text × (marks' ≡ marks ++ mark ∷ []) × (closes ≡ true)
Writes written written' faults faults' marks marks' (Some SinkFault) text closes mark = IsCut written written' text × (marks' ≡ marks) × Rose faults faults'
Writes written written' faults faults' marks marks' (Some NoMemory) text closes mark = Appends written written' [] × (marks' ≡ marks)
Writes written written' faults faults' marks marks' (Some Ended) text closes mark = ⊥
Writes written written' faults faults' marks marks' (Some SourceFault) text closes mark = ⊥
Writes written written' faults faults' marks marks' (Some OverBudget) text closes mark = ⊥

-- A round from a phase: what was asked, what it did to sink, folder and store, and whether it ended the session. Each image that a
-- crash left meanwhile reads as the world before or as the one after it, and each since its end as the one after it.
pub record IsRound (terms : Terms) (Stands : Phase → Type 0) (tells : Bool) (folder : Option (List NamedText)) (store store' : View) (phase : Phase) (request : Request)
    (written written' : Option (List ℕ)) (faults faults' folder_faults folder_faults' bank_faults bank_faults' journal_faults journal_faults' last_fault : ℕ)
    (marks marks' : List Mark) (status status' : ℕ) (end : Option Ending) (round : Round) : Type 0 where
  pub same : round.request ≡ request
  pub turn : IsRoundOf terms tells folder phase request.asked round.area round.journal round.reply round.after
  pub stands : Stands round.after
  pub first_cause : status' ≡ first_of status (cause_of round.reply)
  pub counted : AreCounted bank_faults (faults_of round.reply) bank_faults'
  pub area : round.area ≡ last_fault
  pub journal_counted : AreCounted journal_faults (journal_faults_of round.reply round.area) journal_faults'
  pub journal_stood : IsTrue tells → (c : Image) × IsSince store' store.instant c × (round.journal ≡ c 0)
  pub folder_counted : AreCounted folder_faults (folder_faults_of round.reply) folder_faults'
  pub instant : IsTrue tells → round.instant ≡ store'.instant
  pub meanwhile : IsTrue tells → LeavesOnly store store' (λ c. ReadsAs terms phase.world c ⊎ ReadsAs terms round.after.world c)
  pub since : IsTrue tells → (c : Image) → store'.left_since store'.instant c → ReadsAs terms round.after.world c
  pub writes_answer : Writes written written' faults faults' marks marks' end (request.text round.reply) (request.closes round.reply) (mark_of (length marks + 1) round)
