-- What is handed back where a store was not opened.
use Rattle.std.proofs.Common.{◌≡◌, inl, inr, ℕ, List, [], refl, arith, Bool, IsTrue}
use Rattle.base.specs.Causes.{Rose}
use Rattle.bank.specs.Content.{Content}
use Rattle.bank.specs.View.{View, OnlyRead}
use Rattle.site_history.specs.Terms.{Terms}
use Rattle.site_history.specs.Steps.{HistoryStep}
use Rattle.site_history.specs.Images.{IsSettled}
use Rattle.site_history.proofs.Reopenings.{settled_after_reading}
use Rattle.engine.specs.declared.events.ShutCause.{ShutCause}
use Rattle.engine.specs.declared.events.ShutCause.TheVariants.{BankFault, BadJournal, NoMemory}
use Rattle.engine.specs.Journals.{TellsJournal}
use Rattle.session.specs.Session.{Outside}
use Rattle.session.specs.Refusing.{WritesRefusal, status_of_shut}
use Rattle.session.specs.Outcomes.{Refusal, IsRefused, HasStatus}
use Rattle.session.specs.declared.kept.Mark.{Mark}
use Rattle.session.proofs.StatusCauses.{by_bank, by_memory, by_bad_journal}

-- A refusal by what shut the store.
refusal_of : (terms : Terms) (old new : Outside) (tells : Bool) (journal : Content) (cause : ShutCause) (status : ℕ) → status ≡ status_of_shut cause
    → (cause ≡ BankFault → Rose old.bank_faults new.bank_faults) → (IsTrue tells → TellsJournal terms journal cause)
    → WritesRefusal old.written new.written old.sink_faults new.sink_faults cause → Refusal terms old new tells journal status
refusal_of terms old new tells journal BankFault status is rose bad told = inl (is, rose refl, told)
refusal_of terms old new tells journal NoMemory status is rose bad told = inr (inl (is, told))
refusal_of terms old new tells journal (BadJournal place) status is rose bad told = inr (inr (place, is, bad, told))

-- The causes of the status of a store that was not opened.
refused_status : (terms : Terms) (old new : Outside) (tells : Bool) (journal : Content) (budget status : ℕ) → Refusal terms old new tells journal status → HasStatus terms tells journal budget old new status
refused_status terms old new tells journal budget status (inl r) = by_bank terms tells journal budget old new status r.0 r.1
refused_status terms old new tells journal budget status (inr (inl r)) = by_memory terms tells journal budget old new status r.0
refused_status terms old new tells journal budget status (inr (inr r)) = by_bad_journal terms tells journal budget old new status r.1 (λ t. (r.0, r.2 t))

-- A store that was only read is as settled as before.
pub still_settled : (terms : Terms) (entry store : View) (before : List HistoryStep) (told tells : Bool) → (IsTrue told → IsTrue tells) → (IsTrue tells → OnlyRead entry store) → (IsTrue told → IsSettled terms entry before)
    → IsTrue told → IsSettled terms store before
still_settled terms entry store before told tells so read settled t = settled_after_reading terms entry store before (read (so t)) (settled t)

module _ (terms : Terms) (old new : Outside) (tells : Bool) (entry store : View) (cause : ShutCause) (status : ℕ) (is : status ≡ status_of_shut cause) (rose : cause ≡ BankFault → Rose old.bank_faults new.bank_faults)
    (bad : IsTrue tells → TellsJournal terms (entry.content 0) cause) (written : WritesRefusal old.written new.written old.sink_faults new.sink_faults cause) where
  -- What was handed back by a store that was shut.
  pub shut_refused : (marks : List Mark) → (IsTrue tells → OnlyRead entry store)
      → new.left ≡ old.left → new.source_faults ≡ old.source_faults → new.folder ≡ old.folder → new.folder_faults ≡ old.folder_faults → marks ≡ [] → IsRefused terms tells entry store old new marks status
  shut_refused marks read unread no_read_failed folder_stays folder_unread no_marks = record {
    unread = unread;
    no_read_failed = no_read_failed;
    folder_stays = folder_stays;
    folder_unread = folder_unread;
    no_marks = no_marks;
    refusal = refusal_of terms old new tells (entry.content 0) cause status is rose bad written;
    only_read = read;
  }

  -- The causes of its status.
  pub shut_status : (budget : ℕ) → HasStatus terms tells (entry.content 0) budget old new status
  shut_status budget = refused_status terms old new tells (entry.content 0) budget status (refusal_of terms old new tells (entry.content 0) cause status is rose bad written)

-- No refusal has status 1.
pub refusal_exits : (terms : Terms) (old new : Outside) (tells : Bool) (journal : Content) (status : ℕ) → Refusal terms old new tells journal status → status ≡ 1 → ⊥
refusal_exits terms old new tells journal status (inl r) h = omega (arith, r.0, h)
refusal_exits terms old new tells journal status (inr (inl r)) h = omega (arith, r.0, h)
refusal_exits terms old new tells journal status (inr (inr r)) h = omega (arith, r.1, h)
