-- What each status says, by its cause.
use Rattle.std.proofs.Common.{◌≡◌, inl, inr, ℕ, ◌<◌, ◌≤◌, List, length, arith, Bool, Option, Some, None, IfSome, IsTrue}
use Rattle.std.specs.Io.KnownBytes.{IsAtEnd}
use Rattle.base.specs.Causes.{Rose}
use Rattle.bank.specs.Content.{Content}
use Rattle.site_history.specs.Terms.{Terms}
use Rattle.site_history.specs.Journals.{IsBadJournal}
use Rattle.session.specs.Session.{Outside}
use Rattle.session.specs.Outcomes.{HasStatus}

-- What is said of the bytes of a source follows from what is said of them otherwise, or holds of any.
pub if_some : (a : Option (List ℕ)) (P Q : List ℕ → Type 0) → ((xs : List ℕ) → P xs → Q xs) → IfSome a P → IfSome a Q
if_some None P Q f p = tt
if_some (Some xs) P Q f p = f xs p

pub if_any : (a : Option (List ℕ)) (Q : List ℕ → Type 0) → ((xs : List ℕ) → Q xs) → IfSome a Q
if_any None Q f = tt
if_any (Some xs) Q f = f xs

module _ (terms : Terms) (tells : Bool) (journal : Content) (budget : ℕ) (old new : Outside) (status : ℕ) where
  -- A fault of the store.
  pub by_bank : status ≡ 3 → Rose old.bank_faults new.bank_faults → HasStatus terms tells journal budget old new status
  by_bank is rose = record {
    bad_journal = λ h t. absurd (omega (arith, is, h));
    fault = λ h. inl rose;
    source = λ h. absurd (omega (arith, is, h));
    sink = λ h. absurd (omega (arith, is, h));
    over = λ h. absurd (omega (arith, is, h));
    read = λ h. absurd (omega (arith, is, h));
    refused = λ t place bad. inr (inr (is, rose));
    complete = λ no_bank no_folder no_source no_sink. absurd (no_bank rose);
  }

  -- Want of memory.
  pub by_memory : status ≡ 9 → HasStatus terms tells journal budget old new status
  by_memory is = record {
    bad_journal = λ h t. absurd (omega (arith, is, h));
    fault = λ h. absurd (omega (arith, is, h));
    source = λ h. absurd (omega (arith, is, h));
    sink = λ h. absurd (omega (arith, is, h));
    over = λ h. absurd (omega (arith, is, h));
    read = λ h. absurd (omega (arith, is, h));
    refused = λ t place bad. inr (inl is);
    complete = λ no_bank no_folder no_source no_sink. if_any old.left _ (λ xs. (λ _. inr (inr is), λ _. inr (inr is)));
  }

  -- A bad journal.
  pub by_bad_journal : status ≡ 2 → (IsTrue tells → (place : ℕ) × IsBadJournal terms journal place) → HasStatus terms tells journal budget old new status
  by_bad_journal is bad_there = record {
    bad_journal = λ h t. bad_there t;
    fault = λ h. absurd (omega (arith, is, h));
    source = λ h. absurd (omega (arith, is, h));
    sink = λ h. absurd (omega (arith, is, h));
    over = λ h. absurd (omega (arith, is, h));
    read = λ h. absurd (omega (arith, is, h));
    refused = λ t place bad. inl is;
    complete = λ no_bank no_folder no_source no_sink. if_any old.left _ (λ xs. (λ _. inr (inl is), λ _. inr (inl is)));
  }

  -- All other causes come in a session, over a journal that is not bad.
  module _ (not_bad : IsTrue tells → (place : ℕ) → IsBadJournal terms journal place → ⊥) where
    -- The input was read to its end.
    pub by_end : status ≡ 0 → IsAtEnd new.left → IfSome old.left (λ bytes. length bytes ≤ budget) → HasStatus terms tells journal budget old new status
    by_end is at_end within = record {
      bad_journal = λ h t. absurd (omega (arith, is, h));
      fault = λ h. absurd (omega (arith, is, h));
      source = λ h. absurd (omega (arith, is, h));
      sink = λ h. absurd (omega (arith, is, h));
      over = λ h. absurd (omega (arith, is, h));
      read = λ h. at_end;
      refused = λ t place bad. absurd (not_bad t place bad);
      complete = λ no_bank no_folder no_source no_sink. if_some old.left _ _ (λ xs h. (λ _. inl is, λ more. absurd (omega (arith, h, more)))) within;
    }

    -- A fault of the folder.
    pub by_folder : status ≡ 3 → Rose old.folder_faults new.folder_faults → HasStatus terms tells journal budget old new status
    by_folder is rose = record {
      bad_journal = λ h t. absurd (omega (arith, is, h));
      fault = λ h. inr rose;
      source = λ h. absurd (omega (arith, is, h));
      sink = λ h. absurd (omega (arith, is, h));
      over = λ h. absurd (omega (arith, is, h));
      read = λ h. absurd (omega (arith, is, h));
      refused = λ t place bad. absurd (not_bad t place bad);
      complete = λ no_bank no_folder no_source no_sink. absurd (no_folder rose);
    }

    -- A fault of the source.
    pub by_source : status ≡ 4 → Rose old.source_faults new.source_faults → HasStatus terms tells journal budget old new status
    by_source is rose = record {
      bad_journal = λ h t. absurd (omega (arith, is, h));
      fault = λ h. absurd (omega (arith, is, h));
      source = λ h. rose;
      sink = λ h. absurd (omega (arith, is, h));
      over = λ h. absurd (omega (arith, is, h));
      read = λ h. absurd (omega (arith, is, h));
      refused = λ t place bad. absurd (not_bad t place bad);
      complete = λ no_bank no_folder no_source no_sink. absurd (no_source rose);
    }

    -- A fault of the sink.
    pub by_sink : status ≡ 5 → Rose old.sink_faults new.sink_faults → HasStatus terms tells journal budget old new status
    by_sink is rose = record {
      bad_journal = λ h t. absurd (omega (arith, is, h));
      fault = λ h. absurd (omega (arith, is, h));
      source = λ h. absurd (omega (arith, is, h));
      sink = λ h. rose;
      over = λ h. absurd (omega (arith, is, h));
      read = λ h. absurd (omega (arith, is, h));
      refused = λ t place bad. absurd (not_bad t place bad);
      complete = λ no_bank no_folder no_source no_sink. absurd (no_sink rose);
    }

    -- A byte beyond the budget.
    pub by_budget : status ≡ 7 → IfSome old.left (λ bytes. budget < length bytes) → HasStatus terms tells journal budget old new status
    by_budget is beyond = record {
      bad_journal = λ h t. absurd (omega (arith, is, h));
      fault = λ h. absurd (omega (arith, is, h));
      source = λ h. absurd (omega (arith, is, h));
      sink = λ h. absurd (omega (arith, is, h));
      over = λ h. beyond;
      read = λ h. absurd (omega (arith, is, h));
      refused = λ t place bad. absurd (not_bad t place bad);
      complete = λ no_bank no_folder no_source no_sink. if_some old.left _ _ (λ xs more. (λ h. absurd (omega (arith, more, h)), λ _. inl is)) beyond;
    }
