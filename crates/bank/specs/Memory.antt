-- What a store in memory keeps.
use Rattle.std.specs.Prelude.{◌≡◌, ◌⊎◌, ℕ, Bool, true, false, List, [], ◌∷◌, ◌++◌, reverse, take, Result, OnOk, OnErr, IsErr, IsTrue}
use Rattle.bank.specs.Content.{Image}
use Rattle.bank.specs.declared.bank.BankFailed.{BankFailed}
use Rattle.bank.specs.declared.call.Call.{Call}
use Rattle.bank.specs.declared.call.BankCall.{BankCall}
use Rattle.bank.specs.declared.call.FailAt.{FailAt}
use Rattle.bank.specs.declared.memory.MemoryBank.{MemoryBank}
use Rattle.bank.specs.Failing.{is_listed}
use Rattle.bank.specs.Past.{content_of}

abbrev pub zeros : Image
zeros a k = 0

-- what it began with
abbrev pub began : MemoryBank → Image
began m = content_of zeros (reverse m.before)

-- its calls since, the newest first
abbrev pub past_of : MemoryBank → List Call
past_of m = reverse m.calls

-- those up to an instant
abbrev pub past_at : MemoryBank → ℕ → List Call
past_at m instant = reverse (take instant m.calls)

-- no call was made since it began, and these are to fail
pub record IsAnew (m : MemoryBank) (listed : List FailAt) : Type 0 where
  pub calls : m.calls ≡ []
  pub fail : m.fail ≡ listed
  pub faults : m.faults ≡ 0
  pub journal_faults : m.journal_faults ≡ 0

-- a call as it stands in the record
abbrev pub made : BankCall → ℕ → ℕ → List ℕ → Bool → Call
made kind area place bytes done = record { area = area; kind = kind; place = place; bytes = bytes; done = done }

-- what a call did to the record: it stands there and was done where it succeeded; one that failed was not done, and
-- is not there where memory was wanting; one in the list fails
pub record Records (kind : BankCall) (area place : ℕ) (bytes : List ℕ) (old new : MemoryBank) (result : Result (Unit {0}) BankFailed) : Type 0 where
  pub began : new.before ≡ old.before
  pub fail : new.fail ≡ old.fail
  pub ok : OnOk result (new.calls ≡ old.calls ++ made kind area place bytes true ∷ [])
  pub err : OnErr result ((new.calls ≡ old.calls) ⊎ (new.calls ≡ old.calls ++ made kind area place bytes false ∷ []))
  pub listed : IsTrue (is_listed old.fail old.calls area kind) → IsErr result
