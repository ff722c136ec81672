-- What calls on the journal's area did to a store's counts of faults.
use Rattle.std.specs.Prelude.{◌≡◌, ℕ, ◌≤◌, Result, OnOk, OnErr}
use Rattle.base.specs.Causes.{Rose}

-- No count falls. Where a call failed, that of all faults and that of the journal's area rose, and the last fault was in area 0;
-- where none did the last fault is the one from before.
pub record AreCounted {B T E : Type 0} (faults journal_faults last_fault : B → ℕ) (old new : B) (result : Result T E) : Type 0 where
  pub later : faults old ≤ faults new
  pub journal_later : journal_faults old ≤ journal_faults new
  pub fault : OnErr result (Rose (faults old) (faults new))
  pub journal_fault : OnErr result (Rose (journal_faults old) (journal_faults new))
  pub area : OnErr result (last_fault new ≡ 0)
  pub last : OnOk result (last_fault new ≡ last_fault old)
