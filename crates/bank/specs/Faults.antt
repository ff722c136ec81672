-- The count of the calls on the journal's area, which is area 0, that have failed.
use Rattle.std.specs.Prelude.{◌≡◌, ◌≢◌, ℕ, ◌≤◌, Result, OnErr}
use Rattle.base.specs.Causes.{Rose}

-- what a call on an area did to the count: it never falls, a call on another area leaves it,
-- and a call on the journal's fails only where it rose
pub record HasJournalCause {T E : Type 0} (area before now : ℕ) (result : Result T E) : Type 0 where
  pub later : before ≤ now
  pub others : area ≢ 0 → now ≡ before
  pub failed : area ≡ 0 → OnErr result (Rose before now)
