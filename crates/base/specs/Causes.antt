-- Counts of faults, and when they tell that one came.
use Rattle.std.specs.Prelude.{ℕ, ◌+◌, ◌-◌, ◌^◌, ◌≤◌, min, Result, OnErr}

-- a count of faults rose; one that stands at its type's end is taken to have risen
abbrev pub Rose : ℕ → ℕ → Type 0
Rose before now = min (before + 1) (2 ^ 64 - 1) ≤ now

-- a count never falls, and an error comes only where it rose
pub record HasCause {T E : Type 0} (before now : ℕ) (result : Result T E) : Type 0 where
  pub later : before ≤ now
  pub failed : OnErr result (Rose before now)

-- at least so many faults were counted since; a count that stands at its type's end says nothing
abbrev pub AreCounted : ℕ → ℕ → ℕ → Type 0
AreCounted before n now = min (before + n) (2 ^ 64 - 1) ≤ now
