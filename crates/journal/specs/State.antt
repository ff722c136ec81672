-- Where a journal stands.
use Rattle.std.specs.Prelude.{ℕ}

-- where the next record goes, the bytes of the area, and how many records there are
pub record JournalState : Type 0 where
  pub place : ℕ
  pub size : ℕ
  pub count : ℕ
