-- What the objects in memory tell.
use Rattle.std.specs.Prelude.{ℕ, List}

-- of a source: the bytes left, and how many calls have failed
pub record Unread : Type 0 where
  pub left : List ℕ
  pub faults : ℕ

-- of a sink: the bytes written, and how many calls have failed
pub record Written : Type 0 where
  pub written : List ℕ
  pub faults : ℕ

-- of literal patterns: the text last refused, and how many calls have failed
pub record Refused : Type 0 where
  pub refused : List ℕ
  pub faults : ℕ
