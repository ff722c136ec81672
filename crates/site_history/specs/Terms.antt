-- What the steps and answers of a site stand on, beside the steps themselves.
use Rattle.std.specs.Prelude.{ℕ, Bool, List}

pub record Terms : Type 0 where
  -- how many bytes the journal's area has
  pub size : ℕ
  -- whether the pattern of a text is found in a subject
  pub finds : List ℕ → List ℕ → Bool
