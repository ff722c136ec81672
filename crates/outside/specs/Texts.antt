-- What a folder in memory tells.
use Rattle.std.specs.Prelude.{ℕ, List}
use Rattle.outside.specs.declared.folder.NamedText.{NamedText}

-- its texts with their names, and how many calls have failed
pub record Texts : Type 0 where
  pub texts : List NamedText
  pub faults : ℕ
