-- The files that a site keeps, as contracts see them.
use Rattle.std.specs.Prelude.{ℕ, List}
use Rattle.site_types.specs.declared.file.FileRec.{FileRec}

-- in their order, and for how many more there is room
pub record FileList : Type 0 where
  pub list : List FileRec
  pub room : ℕ
