-- Under which names a copy of a set is looked up.
use Rattle.std.specs.Prelude.{ℕ}
use Rattle.site_text.specs.Fields.{Field}
use Rattle.archiver_cmd.specs.declared.levels.Level.{Level}
use Rattle.archiver_cmd.specs.declared.levels.Level.TheVariants.{Set, Copy, All}
use Rattle.archiver_lines.specs.declared.reading.CopyName.{CopyName}
use Rattle.archiver_lines.specs.declared.reading.CopyName.TheVariants as names

abbrev pub name_at : Level → Field → ℕ → CopyName
name_at Set set copy = names.SetCopy set copy
name_at Copy set copy = names.AllSetsCopy copy
name_at All set copy = names.AllSets
