-- A file was read.
use Rattle.std.specs.Prelude.{ℕ}
use Rattle.site_types.specs.declared.file.FileRec.{FileRec}
use Rattle.site_history.specs.Site.{Fields}
use Rattle.site_history.specs.Changes.{with_change}

-- it has a new moment of access
abbrev pub accessed_at : ℕ → FileRec → FileRec
accessed_at moment file = record file { accessed = moment }

abbrev pub accessed_effect : ℕ → ℕ → Fields → Fields
accessed_effect moment inode fields = with_change inode (accessed_at moment) fields
