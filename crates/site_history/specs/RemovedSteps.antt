-- A file was removed: it goes, its blocks with it, and it is not staged any more.
use Rattle.std.specs.Prelude.{ℕ}
use Rattle.site_history.specs.Site.{Fields}
use Rattle.site_history.specs.Changes.{without_file, without_inode}

abbrev pub removed_effect : ℕ → Fields → Fields
removed_effect inode fields = record fields { files = without_file inode fields.files; queue = without_inode inode fields.queue }
