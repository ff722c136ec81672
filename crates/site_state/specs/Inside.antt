-- What holds of the files' fields.
use Rattle.std.specs.Prelude.{All}
use Rattle.site_types.specs.Ranges.{IsInode}
use Rattle.site_types.specs.declared.file.FileRec.{FileRec}
use Rattle.site_state.specs.PathIndex.{RiseByInode, IsPathIndex}
use Rattle.site_state.specs.declared.files.Files.TheInside.{Inside}

-- each file has the number of an inode, they stand by rising inode, and the index is that of their paths
pub record AreIndexed (files : Inside) : Type 0 where
  pub inodes : All (λ (file : FileRec). IsInode file.inode) files.items.items
  pub rise : RiseByInode files.items.items
  pub index : IsPathIndex files.items.items files.by_path.items
