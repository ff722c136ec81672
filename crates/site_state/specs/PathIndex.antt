-- An index of files by their paths. Files stand by rising inode, and the index has their inodes in the order of their paths.
use Rattle.std.specs.Prelude.{◌≡◌, ℕ, ◌<◌, ◌==◌, List, [], All, find}
use Rattle.std.specs.List.{AllPairs, Any, Contains}
use Rattle.std.specs.List.Sorted.{IsPartitionPoint}
use Rattle.std.specs.Option.{option_map_or}
use Rattle.std.specs.Cmp.Lexicographic.{slice_cmp}
use Rattle.std.specs.Ordering.{nat_cmp}
use Rattle.std.specs.declared.cmp.Ordering.TheVariants.{Less, Greater}
use Rattle.site_types.specs.declared.file.FileRec.{FileRec}

-- each file's inode is below those of the files behind it
abbrev pub RiseByInode : List FileRec → Type 0
RiseByInode files = AllPairs (λ (file later : FileRec). file.inode < later.inode) files

-- the path of the file of an inode; where there is none it is empty
abbrev pub path_of : List FileRec → ℕ → List ℕ
path_of files inode = option_map_or (λ (file : FileRec). file.path) (find (λ (file : FileRec). file.inode == inode) files) []

-- The index has the inode of each file, so that none is missing, and no inode but those of files. Byte by byte, each one's path
-- is below those of the inodes behind it.
pub record IsPathIndex (files : List FileRec) (by_path : List ℕ) : Type 0 where
  pub has_each : All (λ (file : FileRec). Contains by_path file.inode) files
  pub of_files : All (λ (inode : ℕ). Any (λ (file : FileRec). file.inode ≡ inode) files) by_path
  pub rises : AllPairs (λ (inode later : ℕ). slice_cmp nat_cmp (path_of files inode) (path_of files later) ≡ Less) by_path

-- the paths of the index before this place are below a path, and those from it on are above
abbrev pub IsPlaceFor : List ℕ → List FileRec → List ℕ → ℕ → Type 0
IsPlaceFor path files by_path place =
    IsPartitionPoint (λ (inode : ℕ). slice_cmp nat_cmp (path_of files inode) path ≡ Less) (λ (inode : ℕ). slice_cmp nat_cmp (path_of files inode) path ≡ Greater) by_path place
