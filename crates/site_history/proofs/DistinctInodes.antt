-- No two files of a site have one inode.
use Rattle.std.proofs.Common.{◌≢◌, ℕ, ◌+◌, ◌<◌, List, [], ◌∷◌, arith}
use Rattle.std.specs.List.{AllByRecursion}
use Rattle.site_types.specs.declared.file.FileRec.{FileRec}
use Rattle.site_history.specs.Kept.{AreRisingFrom}

-- No file has this inode.
abbrev pub HasNone : ℕ → List FileRec → Type 0
HasNone inode files = AllByRecursion (λ (file : FileRec). file.inode ≢ inode) files

-- No two files have one inode.
abbrev pub AreDistinct : List FileRec → Type 0
AreDistinct [] = Unit {0}
AreDistinct (file ∷ files) = HasNone file.inode files × AreDistinct files

none_above : (inode low : ℕ) (files : List FileRec) → inode < low → AreRisingFrom low files → HasNone inode files
none_above inode low [] lt rising = tt
none_above inode low (file ∷ files) lt rising = ((λ same. omega (arith, same, rising.0, lt)), none_above inode (file.inode + 1) files (omega (arith, lt, rising.0)) rising.1)

-- Where they rise they are distinct.
pub rising_distinct : (low : ℕ) (files : List FileRec) → AreRisingFrom low files → AreDistinct files
rising_distinct low [] rising = tt
rising_distinct low (file ∷ files) rising = (none_above file.inode (file.inode + 1) files (omega arith) rising.1, rising_distinct (file.inode + 1) files rising.1)
