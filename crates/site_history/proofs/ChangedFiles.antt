-- One file changed, and the others as they are: `changed_at`, for every change that leaves the bytes of the file where they are.
-- It is one edit of the list, as code makes it (`changed-set`, for `files[i].field = ..`), the inodes still rise
-- (`rising-changed`), what holds of each file still does where it holds of the changed one (`all-changed`), and the files hold the
-- same runs (`held-changed`).
use Rattle.std.proofs.Common.{◌≡◌, ℕ, ◌+◌, ◌<◌, zero, suc, List, [], ◌∷◌, ◌++◌, length, get_or, set, refl, ◌∙◌, ap, arith, Bool, true, false, cond}
use Rattle.std.specs.Prelude.{◌==◌}
use Rattle.std.specs.List.{AllByRecursion}
use Rattle.std.proofs.lemmas.Bool.{eq-eqb, ne_eqb}
use Rattle.site_types.specs.declared.file.FileRec.{FileRec}
use Rattle.site_types.specs.declared.file.Run.{Run}
use Rattle.site_history.specs.Site.{held_runs}
use Rattle.site_history.specs.Kept.{AreRisingFrom}
use Rattle.site_history.specs.Changes.{changed_at}
use Rattle.site_history.proofs.FileLaws.{rising-lower, rising_at}

-- A change of a file that leaves its inode, its length, how many of its bytes the cache has, and its runs.
pub record LeavesBytes (change : FileRec → FileRec) : Type 0 where
  pub inode : (file : FileRec) → (change file).inode ≡ file.inode
  pub length : (file : FileRec) → (change file).length ≡ file.length
  pub cached : (file : FileRec) → (change file).cached ≡ file.cached
  pub runs : (file : FileRec) → (change file).runs ≡ file.runs

module _ (inode : ℕ) (change : FileRec → FileRec) where
  -- no file behind has an inode that is lower
  changed-none : (low : ℕ) (files : List FileRec) → AreRisingFrom low files → inode < low → changed_at inode change files ≡ files
  changed-none low [] h lt = refl
  changed-none low (file ∷ files) h lt =
      ap (λ (b : Bool). cond b (change file) file ∷ changed_at inode change files) (ne_eqb file.inode inode (λ same. omega (arith, same, h.0)))
      ∙ ap (λ (l : List FileRec). file ∷ l) (changed-none (file.inode + 1) files h.1 (omega (arith, h.0)))

  -- the file of that inode alone is changed
  pub changed-set : (low : ℕ) (files : List FileRec) (i : ℕ) (d : FileRec) → AreRisingFrom low files → i < length files
      → (get_or files i d).inode ≡ inode → changed_at inode change files ≡ set files i (change (get_or files i d))
  changed-set low [] i d h lt e = absurd (omega arith)
  changed-set low (file ∷ files) zero d h lt e =
      ap (λ (b : Bool). cond b (change file) file ∷ changed_at inode change files) (eq-eqb file.inode inode e)
      ∙ ap (λ (l : List FileRec). change file ∷ l) (changed-none (file.inode + 1) files h.1 (omega (arith, e)))
  changed-set low (file ∷ files) (suc i) d h lt e =
      let above = rising_at (file.inode + 1) files i d h.1 (omega arith) in
      ap (λ (b : Bool). cond b (change file) file ∷ changed_at inode change files) (ne_eqb file.inode inode (λ same. omega (arith, same, e, above)))
      ∙ ap (λ (l : List FileRec). file ∷ l) (changed-set (file.inode + 1) files i d h.1 (omega arith) e)

  -- What holds of each file: P before, Q behind it.
  pub all-changed : (P Q : FileRec → Type 0) (files : List FileRec) → ((file : FileRec) → P file → Q (change file)) → ((file : FileRec) → P file → Q file)
      → AllByRecursion P files → AllByRecursion Q (changed_at inode change files)
  all-changed P Q [] changed same h = tt
  all-changed P Q (file ∷ files) changed same h = (by_test (file.inode == inode), all-changed P Q files changed same h.1)
    where
      by_test : (b : Bool) → Q (cond b (change file) file)
      by_test true = changed file h.0
      by_test false = same file h.0

  module _ (leaves : LeavesBytes change) where
    pub rising-changed : (low : ℕ) (files : List FileRec) → AreRisingFrom low files → AreRisingFrom low (changed_at inode change files)
    rising-changed low [] h = tt
    rising-changed low (file ∷ files) h = by_test (file.inode == inode) (rising-changed (file.inode + 1) files h.1)
      where
        by_test : (b : Bool) → AreRisingFrom (file.inode + 1) (changed_at inode change files) → AreRisingFrom low (cond b (change file) file ∷ changed_at inode change files)
        by_test true rest = (omega (arith, leaves.inode file, h.0), rising-lower ((change file).inode + 1) (file.inode + 1) (changed_at inode change files) (omega (arith, leaves.inode file)) rest)
        by_test false rest = (h.0, rest)

    pub held-changed : (files : List FileRec) → held_runs (changed_at inode change files) ≡ held_runs files
    held-changed [] = refl
    held-changed (file ∷ files) = by_test (file.inode == inode) ∙ ap (λ (l : List Run). file.runs ++ l) (held-changed files)
      where
        by_test : (b : Bool) → (cond b (change file) file).runs ++ held_runs (changed_at inode change files) ≡ file.runs ++ held_runs (changed_at inode change files)
        by_test true = ap (λ (l : List Run). l ++ held_runs (changed_at inode change files)) (leaves.runs file)
        by_test false = refl
