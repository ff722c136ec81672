-- Files by inode. Their inodes rise, so that each is that of one file; and what a put and a removal do to the list of files is
-- one edit of it, as code makes it: `with_file-new` for a push, `with_file-set` for `files[i] = ..`, `without_file-remove` for
-- `files.remove(i)`.
use Rattle.std.proofs.Common.{◌≡◌, ℕ, ◌+◌, ◌<◌, ◌≤◌, zero, suc, List, [], ◌∷◌, ◌++◌, length, get_or, set, refl, ◌∙◌, ap, arith, Bool, true, false, cond, not}
use Rattle.std.specs.Prelude.{◌==◌}
use Rattle.std.specs.List.{AllByRecursion, remove}
use Rattle.std.proofs.lemmas.Bool.{eq-eqb, ne_eqb, eqb-false}
use Rattle.site_types.specs.declared.file.FileRec.{FileRec}
use Rattle.site_history.specs.Kept.{AreBelow, AreRisingFrom}
use Rattle.site_history.specs.Changes.{with_file, without_file}

pub rising-lower : (low high : ℕ) (files : List FileRec) → low ≤ high → AreRisingFrom high files → AreRisingFrom low files
rising-lower low high [] le h = tt
rising-lower low high (file ∷ files) le h = (omega (arith, h.0), h.1)

-- each of them is from that number on
pub rising_at : (low : ℕ) (files : List FileRec) (i : ℕ) (d : FileRec) → AreRisingFrom low files → i < length files → low ≤ (get_or files i d).inode
rising_at low [] i d h lt = absurd (omega arith)
rising_at low (file ∷ files) zero d h lt = h.0
rising_at low (file ∷ files) (suc i) d h lt = omega (arith, h.0, rising_at (file.inode + 1) files i d h.1 (omega arith))

pub below_at : (n : ℕ) (files : List FileRec) (i : ℕ) (d : FileRec) → AreBelow n files → i < length files → (get_or files i d).inode < n
below_at n [] i d h lt = absurd (omega arith)
below_at n (file ∷ files) zero d h lt = h.0
below_at n (file ∷ files) (suc i) d h lt = below_at n files i d h.1 (omega arith)

pub are_below-more : (n m : ℕ) (files : List FileRec) → n ≤ m → AreBelow n files → AreBelow m files
are_below-more n m [] le h = tt
are_below-more n m (file ∷ files) le h = (omega (arith, h.0), are_below-more n m files le h.1)

-- a file of a new inode goes behind the others
pub with_file-new : (new : FileRec) (files : List FileRec) → AreBelow new.inode files → with_file new files ≡ files ++ new ∷ []
with_file-new new [] h = refl
with_file-new new (file ∷ files) h =
    ap (λ (b : Bool). cond b (new ∷ files) (file ∷ with_file new files)) (ne_eqb file.inode new.inode (λ e. omega (arith, e, h.0)))
    ∙ ap (λ (l : List FileRec). file ∷ l) (with_file-new new files h.1)

-- a file goes into the place of that of its inode
pub with_file-set : (low : ℕ) (new : FileRec) (files : List FileRec) (i : ℕ) (d : FileRec) → AreRisingFrom low files → i < length files
    → (get_or files i d).inode ≡ new.inode → with_file new files ≡ set files i new
with_file-set low new [] i d h lt e = absurd (omega arith)
with_file-set low new (file ∷ files) zero d h lt e = ap (λ (b : Bool). cond b (new ∷ files) (file ∷ with_file new files)) (eq-eqb file.inode new.inode e)
with_file-set low new (file ∷ files) (suc i) d h lt e =
    let above = rising_at (file.inode + 1) files i d h.1 (omega arith) in
    ap (λ (b : Bool). cond b (new ∷ files) (file ∷ with_file new files)) (ne_eqb file.inode new.inode (λ same. omega (arith, same, e, above)))
    ∙ ap (λ (l : List FileRec). file ∷ l) (with_file-set (file.inode + 1) new files i d h.1 (omega arith) e)

without_file-none : (low inode : ℕ) (files : List FileRec) → AreRisingFrom low files → inode < low → without_file inode files ≡ files
without_file-none low inode [] h lt = refl
without_file-none low inode (file ∷ files) h lt =
    ap (λ (b : Bool). cond (not b) (file ∷ without_file inode files) (without_file inode files)) (ne_eqb file.inode inode (λ same. omega (arith, same, h.0)))
    ∙ ap (λ (l : List FileRec). file ∷ l) (without_file-none (file.inode + 1) inode files h.1 (omega (arith, h.0)))

-- a removal leaves the others
pub without_file-remove : (low inode : ℕ) (files : List FileRec) (i : ℕ) (d : FileRec) → AreRisingFrom low files → i < length files
    → (get_or files i d).inode ≡ inode → without_file inode files ≡ remove files i
without_file-remove low inode [] i d h lt e = absurd (omega arith)
without_file-remove low inode (file ∷ files) zero d h lt e =
    ap (λ (b : Bool). cond (not b) (file ∷ without_file inode files) (without_file inode files)) (eq-eqb file.inode inode e)
    ∙ without_file-none (file.inode + 1) inode files h.1 (omega (arith, e))
without_file-remove low inode (file ∷ files) (suc i) d h lt e =
    let above = rising_at (file.inode + 1) files i d h.1 (omega arith) in
    ap (λ (b : Bool). cond (not b) (file ∷ without_file inode files) (without_file inode files)) (ne_eqb file.inode inode (λ same. omega (arith, same, e, above)))
    ∙ ap (λ (l : List FileRec). file ∷ l) (without_file-remove (file.inode + 1) inode files i d h.1 (omega arith) e)

-- the inodes rise after each edit
pub rising-push : (low : ℕ) (files : List FileRec) (new : FileRec) → low ≤ new.inode → AreBelow new.inode files → AreRisingFrom low files → AreRisingFrom low (files ++ new ∷ [])
rising-push low [] new le below h = (le, tt)
rising-push low (file ∷ files) new le below h = (h.0, rising-push (file.inode + 1) files new (omega (arith, below.0)) below.1 h.1)

pub rising-set : (low : ℕ) (files : List FileRec) (i : ℕ) (d new : FileRec) → (get_or files i d).inode ≡ new.inode → i < length files → AreRisingFrom low files → AreRisingFrom low (set files i new)
rising-set low [] i d new e lt h = h
rising-set low (file ∷ files) zero d new e lt h = (omega (arith, e, h.0), rising-lower (new.inode + 1) (file.inode + 1) files (omega (arith, e)) h.1)
rising-set low (file ∷ files) (suc i) d new e lt h = (h.0, rising-set (file.inode + 1) files i d new e (omega arith) h.1)

pub rising-without : (low inode : ℕ) (files : List FileRec) → AreRisingFrom low files → AreRisingFrom low (without_file inode files)
rising-without low inode [] h = tt
rising-without low inode (file ∷ files) h = by_test (file.inode == inode) (rising-without (file.inode + 1) inode files h.1)
  where
    by_test : (b : Bool) → AreRisingFrom (file.inode + 1) (without_file inode files) → AreRisingFrom low (cond (not b) (file ∷ without_file inode files) (without_file inode files))
    by_test true rest = rising-lower low (file.inode + 1) (without_file inode files) (omega (arith, h.0)) rest
    by_test false rest = (h.0, rest)

-- What holds of each file after an edit: P before, Q behind it. A file of another inode is not changed.
pub all-push : (Q : FileRec → Type 0) (files : List FileRec) (new : FileRec) → AllByRecursion Q files → Q new → AllByRecursion Q (files ++ new ∷ [])
all-push Q [] new h q = (q, tt)
all-push Q (file ∷ files) new h q = (h.0, all-push Q files new h.1 q)

pub all-later : (P Q : FileRec → Type 0) (files : List FileRec) → ((file : FileRec) → P file → Q file) → AllByRecursion P files → AllByRecursion Q files
all-later P Q [] each h = tt
all-later P Q (file ∷ files) each h = (each file h.0, all-later P Q files each h.1)

module _ (P Q : FileRec → Type 0) where
  -- inodes below a number are others than it
  pub all-below : (n : ℕ) (files : List FileRec) → AreBelow n files → ((file : FileRec) → (file.inode ≡ n → ⊥) → P file → Q file) → AllByRecursion P files → AllByRecursion Q files
  all-below n [] below each h = tt
  all-below n (file ∷ files) below each h = (each file (λ same. omega (arith, same, below.0)) h.0, all-below n files below.1 each h.1)

  all-above : (n low : ℕ) (files : List FileRec) → n < low → AreRisingFrom low files → ((file : FileRec) → (file.inode ≡ n → ⊥) → P file → Q file) → AllByRecursion P files → AllByRecursion Q files
  all-above n low [] lt rising each h = tt
  all-above n low (file ∷ files) lt rising each h = (
    each file (λ same. omega (arith, same, rising.0)) h.0,
    all-above n (file.inode + 1) files (omega (arith, rising.0)) rising.1 each h.1,
  )

  pub all-set : (low : ℕ) (new : FileRec) (files : List FileRec) (i : ℕ) (d : FileRec) → AreRisingFrom low files → i < length files → (get_or files i d).inode ≡ new.inode
      → ((file : FileRec) → (file.inode ≡ new.inode → ⊥) → P file → Q file) → Q new → AllByRecursion P files → AllByRecursion Q (set files i new)
  all-set low new [] i d rising lt e each q h = tt
  all-set low new (file ∷ files) zero d rising lt e each q h = (q, all-above new.inode (file.inode + 1) files (omega (arith, e)) rising.1 each h.1)
  all-set low new (file ∷ files) (suc i) d rising lt e each q h =
      let above = rising_at (file.inode + 1) files i d rising.1 (omega arith) in
      (each file (λ same. omega (arith, same, e, above)) h.0, all-set (file.inode + 1) new files i d rising.1 (omega arith) e each q h.1)

  pub all-without : (inode : ℕ) (files : List FileRec) → ((file : FileRec) → (file.inode ≡ inode → ⊥) → P file → Q file) → AllByRecursion P files → AllByRecursion Q (without_file inode files)
  all-without inode [] each h = tt
  all-without inode (file ∷ files) each h = by_test (file.inode == inode) refl (all-without inode files each h.1)
    where
      by_test : (b : Bool) → (file.inode == inode) ≡ b → AllByRecursion Q (without_file inode files) → AllByRecursion Q (cond (not b) (file ∷ without_file inode files) (without_file inode files))
      by_test true e rest = rest
      by_test false e rest = (each file (eqb-false file.inode inode e) h.0, rest)

-- what holds of each holds of the one at a place
pub all_at : (P : FileRec → Type 0) (files : List FileRec) (i : ℕ) (d : FileRec) → AllByRecursion P files → i < length files → P (get_or files i d)
all_at P [] i d h lt = absurd (omega arith)
all_at P (file ∷ files) zero d h lt = h.0
all_at P (file ∷ files) (suc i) d h lt = all_at P files i d h.1 (omega arith)

-- how many files there are
pub length-without : (inode : ℕ) (files : List FileRec) → length (without_file inode files) ≤ length files
length-without inode [] = omega arith
length-without inode (file ∷ files) = by_test (file.inode == inode) (length-without inode files)
  where
    by_test : (b : Bool) → length (without_file inode files) ≤ length files → length (cond (not b) (file ∷ without_file inode files) (without_file inode files)) ≤ length (file ∷ files)
    by_test true le = omega (arith, le)
    by_test false le = omega (arith, le)
