-- Files that are found: the first of a path, and the one of an inode. Code that looks for the place of a file finds the same.
use Rattle.std.proofs.Common.{◌≡◌, ℕ, ◌+◌, ◌<◌, ◌≤◌, zero, suc, List, [], ◌∷◌, length, get_or, refl, ◌∙◌, ap, subst, arith, Bool, true, false, cond, Option, Some, None, sym, ltb}
use Rattle.std.specs.Prelude.{◌==◌, ◌||◌, find, slice_get, MatchOption}
use Rattle.std.specs.List.{list_any, position_or_len}
use Rattle.std.proofs.lemmas.Bool.{ltb-true, ltb-false, eq-eqb, ne_eqb, or_left, or_right, both_ways}
use Rattle.std.proofs.lemmas.List.{get_or_default}
use Rattle.std.proofs.lemmas.List.Folds.{find_at}
use Rattle.std.proofs.lemmas.Option.{slice_get-get_or, slice_get_past}
use Rattle.site_types.specs.declared.file.FileRec.{FileRec}
use Rattle.site_history.proofs.FileLaws.{rising_at}
use Rattle.site_history.specs.Kept.{AreRisingFrom}

-- the file at a place is this one
pub record StandsAt (files : List FileRec) (file : FileRec) : Type 0 where
  pub place : ℕ
  pub within : place < length files
  pub here : (d : FileRec) → get_or files place d ≡ file

-- the file at a place that code has
pub stands-at : (files : List FileRec) (i : ℕ) (d : FileRec) → i < length files → StandsAt files (get_or files i d)
stands-at files i d lt = record { place = i; within = lt; here = λ e. get_or_default files i e d lt }

-- the first place that passes a test has what is found, and where none passes nothing is found
pub find-place : (p : FileRec → Bool) (files : List FileRec) (i : ℕ) (d : FileRec) → i ≡ position_or_len p files → i < length files → find p files ≡ Some (get_or files i d)
find-place p files i d is lt = find_at p files ∙ subst (λ (n : ℕ). slice_get files n ≡ Some (get_or files i d)) is (slice_get-get_or files i d lt)

pub find-past : (p : FileRec → Bool) (files : List FileRec) → length files ≤ position_or_len p files → find p files ≡ None
find-past p files past = find_at p files ∙ slice_get_past files (position_or_len p files) past

-- What code's search for a place answers, as `position` does: the place of what is found, or none where nothing is.
pub place-found : (p : FileRec → Bool) (files : List FileRec) (r : Option ℕ) → r ≡ cond (ltb (position_or_len p files) (length files)) (Some (position_or_len p files)) None
    → MatchOption r (find p files ≡ None) (λ i. (i < length files) × ((d : FileRec) → find p files ≡ Some (get_or files i d)))
place-found p files r is = by_test (ltb (position_or_len p files) (length files)) refl is
  where
    by_test : (b : Bool) → ltb (position_or_len p files) (length files) ≡ b → r ≡ cond b (Some (position_or_len p files)) None
        → MatchOption r (find p files ≡ None) (λ i. (i < length files) × ((d : FileRec) → find p files ≡ Some (get_or files i d)))
    by_test true t e = subst (λ (o : Option ℕ). MatchOption o (find p files ≡ None) (λ i. (i < length files) × ((d : FileRec) → find p files ≡ Some (get_or files i d)))) (sym e)
        (ltb-true (position_or_len p files) (length files) t, λ d. find-place p files (position_or_len p files) d refl (ltb-true (position_or_len p files) (length files) t))
    by_test false t e = subst (λ (o : Option ℕ). MatchOption o (find p files ≡ None) (λ i. (i < length files) × ((d : FileRec) → find p files ≡ Some (get_or files i d)))) (sym e)
        (find-past p files (ltb-false (position_or_len p files) (length files) t))

-- what is found is one of the files, and passes the test
pub found-stands : (p : FileRec → Bool) (files : List FileRec) (file : FileRec) → find p files ≡ Some file → StandsAt files file × (p file ≡ true)
found-stands p [] file e = absurd (let none : None ≡ Some file = e in cc)
found-stands p (f ∷ files) file e = by_test (p f) refl (found-stands p files file) e
  where
    by_test : (b : Bool) → p f ≡ b → (find p files ≡ Some file → StandsAt files file × (p file ≡ true)) → cond b (Some f) (find p files) ≡ Some file → StandsAt (f ∷ files) file × (p file ≡ true)
    by_test true t later e = let same : f ≡ file = cc in (record { place = 0; within = omega arith; here = λ d. same }, subst (λ (x : FileRec). p x ≡ true) same t)
    by_test false t later e =
        let rest = later e in
        (record { place = suc rest.0.place; within = omega (arith, rest.0.within); here = λ d. rest.0.here d }, rest.1)

-- a file that passes a test is there, at some place
pub any-stands : (p : FileRec → Bool) (files : List FileRec) → list_any p files ≡ true → (file : FileRec) × StandsAt files file × (p file ≡ true)
any-stands p [] e = absurd (both_ways false refl e)
any-stands p (f ∷ files) e = by_test (p f) refl (any-stands p files) e
  where
    by_test : (b : Bool) → p f ≡ b → (list_any p files ≡ true → (file : FileRec) × StandsAt files file × (p file ≡ true)) → (b || list_any p files) ≡ true
        → (file : FileRec) × StandsAt (f ∷ files) file × (p file ≡ true)
    by_test true t later e = (f, record { place = 0; within = omega arith; here = λ d. refl }, t)
    by_test false t later e =
        let rest = later e in
        (rest.0, record { place = suc rest.1.place; within = omega (arith, rest.1.within); here = λ d. rest.1.here d }, rest.2)

-- the file at a place is the one that its inode finds
pub find-inode : (low inode : ℕ) (files : List FileRec) (i : ℕ) (d : FileRec) → AreRisingFrom low files → i < length files → (get_or files i d).inode ≡ inode
    → find (λ (file : FileRec). file.inode == inode) files ≡ Some (get_or files i d)
find-inode low inode [] i d h lt e = absurd (omega arith)
find-inode low inode (f ∷ files) zero d h lt e =
    ap (λ (b : Bool). cond b (Some f) (find (λ (file : FileRec). file.inode == inode) files)) (eq-eqb f.inode inode e)
find-inode low inode (f ∷ files) (suc i) d h lt e =
    let above = rising_at (f.inode + 1) files i d h.1 (omega arith) in
    ap (λ (b : Bool). cond b (Some f) (find (λ (file : FileRec). file.inode == inode) files)) (ne_eqb f.inode inode (λ same. omega (arith, same, e, above)))
    ∙ find-inode (f.inode + 1) inode files i d h.1 (omega arith) e

-- and a file of its inode is there
pub any-inode : (inode : ℕ) (files : List FileRec) (i : ℕ) (d : FileRec) → i < length files → (get_or files i d).inode ≡ inode
    → list_any (λ (file : FileRec). file.inode == inode) files ≡ true
any-inode inode [] i d lt e = absurd (omega arith)
any-inode inode (f ∷ files) zero d lt e = or_left (f.inode == inode) (list_any (λ (file : FileRec). file.inode == inode) files) (eq-eqb f.inode inode e)
any-inode inode (f ∷ files) (suc i) d lt e = or_right (f.inode == inode) (list_any (λ (file : FileRec). file.inode == inode) files) (any-inode inode files i d (omega arith) e)

-- a path is found where code finds the first place that passes, and not where it finds none
pub find-none : (p : FileRec → Bool) (files : List FileRec) → list_any p files ≡ false → find p files ≡ None
find-none p [] e = refl
find-none p (f ∷ files) e = by_test (p f) (find-none p files) e
  where
    by_test : (b : Bool) → (list_any p files ≡ false → find p files ≡ None) → (b || list_any p files) ≡ false → cond b (Some f) (find p files) ≡ None
    by_test true later e = absurd (both_ways true e refl)
    by_test false later e = later e
