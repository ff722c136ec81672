-- The runs that the files hold, after each edit of the list of files, and what of the blocks is taken then. In the terms of a
-- cache's `hold` and `give`, whose clauses these lemmas take: `pushed-space` for a new file, whose runs are held; `replaced-space`
-- for one that is replaced, whose new runs are held before the old ones are given; `removed-space` for one that is removed, whose
-- runs are given; `held-set_same` for one whose runs stay. That the runs of two files have no block in common is a part of
-- `IsKept`.
use Rattle.std.proofs.Common.{◌≡◌, ℕ, ◌<◌, zero, suc, List, [], ◌∷◌, ◌++◌, length, get_or, set, take, drop, refl, sym, ◌∙◌, ap, subst, arith, Bool, append_assoc}
use Rattle.std.specs.List.{remove}
use Rattle.std.proofs.lemmas.List.{append-nil}
use Rattle.std.proofs.lemmas.List.Concat.{flat_map-append}
use Rattle.site_types.specs.declared.file.FileRec.{FileRec}
use Rattle.site_types.specs.declared.file.Run.{Run}
use Rattle.cache_space.specs.Space.{taken_by, AreThere, AreApart, AreDisjoint}
use Rattle.cache_space.proofs.HeldBlocks.{AreApart-sym, AreApart-from_append_right, AreThere-append, AreThere-from_append, AreDisjoint-append, AreDisjoint-from_append, taken_by-moved}
use Rattle.cache_space.proofs.ChangedBlocks.{taken_by-replaced, AreDisjoint-removed, AreApart-removed, AreThere-removed, AreDisjoint-replaced, AreApart-replaced, AreThere-replaced}
use Rattle.site_history.specs.Site.{held_runs}

held-append : (files more : List FileRec) → held_runs (files ++ more) ≡ held_runs files ++ held_runs more
held-append files more = flat_map-append (λ (file : FileRec). file.runs) files more

-- a file that joins the others holds its runs beside theirs
pub held-push : (files : List FileRec) (new : FileRec) → held_runs (files ++ new ∷ []) ≡ held_runs files ++ new.runs
held-push files new = held-append files (new ∷ []) ∙ ap (λ (l : List Run). held_runs files ++ l) (append-nil new.runs)

-- the runs of the file at a place, between those before it and those behind it
pub held-at : (files : List FileRec) (i : ℕ) (d : FileRec) → i < length files
    → held_runs files ≡ held_runs (take i files) ++ ((get_or files i d).runs ++ held_runs (drop (suc i) files))
held-at [] i d lt = absurd (omega arith)
held-at (file ∷ files) zero d lt = refl
held-at (file ∷ files) (suc i) d lt =
    ap (λ (l : List Run). file.runs ++ l) (held-at files i d (omega arith))
    ∙ sym (append_assoc file.runs (held_runs (take i files)) ((get_or files i d).runs ++ held_runs (drop (suc i) files)))

-- another file in its place
pub held-set : (files : List FileRec) (i : ℕ) (new : FileRec) → i < length files
    → held_runs (set files i new) ≡ held_runs (take i files) ++ (new.runs ++ held_runs (drop (suc i) files))
held-set [] i new lt = absurd (omega arith)
held-set (file ∷ files) zero new lt = refl
held-set (file ∷ files) (suc i) new lt =
    ap (λ (l : List Run). file.runs ++ l) (held-set files i new (omega arith))
    ∙ sym (append_assoc file.runs (held_runs (take i files)) (new.runs ++ held_runs (drop (suc i) files)))

-- without it
pub held-remove : (files : List FileRec) (i : ℕ) → held_runs (remove files i) ≡ held_runs (take i files) ++ held_runs (drop (suc i) files)
held-remove files i = held-append (take i files) (drop (suc i) files)

-- with the same runs in its place
pub held-set_same : (files : List FileRec) (i : ℕ) (d new : FileRec) → i < length files → new.runs ≡ (get_or files i d).runs → held_runs (set files i new) ≡ held_runs files
held-set_same files i d new lt same =
    held-set files i new lt
    ∙ ap (λ (l : List Run). held_runs (take i files) ++ (l ++ held_runs (drop (suc i) files))) same
    ∙ sym (held-at files i d lt)

-- what holds of the runs of all files holds of those of the one at a place: they are there, runs that have no block in common
-- with all of them have none with it, and no two files have one in common
pub there-at : (total : ℕ) (files : List FileRec) (i : ℕ) (d : FileRec) → i < length files → AreThere total (held_runs files) → AreThere total (get_or files i d).runs
there-at total files i d lt there =
    let all : AreThere total (held_runs (take i files) ++ ((get_or files i d).runs ++ held_runs (drop (suc i) files))) = subst (λ (l : List Run). AreThere total l) (held-at files i d lt) there in
    let rest = AreThere-from_append total (held_runs (take i files)) ((get_or files i d).runs ++ held_runs (drop (suc i) files)) all in
    (AreThere-from_append total (get_or files i d).runs (held_runs (drop (suc i) files)) rest.1).0

pub apart-from_one : (runs : List Run) (files : List FileRec) (i : ℕ) (d : FileRec) → i < length files → AreApart runs (held_runs files) → AreApart runs (get_or files i d).runs
apart-from_one runs files i d lt apart =
    let all : AreApart runs (held_runs (take i files) ++ ((get_or files i d).runs ++ held_runs (drop (suc i) files))) = subst (λ (l : List Run). AreApart runs l) (held-at files i d lt) apart in
    let rest = AreApart-from_append_right runs (held_runs (take i files)) ((get_or files i d).runs ++ held_runs (drop (suc i) files)) all in
    (AreApart-from_append_right runs (get_or files i d).runs (held_runs (drop (suc i) files)) rest.1).0

pub apart-at : (files : List FileRec) (i j : ℕ) (d : FileRec) → i < j → j < length files → AreDisjoint (held_runs files) → AreApart (get_or files i d).runs (get_or files j d).runs
apart-at [] i j d lt within disjoint = absurd (omega arith)
apart-at (file ∷ files) i zero d lt within disjoint = absurd (omega arith)
apart-at (file ∷ files) zero (suc j) d lt within disjoint =
    apart-from_one file.runs files j d (omega arith) (AreDisjoint-from_append file.runs (held_runs files) disjoint).1.1
apart-at (file ∷ files) (suc i) (suc j) d lt within disjoint =
    apart-at files i j d (omega arith) (omega arith) (AreDisjoint-from_append file.runs (held_runs files) disjoint).1.0

-- runs of a new file that are free
pub pushed-disjoint : (files : List FileRec) (new : FileRec) → AreDisjoint (held_runs files) → AreDisjoint new.runs → AreApart new.runs (held_runs files)
    → AreDisjoint (held_runs (files ++ new ∷ []))
pushed-disjoint files new held own apart = subst (λ (l : List Run). AreDisjoint l) (sym (held-push files new))
    (AreDisjoint-append (held_runs files) new.runs held own (AreApart-sym new.runs (held_runs files) apart))

pub pushed-there : (total : ℕ) (files : List FileRec) (new : FileRec) → AreThere total (held_runs files) → AreThere total new.runs → AreThere total (held_runs (files ++ new ∷ []))
pushed-there total files new held own = subst (λ (l : List Run). AreThere total l) (sym (held-push files new)) (AreThere-append total (held_runs files) new.runs held own)

module _ (total : ℕ) (files : List FileRec) (i : ℕ) (d : FileRec) (lt : i < length files) where
  before : List Run
  before = held_runs (take i files)

  behind : List Run
  behind = held_runs (drop (suc i) files)

  parts : (P : List Run → Type 0) → P (held_runs files) → P (held_runs (take i files) ++ ((get_or files i d).runs ++ held_runs (drop (suc i) files)))
  parts P h = subst P (held-at files i d lt) h

  -- a file that is replaced: the blocks that are taken once the new runs are held are those of the new files and the old runs
  module _ (new : FileRec) where
    pub replaced-taken : taken_by total (held_runs files ++ new.runs) ≡ taken_by total (held_runs (set files i new) ++ (get_or files i d).runs)
    replaced-taken =
        ap (λ (l : List Run). taken_by total (l ++ new.runs)) (held-at files i d lt)
        ∙ taken_by-replaced total (held_runs (take i files)) (get_or files i d).runs (held_runs (drop (suc i) files)) new.runs
        ∙ ap (λ (l : List Run). taken_by total (l ++ (get_or files i d).runs)) (sym (held-set files i new lt))

    -- and the old runs have no block in common with those of the new files
    pub replaced-apart : AreDisjoint (held_runs files) → AreApart new.runs (held_runs files) → AreApart (held_runs (set files i new)) (get_or files i d).runs
    replaced-apart disjoint apart = subst (λ (l : List Run). AreApart l (get_or files i d).runs) (sym (held-set files i new lt))
        (AreApart-replaced (held_runs (take i files)) (get_or files i d).runs (held_runs (drop (suc i) files)) new.runs
        (parts AreDisjoint disjoint) (parts (AreApart new.runs) apart))

    pub replaced-disjoint : AreDisjoint (held_runs files) → AreDisjoint new.runs → AreApart new.runs (held_runs files) → AreDisjoint (held_runs (set files i new))
    replaced-disjoint disjoint own apart = subst (λ (l : List Run). AreDisjoint l) (sym (held-set files i new lt))
        (AreDisjoint-replaced (held_runs (take i files)) (get_or files i d).runs (held_runs (drop (suc i) files)) new.runs
        (parts AreDisjoint disjoint) own (parts (AreApart new.runs) apart))

    pub replaced-there : AreThere total (held_runs files) → AreThere total new.runs → AreThere total (held_runs (set files i new))
    replaced-there there own = subst (λ (l : List Run). AreThere total l) (sym (held-set files i new lt))
        (AreThere-replaced total (held_runs (take i files)) (get_or files i d).runs (held_runs (drop (suc i) files)) new.runs (parts (AreThere total) there) own)

  -- a file that is removed: the blocks that are taken are those of the other files and its runs
  pub removed-taken : taken_by total (held_runs files) ≡ taken_by total (held_runs (remove files i) ++ (get_or files i d).runs)
  removed-taken =
      ap (λ (l : List Run). taken_by total l) (held-at files i d lt)
      ∙ taken_by-moved total (held_runs (take i files)) (get_or files i d).runs (held_runs (drop (suc i) files))
      ∙ ap (λ (l : List Run). taken_by total (l ++ (get_or files i d).runs)) (sym (held-remove files i))

  pub removed-apart : AreDisjoint (held_runs files) → AreApart (held_runs (remove files i)) (get_or files i d).runs
  removed-apart disjoint = subst (λ (l : List Run). AreApart l (get_or files i d).runs) (sym (held-remove files i))
      (AreApart-removed (held_runs (take i files)) (get_or files i d).runs (held_runs (drop (suc i) files)) (parts AreDisjoint disjoint))

  pub removed-disjoint : AreDisjoint (held_runs files) → AreDisjoint (held_runs (remove files i))
  removed-disjoint disjoint = subst (λ (l : List Run). AreDisjoint l) (sym (held-remove files i))
      (AreDisjoint-removed (held_runs (take i files)) (get_or files i d).runs (held_runs (drop (suc i) files)) (parts AreDisjoint disjoint))

  pub removed-there : AreThere total (held_runs files) → AreThere total (held_runs (remove files i))
  removed-there there = subst (λ (l : List Run). AreThere total l) (sym (held-remove files i))
      (AreThere-removed total (held_runs (take i files)) (get_or files i d).runs (held_runs (drop (suc i) files)) (parts (AreThere total) there)).0

-- what a cache's `hold` says of the blocks that are taken before and after it
abbrev pub Holds : List Bool → List Bool → List Run → Type 0
Holds old new runs = (total : ℕ) (held : List Run) → old ≡ taken_by total held → new ≡ taken_by total (held ++ runs)

-- and its `give`
abbrev pub Gives : List Bool → List Bool → List Run → Type 0
Gives old new runs = (total : ℕ) (kept : List Run) → old ≡ taken_by total (kept ++ runs) → AreApart kept runs → new ≡ taken_by total kept

-- a file joins the others
pub pushed-space : (total : ℕ) (files : List FileRec) (file : FileRec) (old new : List Bool) → old ≡ taken_by total (held_runs files) → Holds old new file.runs
    → new ≡ taken_by total (held_runs (files ++ file ∷ []))
pushed-space total files file old new is holds = holds total (held_runs files) is ∙ ap (λ (l : List Run). taken_by total l) (sym (held-push files file))

-- a file takes the place of another: its runs, which are free, are held, and then those of the other are given
pub replaced-space : (total : ℕ) (files : List FileRec) (i : ℕ) (d file : FileRec) (old between new : List Bool) → i < length files → old ≡ taken_by total (held_runs files)
    → AreDisjoint (held_runs files) → AreApart file.runs (held_runs files) → Holds old between file.runs → Gives between new (get_or files i d).runs
    → new ≡ taken_by total (held_runs (set files i file))
replaced-space total files i d file old between new lt is disjoint apart holds gives =
    gives total (held_runs (set files i file)) (holds total (held_runs files) is ∙ replaced-taken total files i d lt file) (replaced-apart total files i d lt file disjoint apart)

-- a file goes, and its runs are given
pub removed-space : (total : ℕ) (files : List FileRec) (i : ℕ) (d : FileRec) (old new : List Bool) → i < length files → old ≡ taken_by total (held_runs files)
    → AreDisjoint (held_runs files) → Gives old new (get_or files i d).runs → new ≡ taken_by total (held_runs (remove files i))
removed-space total files i d old new lt is disjoint gives =
    gives total (held_runs (remove files i)) (is ∙ removed-taken total files i d lt) (removed-apart total files i d lt disjoint)

-- a file is changed, and its runs are not
pub same-space : (total : ℕ) (files : List FileRec) (i : ℕ) (d file : FileRec) (space : List Bool) → i < length files → space ≡ taken_by total (held_runs files)
    → file.runs ≡ (get_or files i d).runs → space ≡ taken_by total (held_runs (set files i file))
same-space total files i d file space lt is same = is ∙ ap (λ (l : List Run). taken_by total l) (sym (held-set_same files i d file lt same))
