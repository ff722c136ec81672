-- What is held, in whatever order, and runs that have no block in common.
use Rattle.std.proofs.Common.{◌≡◌, ℕ, Bool, true, false, not, ◌||◌, List, [], ◌∷◌, ◌++◌, take, map, refl, sym, ◌∙◌, ap, ⊎_elim}
use Rattle.std.specs.List.{range_with_len}
use Rattle.std.specs.List.Sorted.{IsPermutation}
use Rattle.std.proofs.lemmas.Bool.{both_ways, or_cases, or_parts, or_from, false_from_ne_true}
use Rattle.std.proofs.lemmas.List.Elements.{filter_agree}
use Rattle.std.proofs.lemmas.List.Sorted.{list_any-IsPermutation}
use Rattle.site_types.specs.declared.file.Run.{Run}
use Rattle.cache_space.specs.Blocks.{is_in_run, is_in_runs, free_blocks, as_runs, lowest_runs}
use Rattle.cache_space.specs.Space.{taken_by, AreThere, AreApart, AreDisjoint}
use Rattle.cache_space.proofs.RunLemmas.{is_in_runs-append}

-- the same blocks
abbrev pub HaveSameBlocks : List Run → List Run → Type 0
HaveSameBlocks xs ys = (block : ℕ) → is_in_runs xs block ≡ is_in_runs ys block

map-agree : (f g : ℕ → Bool) (xs : List ℕ) → ((x : ℕ) → f x ≡ g x) → map f xs ≡ map g xs
map-agree f g [] same = refl
map-agree f g (x ∷ xs) same = rw (same x, map-agree f g xs same)

or_comm : (x y : Bool) → (x || y) ≡ (y || x)
or_comm true true = refl
or_comm true false = refl
or_comm false true = refl
or_comm false false = refl

or_moved : (x y z : Bool) → (x || (y || z)) ≡ ((x || z) || y)
or_moved true y z = refl
or_moved false y z = or_comm y z

pub taken_by-same : (total : ℕ) (xs ys : List Run) → HaveSameBlocks xs ys → taken_by total xs ≡ taken_by total ys
taken_by-same total xs ys same = map-agree (is_in_runs xs) (is_in_runs ys) (range_with_len 0 total) same

pub free_blocks-same : (total : ℕ) (xs ys : List Run) → HaveSameBlocks xs ys → free_blocks total xs ≡ free_blocks total ys
free_blocks-same total xs ys same = filter_agree (λ block. not (is_in_runs xs block)) (λ block. not (is_in_runs ys block)) (λ block. ap not (same block)) (range_with_len 0 total)

pub lowest_runs-same : (total : ℕ) (xs ys : List Run) (wanted : ℕ) → HaveSameBlocks xs ys → lowest_runs total xs wanted ≡ lowest_runs total ys wanted
lowest_runs-same total xs ys wanted same = ap (λ blocks. as_runs (take wanted blocks)) (free_blocks-same total xs ys same)

-- which lists have the same blocks
pub same-swapped : (xs ys : List Run) → HaveSameBlocks (xs ++ ys) (ys ++ xs)
same-swapped xs ys block = is_in_runs-append xs ys block ∙ or_comm (is_in_runs xs block) (is_in_runs ys block) ∙ sym (is_in_runs-append ys xs block)

pub same-moved : (xs ys zs : List Run) → HaveSameBlocks (xs ++ (ys ++ zs)) ((xs ++ zs) ++ ys)
same-moved xs ys zs block =
    is_in_runs-append xs (ys ++ zs) block ∙ ap (λ b. is_in_runs xs block || b) (is_in_runs-append ys zs block)
    ∙ or_moved (is_in_runs xs block) (is_in_runs ys block) (is_in_runs zs block)
    ∙ sym (is_in_runs-append (xs ++ zs) ys block ∙ ap (λ b. b || is_in_runs ys block) (is_in_runs-append xs zs block))

pub same-permuted : (xs ys : List Run) → IsPermutation xs ys → HaveSameBlocks xs ys
same-permuted xs ys permuted block = list_any-IsPermutation (is_in_run block) xs ys permuted

pub taken_by-swapped : (total : ℕ) (xs ys : List Run) → taken_by total (xs ++ ys) ≡ taken_by total (ys ++ xs)
taken_by-swapped total xs ys = taken_by-same total (xs ++ ys) (ys ++ xs) (same-swapped xs ys)

-- runs in the middle put last
pub taken_by-moved : (total : ℕ) (xs ys zs : List Run) → taken_by total (xs ++ (ys ++ zs)) ≡ taken_by total ((xs ++ zs) ++ ys)
taken_by-moved total xs ys zs = taken_by-same total (xs ++ (ys ++ zs)) ((xs ++ zs) ++ ys) (same-moved xs ys zs)

pub taken_by-permuted : (total : ℕ) (xs ys : List Run) → IsPermutation xs ys → taken_by total xs ≡ taken_by total ys
taken_by-permuted total xs ys permuted = taken_by-same total xs ys (same-permuted xs ys permuted)

-- runs with no block in common
pub AreApart-sym : (xs ys : List Run) → AreApart xs ys → AreApart ys xs
AreApart-sym xs ys apart block h = false_from_ne_true (is_in_runs xs block) (λ (both : is_in_runs xs block ≡ true). both_ways (is_in_runs ys block) (apart block both) h)

pub AreApart-nil : (xs : List Run) → AreApart [] xs
AreApart-nil xs block h = absurd (both_ways false refl h)

pub AreApart-nil_right : (xs : List Run) → AreApart xs []
AreApart-nil_right xs block h = refl

pub AreApart-append : (xs ys zs : List Run) → AreApart xs zs → AreApart ys zs → AreApart (xs ++ ys) zs
AreApart-append xs ys zs first second block h =
    ⊎_elim (first block) (second block) (or_cases (is_in_runs xs block) (is_in_runs ys block) (sym (is_in_runs-append xs ys block) ∙ h))

pub AreApart-append_right : (xs ys zs : List Run) → AreApart xs ys → AreApart xs zs → AreApart xs (ys ++ zs)
AreApart-append_right xs ys zs first second block h =
    is_in_runs-append ys zs block ∙ or_from (is_in_runs ys block) (is_in_runs zs block) (first block h) (second block h)

pub AreApart-from_append : (xs ys zs : List Run) → AreApart (xs ++ ys) zs → AreApart xs zs × AreApart ys zs
AreApart-from_append xs ys zs apart = (
  λ block h. apart block (is_in_runs-append xs ys block ∙ rw h),
  λ block h. apart block (is_in_runs-append xs ys block ∙ or_comm (is_in_runs xs block) (is_in_runs ys block) ∙ rw h),
)

pub AreApart-from_append_right : (xs ys zs : List Run) → AreApart xs (ys ++ zs) → AreApart xs ys × AreApart xs zs
AreApart-from_append_right xs ys zs apart = (
  λ block h. (or_parts (is_in_runs ys block) (is_in_runs zs block) (sym (is_in_runs-append ys zs block) ∙ apart block h)).0,
  λ block h. (or_parts (is_in_runs ys block) (is_in_runs zs block) (sym (is_in_runs-append ys zs block) ∙ apart block h)).1,
)

pub AreApart-same : (xs ys zs : List Run) → HaveSameBlocks xs ys → AreApart ys zs → AreApart xs zs
AreApart-same xs ys zs same apart block h = apart block (sym (same block) ∙ h)

-- runs that are there
pub AreThere-nil : (total : ℕ) → AreThere total []
AreThere-nil total block h = absurd (both_ways false refl h)

pub AreThere-append : (total : ℕ) (xs ys : List Run) → AreThere total xs → AreThere total ys → AreThere total (xs ++ ys)
AreThere-append total xs ys first second block h =
    ⊎_elim (first block) (second block) (or_cases (is_in_runs xs block) (is_in_runs ys block) (sym (is_in_runs-append xs ys block) ∙ h))

pub AreThere-from_append : (total : ℕ) (xs ys : List Run) → AreThere total (xs ++ ys) → AreThere total xs × AreThere total ys
AreThere-from_append total xs ys there = (
  λ block h. there block (is_in_runs-append xs ys block ∙ rw h),
  λ block h. there block (is_in_runs-append xs ys block ∙ or_comm (is_in_runs xs block) (is_in_runs ys block) ∙ rw h),
)

pub AreThere-same : (total : ℕ) (xs ys : List Run) → HaveSameBlocks xs ys → AreThere total ys → AreThere total xs
AreThere-same total xs ys same there block h = there block (sym (same block) ∙ h)

-- runs of which no two have a block in common, joined
pub AreDisjoint-append : (xs ys : List Run) → AreDisjoint xs → AreDisjoint ys → AreApart xs ys → AreDisjoint (xs ++ ys)
AreDisjoint-append [] ys first second apart = second
AreDisjoint-append (x ∷ xs) ys first second apart =
    let parts = AreApart-from_append (x ∷ []) xs ys apart in
    (AreApart-append_right (x ∷ []) xs ys first.0 parts.0, AreDisjoint-append xs ys first.1 second parts.1)

pub AreDisjoint-from_append : (xs ys : List Run) → AreDisjoint (xs ++ ys) → AreDisjoint xs × (AreDisjoint ys × AreApart xs ys)
AreDisjoint-from_append [] ys h = (tt, (h, AreApart-nil ys))
AreDisjoint-from_append (x ∷ xs) ys h =
    let rest = AreDisjoint-from_append xs ys h.1 in
    let parts = AreApart-from_append_right (x ∷ []) xs ys h.0 in
    ((parts.0, rest.0), (rest.1.0, AreApart-append (x ∷ []) xs ys parts.1 rest.1.1))
