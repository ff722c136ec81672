-- Runs with no block in common are apart on the disk too.
use Rattle.std.proofs.Common.{◌≡◌, ℕ, ◌+◌, ◌*◌, ◌<◌, ◌≤◌, Bool, true, false, ◌||◌, List, [], ◌∷◌, length, get_or, refl, ◌⊎◌, inl, inr, ⊎_elim, arith, suc, zero}
use Rattle.std.proofs.lemmas.Bool.{both_ways, or_left, cases_lt, false_from_ne_true}
use Rattle.std.proofs.lemmas.List.Folds.{list_any_at}
use Rattle.site_types.specs.declared.file.Run.{Run}
use Rattle.cache_space.specs.Blocks.{is_in_run, is_in_runs}
use Rattle.cache_space.specs.Space.{AreApart, AreDisjoint}
use Rattle.cache_space.proofs.RunLemmas.{is_in_run_from}

abbrev pub RunsApart : Run → Run → Type 0
RunsApart r s = AreApart (r ∷ []) (s ∷ [])

in_one : (run : Run) (block : ℕ) → run.first ≤ block → block < run.first + run.count → is_in_runs (run ∷ []) block ≡ true
in_one run block low high = or_left (is_in_run block run) false (is_in_run_from run block low high)

-- one of the two ends before the other begins
pub apart_ranges : (r s : Run) → RunsApart r s → 0 < r.count → 0 < s.count → (r.first + r.count ≤ s.first) ⊎ (s.first + s.count ≤ r.first)
apart_ranges r s apart has_r has_s = ⊎_elim
    (λ (lt : s.first < r.first + r.count). ⊎_elim
    (λ (gt : r.first < s.first + s.count). absurd (meet (cases_lt r.first s.first) lt gt))
    (λ (le : s.first + s.count ≤ r.first). inr le)
    (cases_lt r.first (s.first + s.count)))
    (λ (le : r.first + r.count ≤ s.first). inl le)
    (cases_lt s.first (r.first + r.count))
  where
    both : (block : ℕ) → is_in_runs (r ∷ []) block ≡ true → is_in_runs (s ∷ []) block ≡ true → ⊥
    both block in_r in_s = both_ways (is_in_runs (s ∷ []) block) (apart block in_r) in_s

    meet : (r.first < s.first) ⊎ (s.first ≤ r.first) → s.first < r.first + r.count → r.first < s.first + s.count → ⊥
    meet (inl below) lt gt = both s.first (in_one r s.first (omega (arith, below)) lt) (in_one s s.first (omega arith) (omega (arith, has_s)))
    meet (inr above) lt gt = both r.first (in_one r r.first (omega arith) (omega (arith, has_r))) (in_one s r.first above gt)

-- the same in bytes
pub apart_bytes : (r s : Run) → RunsApart r s → 0 < r.count → 0 < s.count
    → ((r.first + r.count) * 4096 ≤ s.first * 4096) ⊎ ((s.first + s.count) * 4096 ≤ r.first * 4096)
apart_bytes r s apart has_r has_s = ⊎_elim (λ le. inl (omega (arith, le))) (λ le. inr (omega (arith, le))) (apart_ranges r s apart has_r has_s)

-- runs of two lists that have no block in common
in_list : (runs : List Run) (i block : ℕ) (d : Run) → i < length runs → is_in_runs (get_or runs i d ∷ []) block ≡ true → is_in_runs runs block ≡ true
in_list runs i block d lt h = list_any_at (is_in_run block) runs i d lt (alone (is_in_run block (get_or runs i d)) h)
  where
    alone : (b : Bool) → (b || false) ≡ true → b ≡ true
    alone true e = refl
    alone false e = e

pub apart_members : (xs ys : List Run) → AreApart xs ys → (i j : ℕ) (d e : Run) → i < length xs → j < length ys → RunsApart (get_or xs i d) (get_or ys j e)
apart_members xs ys apart i j d e lt_i lt_j block h = false_from_ne_true (is_in_runs (get_or ys j e ∷ []) block)
    (λ (also : is_in_runs (get_or ys j e ∷ []) block ≡ true).
    both_ways (is_in_runs ys block) (apart block (in_list xs i block d lt_i h)) (in_list ys j block e lt_j also))

-- and of one list of which no two have a block in common
pub disjoint_members : (runs : List Run) → AreDisjoint runs → (i j : ℕ) (d : Run) → i < j → j < length runs → RunsApart (get_or runs i d) (get_or runs j d)
disjoint_members [] h i j d lt within = absurd (omega arith)
disjoint_members (run ∷ runs) h zero zero d lt within = absurd (omega arith)
disjoint_members (run ∷ runs) h zero (suc j) d lt within = apart_members (run ∷ []) runs h.0 0 j d d (omega arith) (omega (arith, within))
disjoint_members (run ∷ runs) h (suc i) zero d lt within = absurd (omega arith)
disjoint_members (run ∷ runs) h (suc i) (suc j) d lt within = disjoint_members runs h.1 i j d (omega (arith, lt)) (omega (arith, within))
