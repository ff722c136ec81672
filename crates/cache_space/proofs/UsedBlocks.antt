-- How many blocks are free beside those that are held.
use Rattle.std.proofs.Common.{◌≡◌, ℕ, ◌+◌, ◌-◌, ◌<◌, ◌≤◌, Bool, true, false, cond, not, ◌||◌, List, [], ◌∷◌, ◌++◌, length, filter, refl, sym, ◌∙◌, ap, ⊎_elim, arith, suc, zero}
use Rattle.std.specs.List.{range_with_len}
use Rattle.std.proofs.lemmas.Bool.{both_ways, or_left, or_right, true≢false, false_from_ne_true, cases_eq}
use Rattle.std.proofs.lemmas.List.{length-append}
use Rattle.std.proofs.lemmas.List.Elements.{filter-append}
use Rattle.std.proofs.lemmas.List.Sums.{sum_by-cons}
use Rattle.site_types.specs.declared.file.Run.{Run}
use Rattle.cache_space.specs.Blocks.{is_in_run, is_in_runs, free_blocks}
use Rattle.cache_space.specs.Space.{AreThere, AreDisjoint, blocks_in}
use Rattle.cache_space.proofs.RunLemmas.{is_in_run_tells, is_in_run_from}
use Rattle.cache_space.proofs.OpenBlocks.{range_with_len-add, filter-range_none}

filter-range_all : (p : ℕ → Bool) (a n : ℕ) → ((k : ℕ) → a ≤ k → k < a + n → p k ≡ true) → length (filter p (range_with_len a n)) ≡ n
filter-range_all p a zero all = refl
filter-range_all p a (suc n) all =
    let here : p a ≡ true = all a (omega arith) (omega arith) in
    let rest : length (filter p (range_with_len (a + 1) n)) ≡ n =
    filter-range_all p (a + 1) n (λ k low high. all k (omega (arith, low)) (omega (arith, high))) in
    rw here (ap suc rest)

not_within : (run : Run) (block : ℕ) → ((run.first ≤ block) × (block < run.first + run.count) → ⊥) → is_in_run block run ≡ false
not_within run block none = false_from_ne_true (is_in_run block run) (λ (h : is_in_run block run ≡ true). none (is_in_run_tells run block h))

-- the blocks of one run
one_run : (total : ℕ) (run : Run) → AreThere total (run ∷ []) → length (filter (λ block. is_in_run block run) (range_with_len 0 total)) ≡ run.count
one_run total run there = ⊎_elim
    (λ (none : run.count ≡ 0). ap length (filter-range_none (λ block. is_in_run block run) 0 total (λ k low high. not_within run k (λ h. omega (arith, h.0, h.1, none)))) ∙ sym none)
    (λ some. split some)
    (cases_eq run.count 0)
  where
    within : ℕ → Bool
    within block = is_in_run block run

    split : (run.count ≡ 0 → ⊥) → length (filter (λ block. is_in_run block run) (range_with_len 0 total)) ≡ run.count
    split some =
        let last = there (run.first + (run.count - 1)) (or_left (is_in_run (run.first + (run.count - 1)) run) false
        (is_in_run_from run (run.first + (run.count - 1)) (omega arith) (omega (arith, some)))) in
        let parts : total ≡ run.first + (run.count + (total - (run.first + run.count))) = omega (arith, some, last) in
        let rest : ℕ = total - (run.first + run.count) in
        let before : filter (λ block. is_in_run block run) (range_with_len 0 run.first) ≡ [] =
        filter-range_none (λ block. is_in_run block run) 0 run.first (λ k low high. not_within run k (λ h. omega (arith, h.0, high))) in
        let middle : length (filter (λ block. is_in_run block run) (range_with_len (0 + run.first) run.count)) ≡ run.count =
        filter-range_all (λ block. is_in_run block run) (0 + run.first) run.count (λ k low high. is_in_run_from run k (omega (arith, low)) (omega (arith, high))) in
        let behind : filter (λ block. is_in_run block run) (range_with_len (0 + run.first + run.count) rest) ≡ [] =
        filter-range_none (λ block. is_in_run block run) (0 + run.first + run.count) rest (λ k low high. not_within run k (λ h. omega (arith, h.1, low))) in
        ap (λ n. length (filter (λ block. is_in_run block run) (range_with_len 0 n))) parts
        ∙ ap (λ xs. length (filter (λ block. is_in_run block run) xs)) (range_with_len-add 0 run.first (run.count + rest) ∙ ap (λ xs. range_with_len 0 run.first ++ xs) (range_with_len-add (0 + run.first) run.count rest))
        ∙ ap length (filter-append (λ block. is_in_run block run) (range_with_len 0 run.first) (range_with_len (0 + run.first) run.count ++ range_with_len (0 + run.first + run.count) rest)
        ∙ ap (λ xs. xs ++ filter (λ block. is_in_run block run) (range_with_len (0 + run.first) run.count ++ range_with_len (0 + run.first + run.count) rest)) before
        ∙ filter-append (λ block. is_in_run block run) (range_with_len (0 + run.first) run.count) (range_with_len (0 + run.first + run.count) rest))
        ∙ length-append (filter (λ block. is_in_run block run) (range_with_len (0 + run.first) run.count)) (filter (λ block. is_in_run block run) (range_with_len (0 + run.first + run.count) rest))
        ∙ omega (arith, middle, ap length behind)

-- one test beside another that it excludes
filter_apart : (p q : ℕ → Bool) (xs : List ℕ) → ((x : ℕ) → p x ≡ true → q x ≡ false)
    → length (filter (λ x. not (p x || q x)) xs) + length (filter p xs) ≡ length (filter (λ x. not (q x)) xs)
filter_apart p q [] apart = refl
filter_apart p q (x ∷ xs) apart = step (p x) (q x) (apart x) (filter (λ x. not (p x || q x)) xs) (filter p xs) (filter (λ x. not (q x)) xs) (filter_apart p q xs apart)
  where
    step : (a b : Bool) → (a ≡ true → b ≡ false) → (neither left right : List ℕ) → length neither + length left ≡ length right
        → length (cond (not (a || b)) (x ∷ neither) neither) + length (cond a (x ∷ left) left) ≡ length (cond (not b) (x ∷ right) right)
    step true true h neither left right e = absurd (true≢false (h refl))
    step true false h neither left right e = omega (arith, e)
    step false true h neither left right e = e
    step false false h neither left right e = omega (arith, e)

-- of runs that have no block in common
pub free_blocks-used : (total : ℕ) (held : List Run) → AreDisjoint held → AreThere total held → length (free_blocks total held) + blocks_in held ≡ total
free_blocks-used total [] disjoint there = omega (arith, filter-range_all (λ block. not (is_in_runs [] block)) 0 total (λ k low high. refl))
free_blocks-used total (run ∷ held) disjoint there =
    let rest = free_blocks-used total held disjoint.1 (λ block h. there block (or_right (is_in_run block run) (is_in_runs held block) h)) in
    let one = one_run total run (λ block h. there block (first_only run held block h)) in
    let apart = filter_apart (λ block. is_in_run block run) (is_in_runs held) (range_with_len 0 total) (λ block h. disjoint.0 block (or_left (is_in_run block run) false h)) in
    omega (arith, rest, one, apart, sum_by-cons (λ (r : Run). r.count) run held)
  where
    first_only : (r : Run) (rs : List Run) (block : ℕ) → is_in_runs (r ∷ []) block ≡ true → is_in_runs (r ∷ rs) block ≡ true
    first_only r rs block h = go (is_in_run block r) (is_in_runs rs block) h
      where
        go : (a b : Bool) → (a || false) ≡ true → (a || b) ≡ true
        go true b e = refl
        go false b e = absurd (both_ways false refl e)
