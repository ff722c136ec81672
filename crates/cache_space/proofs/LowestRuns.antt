-- What the lowest free blocks are, as runs.
use Rattle.std.proofs.Common.{◌≡◌, ℕ, ◌+◌, ◌-◌, ◌<◌, ◌≤◌, Bool, true, false, cond, eqb, not, ◌||◌, List, [], ◌∷◌, ◌++◌, length, take, filter, refl, sym, ◌∙◌, ap, subst, ⊎_elim, ◌⊎◌, inl, inr, arith, suc, zero}
use Rattle.std.specs.List.{range_with_len, list_any, All}
use Rattle.std.proofs.lemmas.Bool.{both_ways, or_cases, or_left, or_right, not-true, eqb-true, eqb-false, false_from_ne_true}
use Rattle.std.proofs.lemmas.Bool.Decides.{nat_tests}
use Rattle.std.proofs.lemmas.List.{length-take-le}
use Rattle.std.proofs.lemmas.List.Elements.{All-nil, All-cons}
use Rattle.std.proofs.lemmas.List.Sums.{sum_by-cons}
use Rattle.site_types.specs.declared.file.Run.{Run}
use Rattle.cache_space.specs.Blocks.{is_in_run, is_in_runs, put_before, as_runs, free_blocks, lowest_runs}
use Rattle.cache_space.specs.Space.{AreThere, AreApart, AreFree, AreDisjoint, AreMaximalFrom, AreMaximal, blocks_in}
use Rattle.cache_space.proofs.RunLemmas.{is_in_run_tells, is_in_run_from}
use Rattle.cache_space.proofs.HeldBlocks.{AreApart-from_append_right}

-- the blocks of runs that are made of blocks
put_before_none : (x b : ℕ) → is_in_runs (put_before x []) b ≡ (eqb b x || false)
put_before_none x b = grind (arith, nat_tests)

joined_run : (x b : ℕ) (run : Run) → run.first ≡ x + 1 → is_in_run b (record { first = x; count = run.count + 1 }) ≡ (eqb b x || is_in_run b run)
joined_run x b run e = grind (arith, nat_tests)

single_run : (x b : ℕ) → is_in_run b (record { first = x; count = 1 }) ≡ eqb b x
single_run x b = grind (arith, nat_tests)

or_assoc : (x y z : Bool) → ((x || y) || z) ≡ (x || (y || z))
or_assoc true y z = refl
or_assoc false y z = refl

pub is_in_runs-put_before : (x b : ℕ) (runs : List Run) → is_in_runs (put_before x runs) b ≡ (eqb b x || is_in_runs runs b)
is_in_runs-put_before x b [] = put_before_none x b
is_in_runs-put_before x b (run ∷ runs) = cases (eqb run.first (x + 1)) refl
  where
    cases : (t : Bool) → eqb run.first (x + 1) ≡ t
        → is_in_runs (cond t ((record { first = x; count = run.count + 1 }) ∷ runs) ((record { first = x; count = 1 }) ∷ (run ∷ runs))) b ≡ (eqb b x || (is_in_run b run || is_in_runs runs b))
    cases true e = ap (λ h. h || is_in_runs runs b) (joined_run x b run (eqb-true run.first (x + 1) e)) ∙ or_assoc (eqb b x) (is_in_run b run) (is_in_runs runs b)
    cases false e = ap (λ h. h || (is_in_run b run || is_in_runs runs b)) (single_run x b)

pub is_in_runs-as_runs : (blocks : List ℕ) (b : ℕ) → is_in_runs (as_runs blocks) b ≡ list_any (eqb b) blocks
is_in_runs-as_runs [] b = refl
is_in_runs-as_runs (x ∷ xs) b = is_in_runs-put_before x b (as_runs xs) ∙ ap (λ h. eqb b x || h) (is_in_runs-as_runs xs b)

-- how many they are
blocks_in-put_before : (x : ℕ) (runs : List Run) → blocks_in (put_before x runs) ≡ 1 + blocks_in runs
blocks_in-put_before x [] = refl
blocks_in-put_before x (run ∷ runs) = cases (eqb run.first (x + 1))
  where
    count : Run → ℕ
    count = λ r. r.count

    cases : (t : Bool) → blocks_in (cond t ((record { first = x; count = run.count + 1 }) ∷ runs) ((record { first = x; count = 1 }) ∷ (run ∷ runs))) ≡ 1 + blocks_in (run ∷ runs)
    cases true = omega (arith, sum_by-cons (λ (r : Run). r.count) (record { first = x; count = run.count + 1 }) runs, sum_by-cons (λ (r : Run). r.count) run runs)
    cases false = sum_by-cons (λ (r : Run). r.count) (record { first = x; count = 1 }) (run ∷ runs)

pub blocks_in-as_runs : (blocks : List ℕ) → blocks_in (as_runs blocks) ≡ length blocks
blocks_in-as_runs [] = refl
blocks_in-as_runs (x ∷ xs) = omega (arith, blocks_in-put_before x (as_runs xs), blocks_in-as_runs xs)

-- blocks in order
abbrev pub AscendFrom : ℕ → List ℕ → Type 0
AscendFrom low [] = Unit {0}
AscendFrom low (x ∷ xs) = (low ≤ x) × AscendFrom (x + 1) xs

AscendFrom-lower : (low high : ℕ) (xs : List ℕ) → low ≤ high → AscendFrom high xs → AscendFrom low xs
AscendFrom-lower low high [] le h = tt
AscendFrom-lower low high (x ∷ xs) le h = (omega (arith, le, h.0), h.1)

AscendFrom-take : (n low : ℕ) (xs : List ℕ) → AscendFrom low xs → AscendFrom low (take n xs)
AscendFrom-take zero low xs h = tt
AscendFrom-take (suc n) low [] h = tt
AscendFrom-take (suc n) low (x ∷ xs) h = (h.0, AscendFrom-take n (x + 1) xs h.1)

AscendFrom-cond : (t : Bool) (a : ℕ) (xs : List ℕ) → AscendFrom (a + 1) xs → AscendFrom a (cond t (a ∷ xs) xs)
AscendFrom-cond true a xs h = (omega arith, h)
AscendFrom-cond false a xs h = AscendFrom-lower a (a + 1) xs (omega arith) h

AscendFrom-filter : (p : ℕ → Bool) (a n : ℕ) → AscendFrom a (filter p (range_with_len a n))
AscendFrom-filter p a zero = tt
AscendFrom-filter p a (suc n) = AscendFrom-cond (p a) a (filter p (range_with_len (a + 1) n)) (AscendFrom-filter p (a + 1) n)

-- runs made of blocks in order are maximal
AreMaximalFrom-put_before : (low x : ℕ) (runs : List Run) → low ≤ x → AreMaximalFrom (x + 1) runs → AreMaximalFrom low (put_before x runs)
AreMaximalFrom-put_before low x [] le h = (le, omega arith, tt)
AreMaximalFrom-put_before low x (run ∷ runs) le h = cases (eqb run.first (x + 1)) refl
  where
    cases : (t : Bool) → eqb run.first (x + 1) ≡ t
        → AreMaximalFrom low (cond t ((record { first = x; count = run.count + 1 }) ∷ runs) ((record { first = x; count = 1 }) ∷ (run ∷ runs)))
    cases true e =
        let is : run.first ≡ x + 1 = eqb-true run.first (x + 1) e in
        let next : run.first + run.count + 1 ≡ x + (run.count + 1) + 1 = omega (arith, is) in
        (le, omega arith, subst (λ k. AreMaximalFrom k runs) next h.2)
    cases false e = (le, omega arith, (omega (arith, h.0, eqb-false run.first (x + 1) e), h.1, h.2))

pub AreMaximalFrom-as_runs : (low : ℕ) (blocks : List ℕ) → AscendFrom low blocks → AreMaximalFrom low (as_runs blocks)
AreMaximalFrom-as_runs low [] h = tt
AreMaximalFrom-as_runs low (x ∷ xs) h = AreMaximalFrom-put_before low x (as_runs xs) h.0 (AreMaximalFrom-as_runs (x + 1) xs h.1)

pub lowest_runs-maximal : (total : ℕ) (held : List Run) (wanted : ℕ) → AreMaximal (lowest_runs total held wanted)
lowest_runs-maximal total held wanted =
    AreMaximalFrom-as_runs 0 (take wanted (free_blocks total held))
    (AscendFrom-take wanted 0 (free_blocks total held) (AscendFrom-filter (λ block. not (is_in_runs held block)) 0 total))

-- they are as many as are wanted
pub blocks_in-lowest_runs : (total : ℕ) (held : List Run) (wanted : ℕ) → wanted ≤ length (free_blocks total held) → blocks_in (lowest_runs total held wanted) ≡ wanted
blocks_in-lowest_runs total held wanted enough = blocks_in-as_runs (take wanted (free_blocks total held)) ∙ length-take-le wanted (free_blocks total held) enough

-- they are there, and none of them is held
or_later : (t x y : Bool) → (x ≡ true → y ≡ true) → (t || x) ≡ true → (t || y) ≡ true
or_later true x y later h = refl
or_later false x y later h = later h

among_taken : (n b : ℕ) (xs : List ℕ) → list_any (eqb b) (take n xs) ≡ true → list_any (eqb b) xs ≡ true
among_taken zero b xs h = absurd (both_ways false refl h)
among_taken (suc n) b [] h = h
among_taken (suc n) b (x ∷ xs) h = or_later (eqb b x) (list_any (eqb b) (take n xs)) (list_any (eqb b) xs) (among_taken n b xs) h

kept_one : (p : ℕ → Bool) (a b : ℕ) (xs : List ℕ) (t : Bool) → p a ≡ t → list_any (eqb b) (cond t (a ∷ xs) xs) ≡ true → ((b ≡ a) × (p b ≡ true)) ⊎ (list_any (eqb b) xs ≡ true)
kept_one p a b xs true e h = ⊎_elim
    (λ (same : eqb b a ≡ true). let is : b ≡ a = eqb-true b a same in inl (is, ap p is ∙ e))
    (λ (later : list_any (eqb b) xs ≡ true). inr later)
    (or_cases (eqb b a) (list_any (eqb b) xs) h)
kept_one p a b xs false e h = inr h

kept_in_range : (p : ℕ → Bool) (a n b : ℕ) → list_any (eqb b) (filter p (range_with_len a n)) ≡ true → (b < a + n) × (p b ≡ true)
kept_in_range p a zero b h = absurd (both_ways false refl h)
kept_in_range p a (suc n) b h = ⊎_elim
    (λ (here : (b ≡ a) × (p b ≡ true)). (omega (arith, here.0), here.1))
    (λ (later : list_any (eqb b) (filter p (range_with_len (a + 1) n)) ≡ true). let r = kept_in_range p (a + 1) n b later in (omega (arith, r.0), r.1))
    (kept_one p a b (filter p (range_with_len (a + 1) n)) (p a) refl h)

pub lowest_runs-free : (total : ℕ) (held : List Run) (wanted : ℕ) → AreFree total held (lowest_runs total held wanted)
lowest_runs-free total held wanted = (λ block h. (each block h).0, λ block h. not-true (is_in_runs held block) (each block h).1)
  where
    each : (block : ℕ) → is_in_runs (lowest_runs total held wanted) block ≡ true → (block < total) × (not (is_in_runs held block) ≡ true)
    each block h =
        let r = kept_in_range (λ b. not (is_in_runs held b)) 0 total block
        (among_taken wanted block (free_blocks total held) (sym (is_in_runs-as_runs (take wanted (free_blocks total held)) block) ∙ h)) in
        (omega (arith, r.0), r.1)

pub lowest_runs-there : (total : ℕ) (held : List Run) (wanted : ℕ) → AreThere total (lowest_runs total held wanted)
lowest_runs-there total held wanted = (lowest_runs-free total held wanted).0

-- beside what is held they are clear of the runs that were passed over
pub lowest_runs-apart : (total : ℕ) (held but : List Run) (wanted : ℕ) → AreApart (lowest_runs total (held ++ but) wanted) held × AreApart (lowest_runs total (held ++ but) wanted) but
lowest_runs-apart total held but wanted = AreApart-from_append_right (lowest_runs total (held ++ but) wanted) held but (lowest_runs-free total (held ++ but) wanted).1

-- what maximal runs are
in_one : (run : Run) (block : ℕ) → is_in_runs (run ∷ []) block ≡ true → is_in_run block run ≡ true
in_one run block h = ⊎_elim (λ (here : is_in_run block run ≡ true). here) (λ (none : false ≡ true). absurd (both_ways false refl none)) (or_cases (is_in_run block run) false h)

AreMaximalFrom-above : (low : ℕ) (runs : List Run) (block : ℕ) → AreMaximalFrom low runs → is_in_runs runs block ≡ true → low ≤ block
AreMaximalFrom-above low [] block h within = absurd (both_ways false refl within)
AreMaximalFrom-above low (run ∷ runs) block h within = ⊎_elim
    (λ (here : is_in_run block run ≡ true). omega (arith, h.0, (is_in_run_tells run block here).0))
    (λ (later : is_in_runs runs block ≡ true). omega (arith, h.0, AreMaximalFrom-above (run.first + run.count + 1) runs block h.2 later))
    (or_cases (is_in_run block run) (is_in_runs runs block) within)

pub AreMaximalFrom-disjoint : (low : ℕ) (runs : List Run) → AreMaximalFrom low runs → AreDisjoint runs
AreMaximalFrom-disjoint low [] h = tt
AreMaximalFrom-disjoint low (run ∷ runs) h = (
  λ block within. false_from_ne_true (is_in_runs runs block) (λ (later : is_in_runs runs block ≡ true).
      absurd (omega (arith, (is_in_run_tells run block (in_one run block within)).1, AreMaximalFrom-above (run.first + run.count + 1) runs block h.2 later))),
  AreMaximalFrom-disjoint (run.first + run.count + 1) runs h.2,
)

pub AreMaximal-disjoint : (runs : List Run) → AreMaximal runs → AreDisjoint runs
AreMaximal-disjoint runs h = AreMaximalFrom-disjoint 0 runs h

pub lowest_runs-disjoint : (total : ℕ) (held : List Run) (wanted : ℕ) → AreDisjoint (lowest_runs total held wanted)
lowest_runs-disjoint total held wanted = AreMaximal-disjoint (lowest_runs total held wanted) (lowest_runs-maximal total held wanted)

-- each has a block, and ends within what is there
abbrev pub IsRunWithin : ℕ → Run → Type 0
IsRunWithin total run = (0 < run.count) × (run.first + run.count ≤ total)

run_within : (total : ℕ) (run : Run) (runs : List Run) → 0 < run.count → AreThere total (run ∷ runs) → IsRunWithin total run
run_within total run runs has there =
    let last = there (run.first + (run.count - 1)) (or_left (is_in_run (run.first + (run.count - 1)) run) (is_in_runs runs (run.first + (run.count - 1)))
    (is_in_run_from run (run.first + (run.count - 1)) (omega arith) (omega (arith, has)))) in
    (has, omega (arith, has, last))

pub AreMaximalFrom-within : (total low : ℕ) (runs : List Run) → AreMaximalFrom low runs → AreThere total runs → All (IsRunWithin total) runs
AreMaximalFrom-within total low [] h there = All-nil (IsRunWithin total)
AreMaximalFrom-within total low (run ∷ runs) h there =
    All-cons (IsRunWithin total) run runs (run_within total run runs h.1 there)
    (AreMaximalFrom-within total (run.first + run.count + 1) runs h.2 (λ block later. there block (or_right (is_in_run block run) (is_in_runs runs block) later)))

pub AreMaximal-within : (total : ℕ) (runs : List Run) → AreMaximal runs → AreThere total runs → All (IsRunWithin total) runs
AreMaximal-within total runs h there = AreMaximalFrom-within total 0 runs h there

pub lowest_runs-within : (total : ℕ) (held : List Run) (wanted : ℕ) → All (IsRunWithin total) (lowest_runs total held wanted)
lowest_runs-within total held wanted = AreMaximal-within total (lowest_runs total held wanted) (lowest_runs-maximal total held wanted) (lowest_runs-there total held wanted)
