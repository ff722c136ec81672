-- How many runs there are, and the ranges of their fields. `lowest_known` serves code that has the lowest free runs of a cache
-- and knows nothing of the files yet.
use Rattle.std.proofs.Common.{◌≡◌, ℕ, zero, suc, ◌+◌, ◌<◌, ◌≤◌, ◌^◌, List, [], ◌∷◌, ◌++◌, length, take, get_or, refl, sym, ◌∙◌, ap, subst, arith, Bool, true, false, cond, zero-add, length-take}
use Rattle.std.specs.Prelude.{◌||◌, ◌==◌}
use Rattle.std.specs.List.{All, AllByRecursion}
use Rattle.std.proofs.lemmas.Bool.Decides.{nat_tests}
use Rattle.std.proofs.lemmas.List.Elements.{All-head, All-tail}
use Rattle.std.proofs.lemmas.List.Sums.{sum_by-cons}
use Rattle.site_types.specs.Ranges.{IsRun}
use Rattle.site_types.specs.declared.file.Run.{Run}
use Rattle.cache_space.specs.Blocks.{is_in_run, is_in_runs, free_blocks, put_before, as_runs, lowest_runs}
use Rattle.cache_space.specs.Space.{taken_by, AreMaximalFrom, AreMaximal, AreThere, blocks_in}
use Rattle.cache_space.proofs.TakenBlocks.{taken_by_from}
use Rattle.cache_space.proofs.LowestRuns.{IsRunWithin, lowest_runs-within, AreMaximal-within}

-- a run for each block that is taken
abbrev held_from : ℕ → List Bool → List Run
held_from k [] = []
held_from k (true ∷ taken) = (record { first = k; count = 1 }) ∷ held_from (k + 1) taken
held_from k (false ∷ taken) = held_from (k + 1) taken

none_below : (k : ℕ) (taken : List Bool) (b : ℕ) → b < k → is_in_runs (held_from k taken) b ≡ false
none_below k [] b lt = refl
none_below k (true ∷ taken) b lt =
    let e : is_in_run b (record { first = k; count = 1 }) ≡ false = grind (arith, nat_tests) in
    ap (λ (x : Bool). x || is_in_runs (held_from (k + 1) taken) b) e ∙ none_below (k + 1) taken b (omega arith)
none_below k (false ∷ taken) b lt = none_below (k + 1) taken b (omega arith)

held_at : (k : ℕ) (taken : List Bool) (j : ℕ) → j < length taken → get_or taken j true ≡ is_in_runs (held_from k taken) (k + j)
held_at k [] j lt = absurd (omega arith)
held_at k (true ∷ taken) zero lt =
    let e : is_in_run (k + 0) (record { first = k; count = 1 }) ≡ true = grind (arith, nat_tests) in
    sym (ap (λ (x : Bool). x || is_in_runs (held_from (k + 1) taken) (k + 0)) e)
held_at k (true ∷ taken) (suc j) lt =
    let e : is_in_run (k + suc j) (record { first = k; count = 1 }) ≡ false = grind (arith, nat_tests) in
    let same : k + 1 + j ≡ k + suc j = omega arith in
    held_at (k + 1) taken j (omega (arith, lt)) ∙ ap (λ (n : ℕ). is_in_runs (held_from (k + 1) taken) n) same
    ∙ sym (ap (λ (x : Bool). x || is_in_runs (held_from (k + 1) taken) (k + suc j)) e)
held_at k (false ∷ taken) zero lt = sym (none_below (k + 1) taken (k + 0) (omega arith))
held_at k (false ∷ taken) (suc j) lt =
    let same : k + 1 + j ≡ k + suc j = omega arith in
    held_at (k + 1) taken j (omega (arith, lt)) ∙ ap (λ (n : ℕ). is_in_runs (held_from (k + 1) taken) n) same

-- some runs hold the blocks that are taken
pub held_by : (taken : List Bool) → taken ≡ taken_by (length taken) (held_from 0 taken)
held_by taken = taken_by_from taken (length taken) (held_from 0 taken) refl
    (λ b lt. held_at 0 taken b lt ∙ ap (λ (n : ℕ). is_in_runs (held_from 0 taken) n) (zero-add b))

-- the lowest free blocks are no more runs than blocks
length-put_before : (b : ℕ) (runs : List Run) → length (put_before b runs) ≤ length runs + 1
length-put_before b [] = omega arith
length-put_before b (run ∷ runs) = by_test (run.first == b + 1)
  where
    by_test : (t : Bool) → length (cond t ((record { first = b; count = run.count + 1 }) ∷ runs) ((record { first = b; count = 1 }) ∷ (run ∷ runs))) ≤ length (run ∷ runs) + 1
    by_test true = omega arith
    by_test false = omega arith

length-as_runs : (blocks : List ℕ) → length (as_runs blocks) ≤ length blocks
length-as_runs [] = omega arith
length-as_runs (b ∷ blocks) = omega (arith, length-put_before b (as_runs blocks), length-as_runs blocks)

pub lowest_runs-few : (total : ℕ) (held : List Run) (wanted : ℕ) → length (lowest_runs total held wanted) ≤ wanted
lowest_runs-few total held wanted = omega (arith, length-as_runs (take wanted (free_blocks total held)), length-take wanted (free_blocks total held))

-- maximal runs are no more than their blocks
maximal_from-few : (low : ℕ) (runs : List Run) → AreMaximalFrom low runs → length runs ≤ blocks_in runs
maximal_from-few low [] h = omega arith
maximal_from-few low (run ∷ runs) h = omega (arith, h.1, maximal_from-few (run.first + run.count + 1) runs h.2, sum_by-cons (λ (r : Run). r.count) run runs)

pub maximal-few : (runs : List Run) → AreMaximal runs → length runs ≤ blocks_in runs
maximal-few runs h = maximal_from-few 0 runs h

-- runs within a cache are numbers of four bytes
pub runs_small : (total : ℕ) (runs : List Run) → total < 2 ^ 32 → All (IsRunWithin total) runs → AllByRecursion IsRun runs
runs_small total [] small h = tt
runs_small total (run ∷ runs) small h =
    let within = All-head (IsRunWithin total) run runs h in
    ((omega (arith, within.0, within.1), omega (arith, within.0, within.1)), runs_small total runs small (All-tail (IsRunWithin total) run runs h))

pub maximal-small : (total : ℕ) (runs : List Run) → total < 2 ^ 32 → AreMaximal runs → AreThere total runs → AllByRecursion IsRun runs
maximal-small total runs small maximal there = runs_small total runs small (AreMaximal-within total runs maximal there)

-- what is known of the lowest runs of any cache
pub lowest_known : (taken : List Bool) (runs : List Run) (wanted : ℕ) → length taken < 2 ^ 32
    → ((total : ℕ) (held : List Run) → taken ≡ taken_by total held → runs ≡ lowest_runs total (held ++ []) wanted)
    → (length runs ≤ wanted) × AllByRecursion IsRun runs
lowest_known taken runs wanted small lowest =
    let e = lowest (length taken) (held_from 0 taken) (held_by taken) in (
      omega (arith, ap length e, lowest_runs-few (length taken) (held_from 0 taken ++ []) wanted),
      subst (λ (l : List Run). AllByRecursion IsRun l) (sym e)
          (runs_small (length taken) (lowest_runs (length taken) (held_from 0 taken ++ []) wanted) small (lowest_runs-within (length taken) (held_from 0 taken ++ []) wanted)),
    )
