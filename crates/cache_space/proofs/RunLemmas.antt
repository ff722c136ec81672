-- Runs made of blocks, and the blocks that runs have.
use Rattle.std.proofs.Common.{◌≡◌, ◌≢◌, ℕ, ◌+◌, ◌<◌, ◌≤◌, true, false, cond, eqb, ◌||◌, List, [], ◌∷◌, ◌++◌, length, get_or, set, refl, sym, ◌∙◌, ap, arith, suc, zero}
use Rattle.std.proofs.lemmas.Bool.Decides.{nat_tests}
use Rattle.std.proofs.lemmas.List.{get_or_read}
use Rattle.std.proofs.lemmas.List.Folds.{list_any-append}
use Rattle.site_types.specs.declared.file.Run.{Run}
use Rattle.cache_space.specs.Blocks.{is_in_run, is_in_runs, put_before, as_runs}

-- a block put behind runs: it joins the last one where that ends right before it
abbrev pub put_behind : List Run → ℕ → List Run
put_behind [] block = (record { first = block; count = 1 }) ∷ []
put_behind (run ∷ []) block = cond (eqb (run.first + run.count) block)
    ((record { first = run.first; count = run.count + 1 }) ∷ [])
    (run ∷ (record { first = block; count = 1 }) ∷ [])
put_behind (run ∷ (next ∷ runs)) block = run ∷ put_behind (next ∷ runs) block

before_behind_none : (x b : ℕ) → put_behind (put_before x []) b ≡ put_before x (put_behind [] b)
before_behind_none x b = grind (arith, nat_tests)

before_behind_one : (x b : ℕ) (run : Run) → put_behind (put_before x (run ∷ [])) b ≡ put_before x (put_behind (run ∷ []) b)
before_behind_one x b run = grind (arith, nat_tests)

before_behind_more : (x b : ℕ) (run next : Run) (runs : List Run) → put_behind (put_before x (run ∷ (next ∷ runs))) b ≡ put_before x (put_behind (run ∷ (next ∷ runs)) b)
before_behind_more x b run next runs = grind (arith, nat_tests)

put_behind-put_before : (x b : ℕ) (runs : List Run) → put_behind (put_before x runs) b ≡ put_before x (put_behind runs b)
put_behind-put_before x b [] = before_behind_none x b
put_behind-put_before x b (run ∷ []) = before_behind_one x b run
put_behind-put_before x b (run ∷ (next ∷ runs)) = before_behind_more x b run next runs

pub as_runs_push : (blocks : List ℕ) (b : ℕ) → as_runs (blocks ++ b ∷ []) ≡ put_behind (as_runs blocks) b
as_runs_push [] b = refl
as_runs_push (x ∷ xs) b = ap (put_before x) (as_runs_push xs b) ∙ sym (put_behind-put_before x b (as_runs xs))

-- by the last run's place
pub put_behind_joins : (runs : List Run) (n : ℕ) (d : Run) (b : ℕ) → length runs ≡ n + 1 → (get_or runs n d).first + (get_or runs n d).count ≡ b
    → put_behind runs b ≡ set runs n (record { first = (get_or runs n d).first; count = (get_or runs n d).count + 1 })
put_behind_joins [] n d b len end = absurd (omega arith)
put_behind_joins (run ∷ []) n d b len end = grind (arith, nat_tests)
put_behind_joins (run ∷ (next ∷ runs)) zero d b len end = absurd (omega arith)
put_behind_joins (run ∷ (next ∷ runs)) (suc n) d b len end = ap (λ rest. run ∷ rest) (put_behind_joins (next ∷ runs) n d b (omega arith) end)

pub put_behind_adds : (runs : List Run) (n : ℕ) (d : Run) (b : ℕ) → length runs ≡ n + 1 → (get_or runs n d).first + (get_or runs n d).count ≢ b
    → put_behind runs b ≡ runs ++ (record { first = b; count = 1 }) ∷ []
put_behind_adds [] n d b len end = absurd (omega arith)
put_behind_adds (run ∷ []) n d b len end = grind (arith, nat_tests)
put_behind_adds (run ∷ (next ∷ runs)) zero d b len end = absurd (omega arith)
put_behind_adds (run ∷ (next ∷ runs)) (suc n) d b len end = ap (λ rest. run ∷ rest) (put_behind_adds (next ∷ runs) n d b (omega arith) end)

-- the blocks of joined runs
pub is_in_runs-append : (xs ys : List Run) (block : ℕ) → is_in_runs (xs ++ ys) block ≡ (is_in_runs xs block || is_in_runs ys block)
is_in_runs-append xs ys block = list_any-append (is_in_run block) xs ys

-- a run one block longer
pub is_in_run_more : (first count block : ℕ) → is_in_run block (record { first = first; count = count + 1 }) ≡ (is_in_run block (record { first = first; count = count }) || eqb block (first + count))
is_in_run_more first count block = grind (arith, nat_tests)

pub is_in_run_none : (first block : ℕ) → is_in_run block (record { first = first; count = 0 }) ≡ false
is_in_run_none first block = grind (arith, nat_tests)

pub is_in_run_at : (run : Run) (k : ℕ) → k < run.count → is_in_run (run.first + k) run ≡ true
is_in_run_at run k lt = grind (arith, nat_tests)

-- what it tells
pub is_in_run_tells : (run : Run) (block : ℕ) → is_in_run block run ≡ true → (run.first ≤ block) × (block < run.first + run.count)
is_in_run_tells run block h = grind (arith, nat_tests)

pub is_in_run_from : (run : Run) (block : ℕ) → run.first ≤ block → block < run.first + run.count → is_in_run block run ≡ true
is_in_run_from run block low high = grind (arith, nat_tests)

-- the last run is one block longer, or a run of one block follows
pub added_joins : (runs : List Run) (n : ℕ) (read last : Run) (b : ℕ) (blocks : List ℕ) → runs ≡ as_runs blocks → length runs ≡ n + 1
    → read ≡ get_or runs n read → last ≡ get_or runs n last → read.first + read.count ≡ b
    → set runs n (record { first = last.first; count = last.count + 1 }) ≡ as_runs (blocks ++ b ∷ [])
added_joins runs n read last b blocks is len at at_last end =
    let there : n < length runs = omega (arith, len) in
    let same : last ≡ get_or runs n read = get_or_read runs n last there at_last read in
    let ends : (get_or runs n read).first + (get_or runs n read).count ≡ b = ap (λ (run : Run). run.first + run.count) (sym at) ∙ end in
    ap (λ (run : Run). set runs n (record { first = run.first; count = run.count + 1 })) same
    ∙ sym (put_behind_joins runs n read b len ends) ∙ ap (λ xs. put_behind xs b) is ∙ sym (as_runs_push blocks b)

pub added_follows : (runs : List Run) (n : ℕ) (read : Run) (b : ℕ) (blocks : List ℕ) → runs ≡ as_runs blocks → length runs ≡ n + 1
    → read ≡ get_or runs n read → read.first + read.count ≢ b → runs ++ (record { first = b; count = 1 }) ∷ [] ≡ as_runs (blocks ++ b ∷ [])
added_follows runs n read b blocks is len at end =
    sym (put_behind_adds runs n read b len (λ e. end (ap (λ (run : Run). run.first + run.count) at ∙ e)))
    ∙ ap (λ xs. put_behind xs b) is ∙ sym (as_runs_push blocks b)

pub added_first : (runs : List Run) (b : ℕ) (blocks : List ℕ) → runs ≡ as_runs blocks → length runs ≡ 0 → runs ++ (record { first = b; count = 1 }) ∷ [] ≡ as_runs (blocks ++ b ∷ [])
added_first [] b blocks is none = ap (λ xs. put_behind xs b) is ∙ sym (as_runs_push blocks b)
added_first (run ∷ runs) b blocks is none = absurd (omega arith)
