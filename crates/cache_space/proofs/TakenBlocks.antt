-- Flags after runs are taken and freed.
use Rattle.std.proofs.Common.{◌≡◌, ℕ, ◌+◌, ◌-◌, ◌<◌, ◌≤◌, Bool, true, false, not, ◌||◌, ◌&&◌, List, [], ◌++◌, length, get_or, count_by, refl, sym, ◌∙◌, ap, arith, ⊎_elim, cond, replicate}
use Rattle.std.specs.List.{range_with_len}
use Rattle.std.proofs.lemmas.Bool.{cases_lt, both_ways}
use Rattle.std.proofs.lemmas.List.{length-replicate, get_or-replicate, get_or_past}
use Rattle.std.proofs.lemmas.List.Sums.{length-filter}
use Rattle.std.proofs.lemmas.List.Folds.{fold-map}
use Rattle.std.proofs.lemmas.List.FromFn.{length-map-range_with_len, get_or-map-range_with_len, fill_by_all}
use Rattle.site_types.specs.declared.file.Run.{Run}
use Rattle.cache_space.specs.Blocks.{is_in_run, is_in_runs, free_blocks}
use Rattle.cache_space.specs.Flags.{Takes, Frees}
use Rattle.cache_space.specs.Space.{taken_by, AreApart, AreFree}
use Rattle.cache_space.proofs.RunLemmas.{is_in_runs-append, is_in_run_tells}

-- the first blocks of a run
abbrev pub first_of : Run → ℕ → Run
first_of run k = record { first = run.first; count = k }

-- by what is held
pub length-taken_by : (total : ℕ) (held : List Run) → length (taken_by total held) ≡ total
length-taken_by total held = length-map-range_with_len (is_in_runs held) 0 total

pub get_or-taken_by : (total : ℕ) (held : List Run) (block : ℕ) (d : Bool) → block < total → get_or (taken_by total held) block d ≡ is_in_runs held block
get_or-taken_by total held block d lt = get_or-map-range_with_len (is_in_runs held) 0 total block block d lt (omega arith)

pub taken_by_from : (flags : List Bool) (total : ℕ) (held : List Run) → length flags ≡ total
    → ((block : ℕ) → block < total → get_or flags block true ≡ is_in_runs held block) → flags ≡ taken_by total held
taken_by_from flags total held len each = fill_by_all (is_in_runs held) flags total true len each

pub Takes-taken_by : (old new : List Bool) (total : ℕ) (held runs : List Run) → Takes old new (is_in_runs runs) → old ≡ taken_by total held → new ≡ taken_by total (held ++ runs)
Takes-taken_by old new total held runs takes is =
    let old_len : length old ≡ total = ap length is ∙ length-taken_by total held in
    taken_by_from new total (held ++ runs) (takes.len ∙ old_len) (λ block lt.
    takes.each block (omega (arith, old_len, lt))
    ∙ ap (λ b. b || is_in_runs runs block) (ap (λ f. get_or f block true) is ∙ get_or-taken_by total held block true lt)
    ∙ sym (is_in_runs-append held runs block))

kept_alone : (kept freed : Bool) → (kept ≡ true → freed ≡ false) → ((kept || freed) && not freed) ≡ kept
kept_alone true freed apart = rw (apart refl)
kept_alone false true apart = refl
kept_alone false false apart = refl

pub Frees-taken_by : (old new : List Bool) (total : ℕ) (kept runs : List Run) → Frees old new (is_in_runs runs) → AreApart kept runs → old ≡ taken_by total (kept ++ runs) → new ≡ taken_by total kept
Frees-taken_by old new total kept runs frees apart is =
    let old_len : length old ≡ total = ap length is ∙ length-taken_by total (kept ++ runs) in
    taken_by_from new total kept (frees.len ∙ old_len) (λ block lt.
    frees.each block (omega (arith, old_len, lt))
    ∙ ap (λ b. b && not (is_in_runs runs block)) (ap (λ f. get_or f block true) is ∙ get_or-taken_by total (kept ++ runs) block true lt ∙ is_in_runs-append kept runs block)
    ∙ kept_alone (is_in_runs kept block) (is_in_runs runs block) (apart block))

-- a run whose blocks are free one by one
pub free_run_each : (flags : List Bool) (run : Run) (n : ℕ) → run.count ≤ n → ((k : ℕ) → k < n → get_or flags (run.first + k) true ≡ false)
    → (block : ℕ) → is_in_run block run ≡ true → get_or flags block true ≡ false
free_run_each flags run n le each block h =
    let in_run = is_in_run_tells run block h in
    let e : run.first + (block - run.first) ≡ block = omega (arith, in_run.0) in
    ap (λ b. get_or flags b true) (sym e) ∙ each (block - run.first) (omega (arith, in_run.0, in_run.1, le))

-- how many are free by what is held
pub count_by-taken_by : (total : ℕ) (held : List Run) → count_by not (taken_by total held) ≡ length (free_blocks total held)
count_by-taken_by total held =
    fold-map (λ n (b : Bool). n + cond (not b) 1 0) (is_in_runs held) 0 (range_with_len 0 total)
    ∙ sym (length-filter (λ block. not (is_in_runs held block)) (range_with_len 0 total))

-- no block is taken yet
pub taken_by-nothing : (flags : List Bool) (total : ℕ) → flags ≡ replicate total false → flags ≡ taken_by total []
taken_by-nothing flags total is = taken_by_from flags total [] (ap length is ∙ length-replicate total false) (λ block lt.
    ap (λ f. get_or f block true) is ∙ get_or-replicate total block false true lt)

-- a flag that reads as free, by what is held
pub free_by : (total : ℕ) (held : List Run) (block : ℕ) → get_or (taken_by total held) block true ≡ false → (block < total) × (is_in_runs held block ≡ false)
free_by total held block h = ⊎_elim
    (λ (lt : block < total). (lt, sym (get_or-taken_by total held block true lt) ∙ h))
    (λ (le : total ≤ block). absurd (both_ways (get_or (taken_by total held) block true) h
    (get_or_past (taken_by total held) block true (omega (arith, le, length-taken_by total held)))))
    (cases_lt block total)

-- all blocks of the runs are free
pub AreFree-from_flags : (flags : List Bool) (total : ℕ) (held runs : List Run) → flags ≡ taken_by total held
    → ((block : ℕ) → is_in_runs runs block ≡ true → get_or flags block true ≡ false) → AreFree total held runs
AreFree-from_flags flags total held runs is each = (
  λ block h. (free_by total held block (ap (λ f. get_or f block true) (sym is) ∙ each block h)).0,
  λ block h. (free_by total held block (ap (λ f. get_or f block true) (sym is) ∙ each block h)).1,
)

pub flags_from_AreFree : (flags : List Bool) (total : ℕ) (held runs : List Run) → flags ≡ taken_by total held → AreFree total held runs
    → (block : ℕ) → is_in_runs runs block ≡ true → get_or flags block true ≡ false
flags_from_AreFree flags total held runs is free block h =
    ap (λ f. get_or f block true) is ∙ get_or-taken_by total held block true (free.0 block h) ∙ free.1 block h
