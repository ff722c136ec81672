-- Blocks of the cache, and which of them are free.
use Rattle.std.specs.Prelude.{ℕ, ◌+◌, ◌/◌, ◌==◌, ◌&&◌, nat_le, nat_lt, Bool, not, if◌then◌else◌, List, [], ◌∷◌, filter, take}
use Rattle.std.specs.List.{list_any, range_with_len}
use Rattle.site_types.specs.declared.file.Run.{Run}

-- how many blocks of 4,096 bytes so many bytes need
abbrev pub blocks_for : ℕ → ℕ
blocks_for bytes = (bytes + 4095) / 4096

-- the run has the block
abbrev pub is_in_run : ℕ → Run → Bool
is_in_run block run = nat_le run.first block && nat_lt block (run.first + run.count)

-- one of the runs has it
abbrev pub is_in_runs : List Run → ℕ → Bool
is_in_runs runs block = list_any (is_in_run block) runs

-- of so many blocks, those that none of the runs has, in order
abbrev pub free_blocks : ℕ → List Run → List ℕ
free_blocks total held = filter (λ block. not (is_in_runs held block)) (range_with_len 0 total)

-- a block put before runs: it joins the first one where that begins right behind it
abbrev pub put_before : ℕ → List Run → List Run
put_before block [] = (record { first = block; count = 1 }) ∷ []
put_before block (run ∷ runs) = if run.first == block + 1
    then (record { first = block; count = run.count + 1 }) ∷ runs
    else (record { first = block; count = 1 }) ∷ (run ∷ runs)

-- ascending blocks as maximal runs
abbrev pub as_runs : List ℕ → List Run
as_runs [] = []
as_runs (block ∷ blocks) = put_before block (as_runs blocks)

-- the lowest free blocks, as maximal runs
abbrev pub lowest_runs : ℕ → List Run → ℕ → List Run
lowest_runs total held wanted = as_runs (take wanted (free_blocks total held))
