-- The cache as the runs that are held say it.
use Rattle.std.specs.Prelude.{ℕ, ◌+◌, ◌<◌, ◌≤◌, Bool, IsTrue, IsFalse, List, [], ◌∷◌, map, sum_by}
use Rattle.std.specs.List.{range_with_len}
use Rattle.site_types.specs.declared.file.Run.{Run}
use Rattle.cache_space.specs.Blocks.{is_in_runs}

-- of so many blocks, for each from 0 on, whether one of the runs has it
abbrev pub taken_by : ℕ → List Run → List Bool
taken_by total held = map (is_in_runs held) (range_with_len 0 total)

-- each block of the runs is there
abbrev pub AreThere : ℕ → List Run → Type 0
AreThere total runs = (block : ℕ) → IsTrue (is_in_runs runs block) → block < total

-- no block is in runs of both
abbrev pub AreApart : List Run → List Run → Type 0
AreApart runs others = (block : ℕ) → IsTrue (is_in_runs runs block) → IsFalse (is_in_runs others block)

-- each block of the runs is there, and none of the held runs has it
abbrev pub AreFree : ℕ → List Run → List Run → Type 0
AreFree total held runs = AreThere total runs × AreApart runs held

-- how many blocks the runs have, one after another
abbrev pub blocks_in : List Run → ℕ
blocks_in runs = sum_by (λ run. run.count) runs

-- no block is in two of the runs
abbrev pub AreDisjoint : List Run → Type 0
AreDisjoint [] = Unit {0}
AreDisjoint (run ∷ runs) = AreApart (run ∷ []) runs × AreDisjoint runs

-- runs from a block on that have a block each, ascend, and leave a block between one and the next, so that none can be joined
abbrev pub AreMaximalFrom : ℕ → List Run → Type 0
AreMaximalFrom low [] = Unit {0}
AreMaximalFrom low (run ∷ runs) = (low ≤ run.first) × (0 < run.count) × AreMaximalFrom (run.first + run.count + 1) runs

abbrev pub AreMaximal : List Run → Type 0
AreMaximal runs = AreMaximalFrom 0 runs
