-- Blocks by a flag for each, which tells whether it is taken.
use Rattle.std.specs.Prelude.{◌≡◌, ℕ, ◌+◌, ◌<◌, Bool, true, not, ◌||◌, ◌&&◌, List, length, filter, slice_index_or, ◌/◌, ◌^◌, IsTrue, IsFalse, false, count_by}
use Rattle.std.specs.List.{range_with_len}
use Rattle.site_types.specs.declared.file.Run.{Run}
use Rattle.cache_space.specs.Blocks.{is_in_runs}

-- a block that is there, is not taken and is in none of the runs
abbrev pub is_open : List Bool → List Run → ℕ → Bool
is_open taken but block = not (slice_index_or taken block true || is_in_runs but block)

-- those of so many blocks from one on
abbrev pub open_blocks : List Bool → List Run → ℕ → ℕ → List ℕ
open_blocks taken but from count = filter (is_open taken but) (range_with_len from count)

-- the chosen blocks are taken too, and all others are as they were
pub record Takes (old new : List Bool) (is_chosen : ℕ → Bool) : Type 0 where
  pub len : length new ≡ length old
  pub each : (block : ℕ) → block < length old → slice_index_or new block true ≡ (slice_index_or old block true || is_chosen block)

-- the chosen blocks are free, and all others are as they were
pub record Frees (old new : List Bool) (is_chosen : ℕ → Bool) : Type 0 where
  pub len : length new ≡ length old
  pub each : (block : ℕ) → block < length old → slice_index_or new block true ≡ (slice_index_or old block true && not (is_chosen block))

-- each block of a group of 4,096 that is marked full is taken
abbrev pub FullAreTaken : List Bool → List Bool → Type 0
FullAreTaken full taken = (block : ℕ) → block < length taken → IsTrue (slice_index_or full (block / 4096) false) → IsTrue (slice_index_or taken block true)

-- groups that the chosen blocks are of are not marked, and no group is marked anew
pub record AreCleared (old new : List Bool) (is_chosen : ℕ → Bool) : Type 0 where
  pub len : length new ≡ length old
  pub others : (group : ℕ) → IsTrue (slice_index_or new group false) → IsTrue (slice_index_or old group false)
  pub cleared : (block : ℕ) → IsTrue (is_chosen block) → IsFalse (slice_index_or new (block / 4096) false)

-- the flags, the groups' marks and the count of free blocks say the same
pub record AreInStep (taken full : List Bool) (free : ℕ) : Type 0 where
  pub small : length taken < 2 ^ 32
  pub count : free ≡ count_by not taken
  pub groups : length full ≡ (length taken + 4095) / 4096
  pub marks : FullAreTaken full taken
