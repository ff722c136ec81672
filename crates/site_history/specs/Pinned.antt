-- What is known of a store that tells its content, where each image that a crash may leave reads as one history.
use Rattle.std.specs.Prelude.{◌≡◌, ◌≢◌, ◌⊎◌, ℕ, ◌+◌, ◌/◌, ◌<◌, Bool, false, List, [], ◌∷◌, length}
use Rattle.bank.specs.Content.{Content, Stands}
use Rattle.bank.specs.View.{View}
use Rattle.journal.specs.Records.{AllHold}
use Rattle.site_types.specs.declared.file.Run.{Run}
use Rattle.cache_space.specs.Blocks.{is_in_runs}
use Rattle.site_history.specs.Terms.{Terms}
use Rattle.site_history.specs.Steps.{HistoryStep}
use Rattle.site_history.specs.Histories.{after, written_forms}
use Rattle.site_history.specs.Images.{extents}
use Rattle.site_history.specs.Extents.{Extent}

-- each extent stands in whatever a crash leaves of its area
abbrev pub StandInAll : View → List Extent → Type 0
StandInAll v [] = Unit {0}
StandInAll v (e ∷ es) = ((c : Content) → v.may_leave e.area c → Stands c e.place e.bytes) × StandInAll v es

-- whatever a crash leaves, the journal holds the history's records, and the bytes of each file stand at its runs
pub record IsPinned (terms : Terms) (v : View) (steps : List HistoryStep) : Type 0 where
  pub records : AllHold v (written_forms steps) terms.size
  pub bytes : StandInAll v (extents (after terms steps))

-- no byte of the extent is among the chosen bytes of the area
abbrev pub IsClear : ℕ → (ℕ → Bool) → Extent → Type 0
IsClear area inside e = (e.area ≢ area) ⊎ ((k : ℕ) → k < length e.bytes → inside (e.place + k) ≡ false)

-- nor one of any of the extents
abbrev pub IsClearOf : ℕ → (ℕ → Bool) → List Extent → Type 0
IsClearOf area inside [] = Unit {0}
IsClearOf area inside (e ∷ es) = IsClear area inside e × IsClearOf area inside es

-- the bytes of the cache that lie in blocks of these runs
abbrev pub in_blocks_of : List Run → ℕ → Bool
in_blocks_of runs k = is_in_runs runs (k / 4096)
