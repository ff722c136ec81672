-- What a sink takes, and what stands beside a source or a sink.
use Rattle.std.specs.Prelude.{◌≡◌, ◌≢◌, ◌⊎◌, ◌≤◌, ◌<◌, ℕ, List, [], ◌++◌, length, Result, MatchResult, Option, IfOk}
use Rattle.std.specs.Io.KnownBytes.{Appends}
use Rattle.base.specs.Causes.{Rose}

-- what an object tells of its other side: the bytes there, and how many calls there have failed
pub record Beside : Type 0 where
  pub bytes : Option (List ℕ)
  pub faults : ℕ

-- a write took some bytes, and none only of an empty piece
abbrev pub TakesSome : {E : Type 0} → Result ℕ E → List ℕ → Type 0
TakesSome r piece = IfOk r (λ n. (n ≤ length piece) × (0 < length piece → 0 < n))

-- a first part of the bytes was written, and not all of them
abbrev pub IsCut : Option (List ℕ) → Option (List ℕ) → List ℕ → Type 0
IsCut old new bytes = (front : List ℕ) × (lost : List ℕ) × (bytes ≡ front ++ lost) × (lost ≢ []) × Appends old new front

-- all of the bytes were written, or at a fault a first part of them alone
abbrev pub WritesAll : {T E : Type 0} → Option (List ℕ) → Option (List ℕ) → Result T E → List ℕ → Type 0
WritesAll old new r bytes = MatchResult r (λ _. Appends old new bytes) (λ _. IsCut old new bytes)

-- all of the bytes were written, or a first part of them alone, and then the sink's count rose
abbrev pub IsWritten : Option (List ℕ) → Option (List ℕ) → ℕ → ℕ → List ℕ → Type 0
IsWritten old new faults faults' bytes = Appends old new bytes ⊎ (IsCut old new bytes × Rose faults faults')
