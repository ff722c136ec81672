-- A journal: records from a place on, each of a gate, a length and a payload.
use Rattle.std.specs.Prelude.{◌≡◌, ◌≢◌, ◌⊎◌, ℕ, ◌+◌, ◌^◌, ◌<◌, ◌≤◌, List, [], ◌∷◌, ◌++◌, length}
use Rattle.std.specs.Int.{w32, to_le_bytes}
use Rattle.base.specs.declared.limits.TheConstants.{PAYLOAD_MAX}
use Rattle.bank.specs.Content.{Content, Image, Stands}
use Rattle.bank.specs.View.{View}

-- a payload has 1 to 1,048,576 bytes
abbrev pub IsPayload : List ℕ → Type 0
IsPayload payload = (0 < length payload) × (length payload ≤ PAYLOAD_MAX)

-- what stands behind the gate: the length in four bytes, the least first, and the payload
unfoldable pub frame : List ℕ → List ℕ
frame payload = to_le_bytes w32 (length payload) ++ payload

-- at a place stands a record of this payload, with its gate open, and it ends within the area
pub record IsRecord (c : Content) (place : ℕ) (payload : List ℕ) (size : ℕ) : Type 0 where
  pub gate : c place ≡ 1
  pub framed : Stands c (place + 1) (frame payload)
  pub bounded : IsPayload payload
  pub within : place + 5 + length payload ≤ size

-- from a place on stand records of these payloads, one behind the other
abbrev pub AreRecords : Content → ℕ → List (List ℕ) → ℕ → Type 0
AreRecords c place [] size = Unit {0}
AreRecords c place (payload ∷ payloads) size = IsRecord c place payload size × AreRecords c (place + 5 + length payload) payloads size

-- where the next record goes
abbrev pub end_of : ℕ → List (List ℕ) → ℕ
end_of place [] = place
end_of place (payload ∷ payloads) = end_of (place + 5 + length payload) payloads

-- the journal ends at a closed gate, or where the area ends
abbrev pub IsEnd : Content → ℕ → ℕ → Type 0
IsEnd c place size = (c place ≢ 1) ⊎ (size ≤ place)

-- from a place on stand records of these payloads, and there the journal ends
pub record HoldsRecords (c : Content) (place : ℕ) (payloads : List (List ℕ)) (size : ℕ) : Type 0 where
  pub records : AreRecords c place payloads size
  pub shut : IsEnd c (end_of place payloads) size

-- a length that no record at this place has: 0, over 1,048,576, or past the area
abbrev pub IsBadLength : ℕ → ℕ → ℕ → Type 0
IsBadLength place size n = (n ≡ 0) ⊎ (PAYLOAD_MAX < n) ⊎ (size < place + 5 + n)

-- behind records of these payloads, at this place in the area, an open gate has a length that no record there has
pub record IsBadAt (c : Content) (place size : ℕ) (payloads : List (List ℕ)) : Type 0 where
  pub before : AreRecords c 0 payloads size
  pub behind : place ≡ end_of 0 payloads
  pub inside : place < size
  pub gate : c place ≡ 1
  pub bad : (n : ℕ) × (n < 2 ^ 32) × Stands c (place + 1) (to_le_bytes w32 n) × IsBadLength place size n

-- whatever a crash leaves of the journal's area, it holds these records
pub record AllHold (v : View) (payloads : List (List ℕ)) (size : ℕ) : Type 0 where
  pub each : (c : Content) → v.may_leave 0 c → HoldsRecords c 0 payloads size

-- an image holds these records, with one more behind them or without it; each other area is as v may leave it
pub record IsBeforeOrAfter (v : View) (payloads : List (List ℕ)) (payload : List ℕ) (size : ℕ) (c : Image) : Type 0 where
  pub records : HoldsRecords (c 0) 0 payloads size ⊎ HoldsRecords (c 0) 0 (payloads ++ payload ∷ []) size
  pub others : (a : ℕ) → a ≢ 0 → v.may_leave a (c a)
