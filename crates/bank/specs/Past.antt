-- What calls make of a store in memory, and what a crash may leave then.
-- `start` is what the store began with, and the newest call stands first.
use Rattle.std.specs.Prelude.{◌⊎◌, ℕ, ◌+◌, ◌-◌, ◌≤◌, Bool, true, false, ◌&&◌, nat_lt, nat_le, ◌==◌, if◌then◌else◌, List, [], ◌∷◌, length, slice_index}
use Rattle.bank.specs.Content.{Content, Image, Same, SameOutside}
use Rattle.bank.specs.View.{View}
use Rattle.bank.specs.declared.call.Call.{Call}
use Rattle.bank.specs.declared.call.BankCall.{BankCall}
use Rattle.bank.specs.declared.call.BankCall.TheVariants.{Read, Write, Sync}

abbrev pub is_write : BankCall → Bool
is_write Read = false
is_write Write = true
is_write Sync = false

abbrev pub is_sync : BankCall → Bool
is_sync Read = false
is_sync Write = false
is_sync Sync = true

-- the call was done, and wrote in this area
abbrev pub is_write_of : Call → ℕ → Bool
is_write_of call a = call.done && is_write call.kind && (call.area == a)

-- the call was done, and brought this area to the medium
abbrev pub is_sync_of : Call → ℕ → Bool
is_sync_of call a = call.done && is_sync call.kind && (call.area == a)

-- it wrote this byte
abbrev pub covers : Call → ℕ → ℕ → Bool
covers call a k = is_write_of call a && nat_le call.place k && nat_lt k (call.place + length call.bytes)

-- what a read gives
abbrev pub content_of : Image → List Call → Image
content_of start [] a k = start a k
content_of start (call ∷ past) a k = if covers call a k then slice_index call.bytes (k - call.place) else content_of start past a k

-- what a crash may leave of an area after one call more: `writes` and `syncs` say what the call did to it
abbrev pub LeftAfter : (writes syncs : Bool) → ℕ → ℕ → Content → (Content → Type 0) → Content → Type 0
LeftAfter true syncs p n content Before c = (d : Content) × Before d × SameOutside p n d c
LeftAfter false true p n content Before c = Same content c
LeftAfter false false p n content Before c = Before c

abbrev pub Leaves : Image → List Call → ℕ → Content → Type 0
Leaves start [] a c = Same (start a) c
Leaves start (call ∷ past) a c =
    LeftAfter (is_write_of call a) (is_sync_of call a) call.place (length call.bytes) (content_of start past a) (λ d. Leaves start past a d) c

abbrev pub IsImageAt : Image → List Call → Image → Type 0
IsImageAt start past c = (a : ℕ) → Leaves start past a (c a)

-- an image at some instant from t on; the instant is the number of the calls
abbrev pub LeftSince : Image → List Call → ℕ → Image → Type 0
LeftSince start [] t c = (t ≤ 0) × IsImageAt start [] c
LeftSince start (call ∷ past) t c = ((t ≤ length (call ∷ past)) × IsImageAt start (call ∷ past) c) ⊎ LeftSince start past t c

abbrev pub view_of : Image → List Call → View
view_of start past = record {
  content = content_of start past;
  may_leave = Leaves start past;
  instant = length past;
  left_since = LeftSince start past;
}
