-- Three of the images that a crash may leave of a store in memory.
-- `start` is what the store began with, and the newest call stands first.
use Rattle.std.specs.Prelude.{ℕ, ◌-◌, Bool, ◌==◌, if◌then◌else◌, List, [], ◌∷◌, slice_index}
use Rattle.bank.specs.Content.{Image}
use Rattle.bank.specs.declared.call.Call.{Call}
use Rattle.bank.specs.Past.{is_sync_of, covers, content_of}

-- without each write that was not synced
abbrev pub dropped : Image → List Call → Image
dropped start [] a k = start a k
dropped start (call ∷ past) a k = if is_sync_of call a then content_of start past a k else dropped start past a k

-- with a byte of its own all over the range of each write that was not synced
abbrev pub filled : ℕ → Image → List Call → Image
filled byte start [] a k = start a k
filled byte start (call ∷ past) a k =
    if is_sync_of call a then content_of start past a k else if covers call a k then byte else filled byte start past a k

-- the one or the other, or with all that was written
abbrev pub chosen : (drops keeps : Bool) → ℕ → Image → List Call → Image
chosen drops keeps byte start past a k =
    if drops then dropped start past a k else if keeps then content_of start past a k else filled byte start past a k

-- 0 drops what was not synced, 1 keeps it, any other fills it with 0xA5
abbrev pub picked : ℕ → Image → List Call → Image
picked pick start past = chosen (pick == 0) (pick == 1) 165 start past

-- what one write leaves of a byte that was `was`
abbrev pub left_of : Call → (synced drops keeps : Bool) → ℕ → ℕ → ℕ → ℕ → ℕ
left_of call synced drops keeps byte a k was =
    if covers call a k
    then (if synced then slice_index call.bytes (k - call.place) else if drops then was else if keeps then slice_index call.bytes (k - call.place) else byte)
    else was
