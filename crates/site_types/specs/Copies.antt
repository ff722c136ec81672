-- The places for the copies of a file.
use Rattle.std.specs.Prelude.{ℕ, ◌==◌, if◌then◌else◌}
use Rattle.site_types.specs.declared.file.CopySlot.{CopySlot}
use Rattle.site_types.specs.declared.file.CopySlot.TheVariants.{Empty}
use Rattle.site_types.specs.declared.file.CopySlots.{CopySlots}

abbrev pub no_copies : CopySlots
no_copies = record { first = Empty; second = Empty; third = Empty; fourth = Empty }

-- the place of copy 1, 2, 3 or 4
abbrev pub slot_of : CopySlots → ℕ → CopySlot
slot_of slots copy = if copy == 1 then slots.first else if copy == 2 then slots.second else if copy == 3 then slots.third else slots.fourth

-- the same with another copy in one place
abbrev pub with_slot : CopySlots → ℕ → CopySlot → CopySlots
with_slot slots copy slot =
    if copy == 1 then record slots { first = slot } else if copy == 2 then record slots { second = slot } else
    if copy == 3 then record slots { third = slot } else record slots { fourth = slot }
