-- Several faults at one field: the one with the lowest number is told.
use Rattle.std.specs.Prelude.{ℕ, ◌≤◌}
use Rattle.site_text.specs.declared.fault.ConfFault.{ConfFault}
use Rattle.site_text.specs.declared.fault.ConfFault.TheVariants.{UnknownDirective, MissingField, ExtraField, BadValue, CopyBeforeSet, CopyTwice, UnknownSet, UnknownPool, SectionNotClosed, TooMany, Conflict, Duplicate, OutOfRange, NotText}

-- the number of a fault
abbrev pub fault_number : ConfFault → ℕ
fault_number UnknownDirective = 1
fault_number MissingField = 2
fault_number ExtraField = 3
fault_number BadValue = 4
fault_number CopyBeforeSet = 5
fault_number CopyTwice = 6
fault_number UnknownSet = 7
fault_number UnknownPool = 8
fault_number SectionNotClosed = 9
fault_number TooMany = 10
fault_number Conflict = 11
fault_number Duplicate = 12
fault_number OutOfRange = 13
fault_number NotText = 14

-- The field has this fault, and none of a lower number.
pub record LowestFault (HasFault : ConfFault → Type 0) (fault : ConfFault) : Type 0 where
  pub there : HasFault fault
  pub lowest : (other : ConfFault) → HasFault other → fault_number fault ≤ fault_number other

-- the field has none
abbrev pub Faultless : (ConfFault → Type 0) → Type 0
Faultless HasFault = (fault : ConfFault) → ¬ HasFault fault
