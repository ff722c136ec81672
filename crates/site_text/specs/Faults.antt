-- Faults of lines: how they are told, and where.
use Rattle.std.specs.Prelude.{ℕ, List, codes}
use Rattle.site_text.specs.declared.fault.ConfFault.{ConfFault}
use Rattle.site_text.specs.declared.fault.ConfFault.TheVariants.{UnknownDirective, MissingField, ExtraField, BadValue, CopyBeforeSet, CopyTwice, UnknownSet, UnknownPool, SectionNotClosed, TooMany, Conflict, Duplicate, OutOfRange, NotText}
use Rattle.site_text.specs.declared.fault.ConfError.{ConfError}
use Rattle.site_text.specs.declared.fault.ConfError.TheVariants as errors
use Rattle.site_text.specs.declared.fault.LineError.{LineError}
use Rattle.site_text.specs.declared.fault.LineError.TheVariants.{Fault, NoMemory}

abbrev pub fault_text : ConfFault → List ℕ
fault_text UnknownDirective = codes "unknown directive"
fault_text MissingField = codes "missing field"
fault_text ExtraField = codes "extra field"
fault_text BadValue = codes "bad value"
fault_text CopyBeforeSet = codes "copy before set"
fault_text CopyTwice = codes "copy twice"
fault_text UnknownSet = codes "unknown set"
fault_text UnknownPool = codes "unknown pool"
fault_text SectionNotClosed = codes "section not closed"
fault_text TooMany = codes "too many"
fault_text Conflict = codes "conflict"
fault_text Duplicate = codes "duplicate"
fault_text OutOfRange = codes "out of range"
fault_text NotText = codes "not text"

-- what the error of a line is for its file
abbrev pub refused_at : ℕ → LineError → ConfError
refused_at line (Fault fault) = errors.Refused (record { line = line; fault = fault })
refused_at line NoMemory = errors.NoMemory
