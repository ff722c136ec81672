-- The names of copies in params and vsns: what one says, and what is wrong with one.
use Rattle.std.specs.Prelude.{◌≡◌, ℕ, List, codes, Some, true, false}
use Rattle.base.specs.declared.limits.TheConstants.{NAME_MAX}
use Rattle.site_text.specs.declared.fault.ConfFault.{ConfFault}
use Rattle.site_text.specs.Fields.{Field}
use Rattle.archiver_lines.specs.declared.reading.Reading.{Reading}
use Rattle.site_text.specs.declared.fault.ConfFault.TheVariants.{BadValue, UnknownSet}
use Rattle.site_text.specs.Numbers.{number_within}
use Rattle.site_text.specs.Values.{is_name}
use Rattle.archiver_lines.specs.declared.reading.CopyName.{CopyName}
use Rattle.archiver_lines.specs.declared.reading.CopyName.TheVariants as names
use Rattle.archiver_lines.specs.Told.{file_systems_of, sets_of}
use Rattle.archiver_lines.specs.Names.{around_last_dot, is_known}

-- The field is `allsets`, `allsets.N` or `SET.N`, cut at its last `.`, and there is such a set.
abbrev pub NameSays : Field → List Reading → Field → CopyName → Type 0
NameSays site before field names.AllSets = field ≡ codes "allsets"
NameSays site before field (names.AllSetsCopy copy) = ¬ (field ≡ codes "allsets") × ((number : Field)
    × (around_last_dot field ≡ Some (codes "allsets", number)) × (number_within 9 1 4 number ≡ Some copy))
NameSays site before field (names.SetCopy set copy) = ¬ (field ≡ codes "allsets") × ¬ (set ≡ codes "allsets") × ((number : Field)
    × (around_last_dot field ≡ Some (set, number)) × (number_within 9 1 4 number ≡ Some copy)
    × (is_name NAME_MAX set ≡ true) × (is_known site (file_systems_of before) (sets_of before) set ≡ true))

-- the name of a set and the number of a copy, with a `.` between
pub record IsNumbered (field set : Field) (copy : ℕ) : Type 0 where
  pub number : Field
  pub cut : around_last_dot field ≡ Some (set, number)
  pub numbered : number_within 9 1 4 number ≡ Some copy
  pub form : is_name NAME_MAX set ≡ true

-- The field is neither `allsets` nor of the form `SET.N`, or there is no such set.
abbrev pub NameWrong : Field → List Reading → Field → ConfFault → Type 0
NameWrong site before field BadValue = ¬ (field ≡ codes "allsets") × ((set : Field) (copy : ℕ) → ¬ IsNumbered field set copy)
NameWrong site before field UnknownSet = (set : Field) × (copy : ℕ) × IsNumbered field set copy × ¬ (set ≡ codes "allsets")
    × (is_known site (file_systems_of before) (sets_of before) set ≡ false)
NameWrong site before field fault = ⊥
