-- The names of copies, read in steps.
use Rattle.std.specs.Prelude.{ℕ, List, codes, Option, Some, None, Ok, Err, not, if◌then◌else◌}
use Rattle.std.specs.Str.{bytes_eq}
use Rattle.base.specs.declared.limits.TheConstants.{NAME_MAX}
use Rattle.site_text.specs.Fields.{Field, Read, ◌>>=◌, wanted, refuse_if}
use Rattle.site_text.specs.declared.fault.ConfFault.TheVariants.{BadValue, UnknownSet}
use Rattle.site_text.specs.Numbers.{number_within}
use Rattle.site_text.specs.Values.{is_name}
use Rattle.archiver_lines.specs.declared.reading.CopyName.{CopyName}
use Rattle.archiver_lines.specs.declared.reading.CopyName.TheVariants.{AllSets, AllSetsCopy, SetCopy}
use Rattle.archiver_lines.specs.Names.{around_last_dot, is_known}

-- the number of a copy
abbrev pub copy_number : Field → Option ℕ
copy_number field = number_within 9 1 4 field

-- `SET.N` or `allsets.N`
unfoldable pub numbered_name : Field → List Field → List Field → Field → Field → Read CopyName
numbered_name site file_systems sets set number = do
  copy ← wanted (copy_number number) BadValue
  form ← refuse_if (not (is_name NAME_MAX set)) BadValue
  if bytes_eq set (codes "allsets") then Ok (AllSetsCopy copy) else (do
    known ← refuse_if (not (is_known site file_systems sets set)) UnknownSet
    Ok (SetCopy set copy))

-- what a name says that is cut so
abbrev pub name_by_parts : Field → List Field → List Field → Option (Field × Field) → Read CopyName
name_by_parts site file_systems sets (Some parts) = numbered_name site file_systems sets parts.0 parts.1
name_by_parts site file_systems sets None = Err BadValue

-- `allsets`, or a name cut at its last `.`
unfoldable pub copy_name : Field → List Field → List Field → Field → Read CopyName
copy_name site file_systems sets field = if bytes_eq field (codes "allsets") then Ok AllSets else name_by_parts site file_systems sets (around_last_dot field)
