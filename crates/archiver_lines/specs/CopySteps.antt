-- Copy lines, read from the left.
use Rattle.std.specs.Prelude.{ℕ, List, [], ◌∷◌, codes, length, Option, Some, None, Ok, Err, Bool, true, false, ◌&&◌, not, nat_le, if◌then◌else◌}
use Rattle.std.specs.Str.{bytes_eq}
use Rattle.site_text.specs.declared.fault.ConfFault.TheVariants.{UnknownDirective, ExtraField, BadValue, CopyBeforeSet, CopyTwice, TooMany, Conflict, OutOfRange}
use Rattle.site_text.specs.Fields.{Field, Read, ◌>>=◌, wanted, refuse_if, no_field}
use Rattle.site_text.specs.Numbers.{number_in}
use Rattle.archiver_lines.specs.declared.reading.SetCopy.{SetCopy}
use Rattle.site_text.specs.Words.{is_option}
use Rattle.site_text.specs.Values.{age_value}
use Rattle.archiver_lines.specs.declared.reading.CopyConf.{CopyConf}
use Rattle.archiver_lines.specs.Limits.{most_sets}
use Rattle.archiver_lines.specs.Names.{is_in}
use Rattle.archiver_lines.specs.CopyRules.{has_copy, default_age}

-- one more set of this name would be one too many
abbrev pub is_too_many : List Field → Field → Bool
is_too_many sets name = not (is_in sets name) && nat_le most_sets (length sets)

-- both ages, and nothing behind them
unfoldable pub copy_ages : List Field → Read (ℕ × Option ℕ)
copy_ages [] = Ok (default_age, None)
copy_ages (field ∷ []) = do
  age ← age_value field
  Ok (age, None)
copy_ages (field ∷ next ∷ rest) = do
  age ← age_value field
  unage ← age_value next
  end ← no_field rest
  Ok (age, Some unage)

-- a field that stands behind the option `same` and begins with `-` is taken as a second one
unfoldable pub no_second : Field → Field → List Field → Read (Unit {0})
no_second same other [] = Ok tt
no_second same other (field ∷ fields) =
    if bytes_eq field same then Err ExtraField
    else if bytes_eq field other then Err Conflict
    else refuse_if (is_option field) UnknownDirective

-- whether `-release` and `-norelease` stand, and the fields behind
unfoldable pub copy_option : List Field → Read ((Bool × Bool) × List Field)
copy_option [] = Ok ((false, false), [])
copy_option (field ∷ fields) =
    if bytes_eq field (codes "-release") then (no_second (codes "-release") (codes "-norelease") fields >>= λ x. Ok ((true, false), fields))
    else if bytes_eq field (codes "-norelease") then (no_second (codes "-norelease") (codes "-release") fields >>= λ x. Ok ((false, true), fields))
    else if is_option field then Err UnknownDirective
    else Ok ((false, false), field ∷ fields)

unfoldable pub copy_conf : ℕ → List Field → Read CopyConf
copy_conf copy fields = do
  option ← copy_option fields
  ages ← copy_ages option.1
  Ok (record { copy = copy; age = ages.0; unage = ages.1; release = option.0.0; norelease = option.0.1 })

-- `N [-release | -norelease] [archive_age [unarchive_age]]`
unfoldable pub copy_line : Option Field → List SetCopy → List Field → Field → List Field → Read SetCopy
copy_line target copies sets field fields = do
  copy ← wanted (number_in 9 field) BadValue
  set ← wanted target CopyBeforeSet
  fresh ← refuse_if (has_copy copies set copy) CopyTwice
  room ← refuse_if (is_too_many sets set) TooMany
  archived ← refuse_if (bytes_eq set (codes "no_archive")) Conflict
  range ← refuse_if (not (nat_le 1 copy && nat_le copy 4)) OutOfRange
  conf ← copy_conf copy fields
  Ok (record { set = set; conf = conf })
