-- Assignment lines, read from the left.
use Rattle.std.specs.Prelude.{ℕ, List, [], codes, Ok, ◌||◌, not, nat_le, unwrap_or}
use Rattle.std.specs.Str.{bytes_eq}
use Rattle.site_text.specs.Fields.{Field, Read, ◌>>=◌, refuse_if, next_field}
use Rattle.archiver_lines.specs.declared.criteria.Criterion.{Criterion}
use Rattle.archiver_lines.specs.declared.reading.Reading.{Reading}
use Rattle.archiver_lines.specs.declared.reading.Reading.TheVariants as readings
use Rattle.site_text.specs.declared.fault.ConfFault.TheVariants.{BadValue, TooMany, Conflict}
use Rattle.site_text.specs.OptionSteps.{options_of}
use Rattle.archiver_lines.specs.declared.reading.Assignment.{Assignment}
use Rattle.archiver_lines.specs.declared.reading.Local.{Local}
use Rattle.std.specs.Option.{option_or}
use Rattle.archiver_lines.specs.Limits.{most_assignments}
use Rattle.archiver_lines.specs.Names.{is_set_name}
use Rattle.archiver_lines.specs.Paths.{is_set_path}
use Rattle.archiver_lines.specs.CopySteps.{is_too_many}
use Rattle.archiver_lines.specs.AssignmentRules.{name_in, user_in, group_in, minsize_in, maxsize_in, access_in, release_in, stage_in, assigned}
use Rattle.archiver_lines.specs.Criteria.{criteria_table}

-- ---- one criterion after the other

abbrev pub bare : ℕ → Field → Local → Field → Assignment
bare line set local path = assigned line set local path []

abbrev pub with_criterion : Assignment → Criterion → Assignment
with_criterion a c = record {
  line = a.line;
  set = a.set;
  local = a.local;
  path = a.path;
  name = option_or (name_in c) a.name;
  user = option_or (user_in c) a.user;
  group = option_or (group_in c) a.group;
  minsize = option_or (minsize_in c) a.minsize;
  maxsize = option_or (maxsize_in c) a.maxsize;
  access = option_or (access_in c) a.access;
  release = unwrap_or (release_in c) a.release;
  stage = unwrap_or (stage_in c) a.stage;
}

-- ---- the line

-- `SET PATH` and criteria and attributes, behind so many assignment lines
unfoldable pub assign_line : Local → ℕ → List Field → ℕ → Field → List Field → Read Reading
assign_line local lines sets number field fields = do
  form ← refuse_if (not (is_set_name field)) BadValue
  room ← refuse_if (nat_le most_assignments lines || is_too_many sets field) TooMany
  own ← refuse_if (bytes_eq field (codes "allsets")) Conflict
  path ← next_field fields
  legal ← refuse_if (not (is_set_path path.0)) BadValue
  given ← options_of criteria_table [] path.1
  Ok (readings.Assign (assigned number field local path.0 given))
