-- Assignment lines: what one says, and what is wrong with one.
use Rattle.std.specs.Prelude.{◌≡◌, ◌⊎◌, ℕ, ◌≤◌, ◌<◌, List, [], ◌∷◌, codes, length, unwrap_or, Option, Some, None, true, false}
use Rattle.site_text.specs.declared.fault.ConfFault.{ConfFault}
use Rattle.site_text.specs.declared.fault.ConfFault.TheVariants.{MissingField, BadValue, TooMany, Conflict}
use Rattle.site_text.specs.Fields.{Field}
use Rattle.site_text.specs.OptionRules.{OptionsSay, OptionsWrong}
use Rattle.archiver_lines.specs.declared.criteria.Criterion.{Criterion}
use Rattle.archiver_lines.specs.declared.reading.Reading.{Reading}
use Rattle.archiver_lines.specs.declared.reading.Reading.TheVariants as readings
use Rattle.archiver_lines.specs.declared.criteria.Criterion.TheVariants.{Name, User, Group, Minsize, Maxsize, Access, Release, Stage}
use Rattle.archiver_lines.specs.declared.criteria.Release.{Release as ReleaseKind}
use Rattle.archiver_lines.specs.declared.criteria.Release.TheVariants as releases
use Rattle.archiver_lines.specs.declared.criteria.Stage.{Stage as StageKind}
use Rattle.archiver_lines.specs.declared.criteria.Stage.TheVariants as stages
use Rattle.archiver_lines.specs.declared.reading.Assignment.{Assignment}
use Rattle.archiver_lines.specs.declared.reading.Local.{Local}
use Rattle.site_text.specs.LastValues.{last_of}
use Rattle.archiver_lines.specs.Told.{part_of, sets_of, assignments_of}
use Rattle.archiver_lines.specs.Limits.{most_assignments}
use Rattle.archiver_lines.specs.Names.{is_set_name, MayMention, IsOneTooMany}
use Rattle.archiver_lines.specs.Paths.{is_set_path}
use Rattle.archiver_lines.specs.Faults.{LowestFault, Faultless}
use Rattle.archiver_lines.specs.Criteria.{criteria_table}

-- ---- criteria and attributes

abbrev pub name_in : Criterion → Option Field
name_in (Name field) = Some field
name_in c = None

abbrev pub user_in : Criterion → Option Field
user_in (User field) = Some field
user_in c = None

abbrev pub group_in : Criterion → Option Field
group_in (Group field) = Some field
group_in c = None

abbrev pub minsize_in : Criterion → Option ℕ
minsize_in (Minsize n) = Some n
minsize_in c = None

abbrev pub maxsize_in : Criterion → Option ℕ
maxsize_in (Maxsize n) = Some n
maxsize_in c = None

abbrev pub access_in : Criterion → Option ℕ
access_in (Access n) = Some n
access_in c = None

abbrev pub release_in : Criterion → Option ReleaseKind
release_in (Release r) = Some r
release_in c = None

abbrev pub stage_in : Criterion → Option StageKind
stage_in (Stage s) = Some s
stage_in c = None

-- Of each criterion and attribute the last value holds.
abbrev pub assigned : ℕ → Field → Local → Field → List Criterion → Assignment
assigned line set local path given = record {
  line = line;
  set = set;
  local = local;
  path = path;
  name = last_of name_in given;
  user = last_of user_in given;
  group = last_of group_in given;
  minsize = last_of minsize_in given;
  maxsize = last_of maxsize_in given;
  access = last_of access_in given;
  release = unwrap_or (last_of release_in given) releases.Default;
  stage = unwrap_or (last_of stage_in given) stages.Default;
}

-- ---- what an assignment line says

-- The first field is a set, of which there are not too many; then come a path, and criteria and attributes.
pub record AssignmentSays (site : Field) (before : List Reading) (number : ℕ) (set : Field) (fields : List Field) (said : Reading) : Type 0 where
  pub form : is_set_name set ≡ true
  pub own : ¬ (set ≡ codes "allsets")
  pub few_lines : length (assignments_of before) < most_assignments
  pub few_sets : MayMention (sets_of before) set
  pub path : Field
  pub rest : List Field
  pub cut : fields ≡ path ∷ rest
  pub legal : is_set_path path ≡ true
  pub given : List Criterion
  pub criteria : OptionsSay criteria_table [] rest given
  pub is : said ≡ readings.Assign (assigned number set (part_of site before) path given)

-- ---- what is wrong with one

-- The field is no name of a set, there are too many lines or sets, or it is `allsets`, which means all of them.
abbrev pub SetFault : List Reading → Field → ConfFault → Type 0
SetFault before set BadValue = is_set_name set ≡ false
SetFault before set TooMany = (most_assignments ≤ length (assignments_of before)) ⊎ IsOneTooMany (sets_of before) set
SetFault before set Conflict = set ≡ codes "allsets"
SetFault before set fault = ⊥

-- There is no path, it is no legal one, or behind it a criterion or attribute is wrong.
abbrev pub BehindSet : List Field → ConfFault → Type 0
BehindSet [] fault = fault ≡ MissingField
BehindSet (path ∷ fields) fault = ((is_set_path path ≡ false) × (fault ≡ BadValue))
    ⊎ ((is_set_path path ≡ true) × OptionsWrong criteria_table [] fields fault)

abbrev pub AssignmentWrong : List Reading → Field → List Field → ConfFault → Type 0
AssignmentWrong before set fields fault = LowestFault (SetFault before set) fault ⊎ (Faultless (SetFault before set) × BehindSet fields fault)
