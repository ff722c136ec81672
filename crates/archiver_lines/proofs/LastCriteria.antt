-- Criteria that are told one after the other.
use Rattle.std.proofs.Common.{◌≡◌, ℕ, List, [], ◌∷◌, Some, None, refl, ◌∙◌, fold}
use Rattle.std.specs.Prelude.{unwrap_or}
use Rattle.std.specs.List.{filter_map, last_or}
use Rattle.site_text.specs.Fields.{Field}
use Rattle.archiver_lines.specs.declared.criteria.Criterion.{Criterion}
use Rattle.archiver_lines.specs.declared.criteria.Criterion.TheVariants.{Name, User, Group, Minsize, Maxsize, Access, Release, Stage}
use Rattle.archiver_lines.specs.declared.reading.Assignment.{Assignment}
use Rattle.archiver_lines.specs.declared.reading.Local.{Local}
use Rattle.archiver_lines.specs.AssignmentRules.{name_in, user_in, group_in, minsize_in, maxsize_in, access_in, release_in, stage_in, assigned}
use Rattle.archiver_lines.specs.AssignmentSteps.{bare, with_criterion}

-- the last of each criterion, behind what was said before
abbrev behind : Assignment → List Criterion → Assignment
behind a given = record {
  line = a.line;
  set = a.set;
  local = a.local;
  path = a.path;
  name = last_or a.name (filter_map name_in given);
  user = last_or a.user (filter_map user_in given);
  group = last_or a.group (filter_map group_in given);
  minsize = last_or a.minsize (filter_map minsize_in given);
  maxsize = last_or a.maxsize (filter_map maxsize_in given);
  access = last_or a.access (filter_map access_in given);
  release = unwrap_or (last_or None (filter_map release_in given)) a.release;
  stage = unwrap_or (last_or None (filter_map stage_in given)) a.stage;
}

over_more : {B : Type 0} (y x before : B) (ys : List B) → unwrap_or (last_or (Some y) ys) x ≡ unwrap_or (last_or (Some y) ys) before
over_more y x before [] = refl
over_more y x before (z ∷ zs) = over_more z x before zs

-- where one says a value, what was said before it does not count
over : {B : Type 0} (x before : B) (xs : List B) → unwrap_or (last_or None xs) x ≡ unwrap_or (last_or (Some x) xs) before
over x before [] = refl
over x before (y ∷ ys) = over_more y x before ys

first_behind : (a : Assignment) (c : Criterion) (given : List Criterion) → behind (with_criterion a c) given ≡ behind a (c ∷ given)
first_behind a (Name f) given = refl
first_behind a (User f) given = refl
first_behind a (Group f) given = refl
first_behind a (Minsize n) given = refl
first_behind a (Maxsize n) given = refl
first_behind a (Access n) given = refl
first_behind a (Release r) given = rw (over r a.release (filter_map release_in given)) refl
first_behind a (Stage s) given = rw (over s a.stage (filter_map stage_in given)) refl

each_behind : (a : Assignment) (given : List Criterion) → fold with_criterion a given ≡ behind a given
each_behind a [] = refl
each_behind a (c ∷ given) = each_behind (with_criterion a c) given ∙ first_behind a c given

pub criteria_told : (line : ℕ) (set : Field) (local : Local) (path : Field) (given : List Criterion) → fold with_criterion (bare line set local path) given ≡ assigned line set local path given
criteria_told line set local path given = each_behind (bare line set local path) given
