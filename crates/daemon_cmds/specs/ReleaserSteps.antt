-- Reading a line of releaser.cmd in steps, by what the code keeps of the lines before it.
use Rattle.std.specs.Prelude.{◌≡◌, ℕ, List, [], ◌∷◌, ◌++◌, codes, Option, Some, None, Bool, true, false, ◌&&◌, ◌||◌, not, is_some, unwrap_or, if◌then◌else◌, option_map, option_and_then}
use Rattle.std.specs.List.{list_any}
use Rattle.std.specs.Option.{option_or}
use Rattle.base.specs.declared.limits.TheConstants.{NAME_MAX}
use Rattle.site_text.specs.declared.fault.ConfFault.{ConfFault}
use Rattle.site_text.specs.declared.fault.ConfFault.TheVariants.{Conflict}
use Rattle.site_text.specs.declared.line.Line.{Line}
use Rattle.site_text.specs.Fields.{Field, Read}
use Rattle.site_text.specs.Words.{named}
use Rattle.site_text.specs.Values.{age_value, name_value}
use Rattle.site_text.specs.Forms.{Form, End, one_number, one_text, ignored_form}
use Rattle.site_text.specs.DirectiveSteps.{Lookup}
use Rattle.daemon_cmds.specs.declared.site_conf.SiteConf.{SiteConf}
use Rattle.daemon_cmds.specs.declared.releaser_conf.AgeWeights.{AgeWeights}
use Rattle.daemon_cmds.specs.declared.releaser_conf.AgeWeights.TheVariants.{Least, Separate}
use Rattle.daemon_cmds.specs.declared.releaser_conf.ReleaserConf.{ReleaserConf}
use Rattle.daemon_cmds.specs.declared.releaser_conf.ReleaserSoFar.{ReleaserSoFar}
use Rattle.daemon_cmds.specs.declared.releaser_conf.Settings.{Settings}
use Rattle.daemon_cmds.specs.declared.releaser_conf.PartSetting.{PartSetting}
use Rattle.daemon_cmds.specs.declared.releaser_conf.Weight.{Weight}
use Rattle.daemon_cmds.specs.declared.releaser_conf.Weight.TheVariants as weights
use Rattle.daemon_cmds.specs.declared.releaser_conf.Setting.{Setting}
use Rattle.daemon_cmds.specs.declared.releaser_conf.Setting.TheVariants as settings
use Rattle.daemon_cmds.specs.declared.releaser_conf.ReleaserReading.{ReleaserReading}
use Rattle.daemon_cmds.specs.declared.releaser_conf.ReleaserReading.TheVariants as readings
use Rattle.daemon_cmds.specs.declared.releaser_lines.ReleaserDirective.{ReleaserDirective}
use Rattle.daemon_cmds.specs.declared.releaser_lines.ReleaserDirective.TheVariants as directives
use Rattle.daemon_cmds.specs.declared.releaser_lines.ReleaserWord.{ReleaserWord}
use Rattle.daemon_cmds.specs.declared.releaser_lines.ReleaserWord.TheVariants as words
use Rattle.daemon_cmds.specs.BarRules.{if_so}
use Rattle.daemon_cmds.specs.BarSteps.{read_unless_barred, read_unless_barred_by}
use Rattle.daemon_cmds.specs.ReleaserTold.{part_of, given_of, same_part, is_age, is_access, is_modify, is_residence, is_size, weight_in, residence_in, is_no_release, is_rearch_no_release, last_in, stands_in, weight_one, default_residence}
use Rattle.daemon_cmds.specs.ReleaserRules.{weight_form, releaser_forms, word_forms, is_for_one_age, sets_weight, releaser_bars}

-- reading a line by the tables
abbrev pub releaser_line : List ReleaserReading → Line → Read ReleaserReading
releaser_line before line = read_unless_barred (releaser_bars before) releaser_forms word_forms line.fields

-- ---- what the code keeps

-- what is set in one part
abbrev pub settings_in : Option Field → List ReleaserReading → Settings
settings_in part said = record {
  age = last_in (weight_in is_age) part said;
  access = last_in (weight_in is_access) part said;
  modify = last_in (weight_in is_modify) part said;
  residence = last_in (weight_in is_residence) part said;
  size = last_in (weight_in is_size) part said;
  min_residence_age = last_in residence_in part said;
  no_release = stands_in is_no_release part said;
  rearch_no_release = stands_in is_rearch_no_release part said;
}

-- what lines that said these readings told
abbrev pub releaser_so_far : SiteConf → List ReleaserReading → ReleaserSoFar
releaser_so_far site said = record { part = part_of said; given = given_of said; global = settings_in None said; local = settings_in (Some site.name) said }

abbrev pub KnowsReleaser : SiteConf → List ReleaserReading → ReleaserSoFar → Type 0
KnowsReleaser site said known = known ≡ releaser_so_far site said

abbrev pub nothing_set : Settings
nothing_set = record { age = None; access = None; modify = None; residence = None; size = None; min_residence_age = None; no_release = false; rearch_no_release = false }

-- one thing set anew
abbrev pub with_setting : Settings → Setting → Settings
with_setting s (settings.Weight weights.Age n) = record s { age = Some n }
with_setting s (settings.Weight weights.Access n) = record s { access = Some n }
with_setting s (settings.Weight weights.Modify n) = record s { modify = Some n }
with_setting s (settings.Weight weights.Residence n) = record s { residence = Some n }
with_setting s (settings.Weight weights.Size n) = record s { size = Some n }
with_setting s (settings.MinResidenceAge n) = record s { min_residence_age = Some n }
with_setting s settings.NoRelease = record s { no_release = true }
with_setting s settings.RearchNoRelease = record s { rearch_no_release = true }

abbrev pub with_setting_if : Bool → Settings → Setting → Settings
with_setting_if true s setting = with_setting s setting
with_setting_if false s setting = s

-- one line more
abbrev pub with_releaser_reading : SiteConf → ReleaserSoFar → ReleaserReading → ReleaserSoFar
with_releaser_reading site known (readings.Part name) = record known { part = Some name }
with_releaser_reading site known (readings.Set setting) = record {
  part = known.part;
  given = known.given ++ record { part = known.part; setting = setting } ∷ [];
  global = with_setting_if (same_part known.part None) known.global setting;
  local = with_setting_if (same_part known.part (Some site.name)) known.local setting;
}
with_releaser_reading site known readings.Nothing = known

-- ---- what the settings of the site's file system and those for all files come to

abbrev pub weight_or_one : Option ℕ → Option ℕ → ℕ
weight_or_one local global = unwrap_or (option_or local global) weight_one

abbrev pub has_separate : Settings → Bool
has_separate s = is_some s.access || is_some s.modify || is_some s.residence

abbrev pub separate_hold : Settings → Settings → Bool
separate_hold local global = has_separate local || (not (is_some local.age) && has_separate global)

abbrev pub age_weights : Settings → Settings → AgeWeights
age_weights local global = if separate_hold local global
    then Separate (weight_or_one local.access global.access) (weight_or_one local.modify global.modify) (weight_or_one local.residence global.residence)
    else Least (weight_or_one local.age global.age)

pub record ComesTo (local global : Settings) (conf : ReleaserConf) : Type 0 where
  pub ages : conf.ages ≡ age_weights local global
  pub size : conf.size ≡ weight_or_one local.size global.size
  pub min_residence_age : conf.min_residence_age ≡ unwrap_or (option_or local.min_residence_age global.min_residence_age) default_residence
  pub no_release : conf.no_release ≡ (local.no_release || global.no_release)
  pub rearch_no_release : conf.rearch_no_release ≡ (local.rearch_no_release || global.rearch_no_release)

-- ---- reading by the code's own words

abbrev pub releaser_names : List (Field × ReleaserDirective)
releaser_names =
    (codes "weight_age", directives.Weight weights.Age) ∷ (codes "weight_age_access", directives.Weight weights.Access)
    ∷ (codes "weight_age_modify", directives.Weight weights.Modify) ∷ (codes "weight_age_residence", directives.Weight weights.Residence)
    ∷ (codes "weight_size", directives.Weight weights.Size) ∷ (codes "min_residence_age", directives.MinResidenceAge) ∷ (codes "fs", directives.FileSystem)
    ∷ (codes "logfile", directives.Ignored) ∷ (codes "list_size", directives.Ignored)
    ∷ (codes "display_all_candidates", directives.Ignored) ∷ (codes "debug_partial", directives.Ignored) ∷ []

abbrev pub releaser_words : List (Field × ReleaserWord)
releaser_words =
    (codes "no_release", words.NoRelease) ∷ (codes "rearch_no_release", words.RearchNoRelease)
    ∷ (codes "display_all_candidates", words.Ignored) ∷ (codes "debug_partial", words.Ignored) ∷ []

-- the names of weights that exclude others
abbrev pub age_names : List (Field × Weight)
age_names =
    (codes "weight_age", weights.Age) ∷ (codes "weight_age_access", weights.Access)
    ∷ (codes "weight_age_modify", weights.Modify) ∷ (codes "weight_age_residence", weights.Residence) ∷ []

abbrev pub form_of : ReleaserDirective → Form ReleaserReading
form_of (directives.Weight weight) = weight_form weight
form_of directives.MinResidenceAge = one_number age_value (λ n. readings.Set (settings.MinResidenceAge n))
form_of directives.FileSystem = one_text (name_value NAME_MAX) readings.Part
form_of directives.Ignored = ignored_form readings.Nothing

abbrev pub word_form : ReleaserWord → Form ReleaserReading
word_form words.NoRelease = End (readings.Set settings.NoRelease)
word_form words.RearchNoRelease = End (readings.Set settings.RearchNoRelease)
word_form words.Ignored = End readings.Nothing

-- one of these weights is set in this part
abbrev pub sets_in : (Weight → Bool) → Option Field → List PartSetting → Bool
sets_in is part given = list_any (λ g. same_part g.part part && sets_weight is g.setting) given

abbrev pub bar_of : Option Field → List PartSetting → Weight → Option ConfFault
bar_of part given weights.Age = if_so (sets_in is_for_one_age part given) Conflict
bar_of part given weights.Access = if_so (sets_in is_age part given) Conflict
bar_of part given weights.Modify = if_so (sets_in is_age part given) Conflict
bar_of part given weights.Residence = if_so (sets_in is_age part given) Conflict
bar_of part given weights.Size = None

abbrev pub form_by_name : Lookup ReleaserReading
form_by_name name = option_map form_of (named releaser_names name)

abbrev pub form_by_word : Lookup ReleaserReading
form_by_word word = option_map word_form (named releaser_words word)

abbrev pub bar_by_name : Option Field → List PartSetting → Field → Option ConfFault
bar_by_name part given name = option_and_then (bar_of part given) (named age_names name)

abbrev pub line_by_words : Option Field → List PartSetting → List Field → Read ReleaserReading
line_by_words part given fields = read_unless_barred_by (bar_by_name part given) form_by_name form_by_word fields
