-- What the lines of a releaser.cmd tell. Readings stand in the order of the file.
use Rattle.std.specs.Prelude.{◌≡◌, ℕ, ◌^◌, List, [], ◌∷◌, Option, Some, None, Bool, true, false, ◌&&◌, ◌||◌, not, is_some, unwrap_or, if◌then◌else◌}
use Rattle.std.specs.List.{list_any}
use Rattle.std.specs.Option.{option_or}
use Rattle.std.specs.Str.{bytes_eq}
use Rattle.site_text.specs.Fields.{Field}
use Rattle.site_text.specs.LastValues.{last_of}
use Rattle.daemon_cmds.specs.declared.site_conf.SiteConf.{SiteConf}
use Rattle.daemon_cmds.specs.declared.releaser_conf.AgeWeights.{AgeWeights}
use Rattle.daemon_cmds.specs.declared.releaser_conf.AgeWeights.TheVariants.{Least, Separate}
use Rattle.daemon_cmds.specs.declared.releaser_conf.ReleaserConf.{ReleaserConf}
use Rattle.daemon_cmds.specs.declared.releaser_conf.PartSetting.{PartSetting}
use Rattle.daemon_cmds.specs.declared.releaser_conf.Weight.{Weight}
use Rattle.daemon_cmds.specs.declared.releaser_conf.Weight.TheVariants as weights
use Rattle.daemon_cmds.specs.declared.releaser_conf.Setting.{Setting}
use Rattle.daemon_cmds.specs.declared.releaser_conf.Setting.TheVariants as settings
use Rattle.daemon_cmds.specs.declared.releaser_conf.ReleaserReading.{ReleaserReading}
use Rattle.daemon_cmds.specs.declared.releaser_conf.ReleaserReading.TheVariants as readings

-- ---- parts

abbrev pub part_in : ReleaserReading → Option Field
part_in (readings.Part name) = Some name
part_in reading = None

-- the file system in whose part a line stands that comes behind these: that of the last `fs =`, or none
abbrev pub part_of : List ReleaserReading → Option Field
part_of said = last_of part_in said

abbrev pub same_part : Option Field → Option Field → Bool
same_part None None = true
same_part None (Some name) = false
same_part (Some name) None = false
same_part (Some name) (Some other) = bytes_eq name other

-- what lines set, each with its part, of which the first stands in this part
abbrev pub given_from : Option Field → List ReleaserReading → List PartSetting
given_from part [] = []
given_from part (readings.Part name ∷ said) = given_from (Some name) said
given_from part (readings.Set setting ∷ said) = record { part = part; setting = setting } ∷ given_from part said
given_from part (readings.Nothing ∷ said) = given_from part said

abbrev pub given_of : List ReleaserReading → List PartSetting
given_of said = given_from None said

-- ---- weights

abbrev pub is_age : Weight → Bool
is_age weights.Age = true
is_age weight = false

abbrev pub is_access : Weight → Bool
is_access weights.Access = true
is_access weight = false

abbrev pub is_modify : Weight → Bool
is_modify weights.Modify = true
is_modify weight = false

abbrev pub is_residence : Weight → Bool
is_residence weights.Residence = true
is_residence weight = false

abbrev pub is_size : Weight → Bool
is_size weights.Size = true
is_size weight = false

-- ---- what each line sets

abbrev pub weight_in : (Weight → Bool) → Setting → Option ℕ
weight_in is (settings.Weight weight n) = if is weight then Some n else None
weight_in is setting = None

abbrev pub residence_in : Setting → Option ℕ
residence_in (settings.MinResidenceAge n) = Some n
residence_in setting = None

abbrev pub is_no_release : Setting → Bool
is_no_release settings.NoRelease = true
is_no_release setting = false

abbrev pub is_rearch_no_release : Setting → Bool
is_rearch_no_release settings.RearchNoRelease = true
is_rearch_no_release setting = false

-- ---- what is set in a part; an `fs =` that stands again goes on with its part

abbrev pub value_in : (Setting → Option ℕ) → Option Field → PartSetting → Option ℕ
value_in value part given = if same_part given.part part then value given.setting else None

-- the value that the last line of a part gives which gives one
abbrev pub last_in : (Setting → Option ℕ) → Option Field → List ReleaserReading → Option ℕ
last_in value part said = last_of (value_in value part) (given_of said)

-- some line of a part says this
abbrev pub stands_in : (Setting → Bool) → Option Field → List ReleaserReading → Bool
stands_in is part said = list_any (λ given. same_part given.part part && is given.setting) (given_of said)

-- ---- the configuration

-- millionths
abbrev pub weight_one : ℕ
weight_one = 10 ^ 6

-- seconds
abbrev pub default_residence : ℕ
default_residence = 600

-- what is set for the site's file system, or else for all
abbrev pub set_for : (Setting → Option ℕ) → SiteConf → List ReleaserReading → Option ℕ
set_for value site said = option_or (last_in value (Some site.name) said) (last_in value None said)

abbrev pub weight_for : (Weight → Bool) → SiteConf → List ReleaserReading → ℕ
weight_for is site said = unwrap_or (set_for (weight_in is) site said) weight_one

-- a weight of one of the three ages is set in a part
abbrev pub has_separate : Option Field → List ReleaserReading → Bool
has_separate part said = is_some (last_in (weight_in is_access) part said) || is_some (last_in (weight_in is_modify) part said)
    || is_some (last_in (weight_in is_residence) part said)

-- A weight of one age replaces the weight of all ages, and the other way: what is set for the site's file system goes before what is set
-- for all.
abbrev pub separate_hold : SiteConf → List ReleaserReading → Bool
separate_hold site said = has_separate (Some site.name) said
    || (not (is_some (last_in (weight_in is_age) (Some site.name) said)) && has_separate None said)

abbrev pub age_weights : SiteConf → List ReleaserReading → AgeWeights
age_weights site said = if separate_hold site said
    then Separate (weight_for is_access site said) (weight_for is_modify site said) (weight_for is_residence site said)
    else Least (weight_for is_age site said)

pub record TellsReleaser (site : SiteConf) (said : List ReleaserReading) (conf : ReleaserConf) : Type 0 where
  pub ages : conf.ages ≡ age_weights site said
  pub size : conf.size ≡ weight_for is_size site said
  pub min_residence_age : conf.min_residence_age ≡ unwrap_or (set_for residence_in site said) default_residence
  pub no_release : conf.no_release ≡ (stands_in is_no_release (Some site.name) said || stands_in is_no_release None said)
  pub rearch_no_release : conf.rearch_no_release ≡ (stands_in is_rearch_no_release (Some site.name) said || stands_in is_rearch_no_release None said)
