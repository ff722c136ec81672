-- What the code keeps of the lines of a releaser.cmd is what they told.
use Rattle.std.proofs.Common.{◌≡◌, Bool, true, false, ◌&&◌, ◌||◌, List, [], ◌∷◌, ◌++◌, Option, Some, None, Result, refl, sym, ap, ◌∙◌, subst}
use Rattle.std.specs.List.{list_any, last_or, filter_map}
use Rattle.std.specs.Option.{option_or}
use Rattle.std.proofs.lemmas.List.{append-nil}
use Rattle.site_text.specs.declared.line.Line.{Line}
use Rattle.site_text.specs.declared.fault.LineError.{LineError}
use Rattle.site_text.specs.Fields.{Field, Read, Gives}
use Rattle.site_text.specs.LastValues.{last_of}
use Rattle.site_text.proofs.TableLaws.{named_stands}
use Rattle.site_text.proofs.LastLaws.{last_of_more, any_more}
use Rattle.daemon_cmds.specs.declared.site_conf.SiteConf.{SiteConf}
use Rattle.daemon_cmds.specs.declared.releaser_conf.ReleaserConf.{ReleaserConf}
use Rattle.daemon_cmds.specs.declared.releaser_conf.ReleaserSoFar.{ReleaserSoFar}
use Rattle.daemon_cmds.specs.declared.releaser_conf.Settings.{Settings}
use Rattle.daemon_cmds.specs.declared.releaser_conf.PartSetting.{PartSetting}
use Rattle.daemon_cmds.specs.declared.releaser_conf.Weight.TheVariants as weights
use Rattle.daemon_cmds.specs.declared.releaser_conf.Setting.{Setting}
use Rattle.daemon_cmds.specs.declared.releaser_conf.Setting.TheVariants as settings
use Rattle.daemon_cmds.specs.declared.releaser_conf.ReleaserReading.{ReleaserReading}
use Rattle.daemon_cmds.specs.declared.releaser_conf.ReleaserReading.TheVariants as readings
use Rattle.daemon_cmds.specs.ReleaserTold.{part_in, part_of, same_part, given_from, given_of, is_age, is_access, is_modify, is_residence, is_size, weight_in, residence_in, is_no_release, is_rearch_no_release, value_in, TellsReleaser}
use Rattle.daemon_cmds.specs.ReleaserRules.{releaser_forms, word_forms, releaser_bars}
use Rattle.daemon_cmds.specs.ReleaserSteps.{releaser_line, settings_in, releaser_so_far, KnowsReleaser, with_setting_if, with_releaser_reading, ComesTo, releaser_names, releaser_words, age_names, form_of, word_form, bar_of, form_by_name, form_by_word, bar_by_name, line_by_words}
use Rattle.daemon_cmds.proofs.BarWords.{bar_stands, by_words}

-- ---- what is set, and what one line more sets

abbrev part_behind : Option Field → List ReleaserReading → Option Field
part_behind part said = last_or part (filter_map part_in said)

-- what a line sets in a part
abbrev sets_there : Option Field → ReleaserReading → List PartSetting
sets_there part (readings.Set setting) = record { part = part; setting = setting } ∷ []
sets_there part r = []

given_one : (part : Option Field) (r : ReleaserReading) → given_from part (r ∷ []) ≡ sets_there part r
given_one part (readings.Part name) = refl
given_one part (readings.Set setting) = refl
given_one part readings.Nothing = refl

given_more : (part : Option Field) (said : List ReleaserReading) (r : ReleaserReading) → given_from part (said ++ r ∷ []) ≡ given_from part said ++ sets_there (part_behind part said) r
given_more part [] r = given_one part r
given_more part (readings.Part name ∷ said) r = given_more (Some name) said r
given_more part (readings.Set setting ∷ said) r = ap (λ (gs : List PartSetting). record { part = part; setting = setting } ∷ gs) (given_more part said r)
given_more part (readings.Nothing ∷ said) r = given_more part said r

-- ---- what is set in one part

-- some of these say this of the part
abbrev says_in : (Setting → Bool) → Option Field → PartSetting → Bool
says_in is part given = same_part given.part part && is given.setting

abbrev settings_of : Option Field → List PartSetting → Settings
settings_of part given = record {
  age = last_of (value_in (weight_in is_age) part) given;
  access = last_of (value_in (weight_in is_access) part) given;
  modify = last_of (value_in (weight_in is_modify) part) given;
  residence = last_of (value_in (weight_in is_residence) part) given;
  size = last_of (value_in (weight_in is_size) part) given;
  min_residence_age = last_of (value_in residence_in part) given;
  no_release = list_any (says_in is_no_release part) given;
  rearch_no_release = list_any (says_in is_rearch_no_release part) given;
}

abbrev with_one : Option Field → List PartSetting → PartSetting → Settings
with_one part given g = record {
  age = option_or (value_in (weight_in is_age) part g) (last_of (value_in (weight_in is_age) part) given);
  access = option_or (value_in (weight_in is_access) part g) (last_of (value_in (weight_in is_access) part) given);
  modify = option_or (value_in (weight_in is_modify) part g) (last_of (value_in (weight_in is_modify) part) given);
  residence = option_or (value_in (weight_in is_residence) part g) (last_of (value_in (weight_in is_residence) part) given);
  size = option_or (value_in (weight_in is_size) part g) (last_of (value_in (weight_in is_size) part) given);
  min_residence_age = option_or (value_in residence_in part g) (last_of (value_in residence_in part) given);
  no_release = says_in is_no_release part g || list_any (says_in is_no_release part) given;
  rearch_no_release = says_in is_rearch_no_release part g || list_any (says_in is_rearch_no_release part) given;
}

with_one_is : (part : Option Field) (given : List PartSetting) (g : PartSetting) → with_one part given g ≡ settings_of part (given ++ g ∷ [])
with_one_is part given g = rw (
  last_of_more (value_in (weight_in is_age) part) given g,
  last_of_more (value_in (weight_in is_access) part) given g,
  last_of_more (value_in (weight_in is_modify) part) given g,
  last_of_more (value_in (weight_in is_residence) part) given g,
  last_of_more (value_in (weight_in is_size) part) given g,
  last_of_more (value_in residence_in part) given g,
  any_more (says_in is_no_release part) given g,
  any_more (says_in is_rearch_no_release part) given g,
) refl

by_part : (part other : Option Field) (given : List PartSetting) (setting : Setting) (there : Bool) → same_part other part ≡ there
    → with_setting_if there (settings_of part given) setting ≡ with_one part given (record { part = other; setting = setting })
by_part part other given setting false is = rw is refl
by_part part other given (settings.Weight weights.Age n) true is = rw is refl
by_part part other given (settings.Weight weights.Access n) true is = rw is refl
by_part part other given (settings.Weight weights.Modify n) true is = rw is refl
by_part part other given (settings.Weight weights.Residence n) true is = rw is refl
by_part part other given (settings.Weight weights.Size n) true is = rw is refl
by_part part other given (settings.MinResidenceAge n) true is = rw is refl
by_part part other given settings.NoRelease true is = rw is refl
by_part part other given settings.RearchNoRelease true is = rw is refl

set_more : (part other : Option Field) (given : List PartSetting) (setting : Setting)
    → with_setting_if (same_part other part) (settings_of part given) setting ≡ settings_of part (given ++ record { part = other; setting = setting } ∷ [])
set_more part other given setting = by_part part other given setting (same_part other part) refl ∙ with_one_is part given (record { part = other; setting = setting })

-- ---- one line more

abbrev made : Option Field → List PartSetting → Settings → Settings → ReleaserSoFar
made part given global local = record { part = part; given = given; global = global; local = local }

-- by what is given, in a part that goes on
abbrev so_far_by : SiteConf → Option Field → List PartSetting → ReleaserSoFar
so_far_by site part given = made part given (settings_of None given) (settings_of (Some site.name) given)

same_part_goes_on : (said : List ReleaserReading) (r : ReleaserReading) → part_in r ≡ None → part_of (said ++ r ∷ []) ≡ part_of said
same_part_goes_on said r none = last_of_more part_in said r ∙ ap (λ (o : Option Field). option_or o (part_of said)) none

behind : (site : SiteConf) (said : List ReleaserReading) (r : ReleaserReading) (part : Option Field) (given : List PartSetting) → part_of (said ++ r ∷ []) ≡ part → given_of (said ++ r ∷ []) ≡ given
    → so_far_by site part given ≡ releaser_so_far site (said ++ r ∷ [])
behind site said r part given more_part more_given = ap (λ (p : Option Field). so_far_by site p given) (sym more_part) ∙ ap (so_far_by site (part_of (said ++ r ∷ []))) (sym more_given)

nothing_more : (given : List PartSetting) → given ++ [] ≡ given
nothing_more given = append-nil given

one_more : (site : SiteConf) (said : List ReleaserReading) (r : ReleaserReading) → with_releaser_reading site (releaser_so_far site said) r ≡ releaser_so_far site (said ++ r ∷ [])
one_more site said (readings.Part name) = let r = readings.Part name in
    behind site said r (Some name) (given_of said) (last_of_more part_in said r) (given_more None said r ∙ nothing_more (given_of said))
one_more site said (readings.Set setting) =
    let r = readings.Set setting in
    let one : PartSetting = record { part = part_of said; setting = setting } in
    ap (λ (s : Settings). made (part_of said) (given_of said ++ one ∷ []) s (with_setting_if (same_part (part_of said) (Some site.name)) (settings_of (Some site.name) (given_of said)) setting)) (set_more None (part_of said) (given_of said) setting)
    ∙ ap (made (part_of said) (given_of said ++ one ∷ []) (settings_of None (given_of said ++ one ∷ []))) (set_more (Some site.name) (part_of said) (given_of said) setting)
    ∙ behind site said r (part_of said) (given_of said ++ one ∷ []) (same_part_goes_on said r refl) (given_more None said r)
one_more site said readings.Nothing =
    behind site said readings.Nothing (part_of said) (given_of said) (same_part_goes_on said readings.Nothing refl) (given_more None said readings.Nothing ∙ nothing_more (given_of said))

pub more : (site : SiteConf) (said : List ReleaserReading) (known now : ReleaserSoFar) (r : ReleaserReading) → now ≡ with_releaser_reading site known r → KnowsReleaser site said known → KnowsReleaser site (said ++ r ∷ []) now
more site said known now r is knows = is ∙ ap (λ (k : ReleaserSoFar). with_releaser_reading site k r) knows ∙ one_more site said r

-- ---- the configuration

come_to : (site : SiteConf) (said : List ReleaserReading) (conf : ReleaserConf) → ComesTo (settings_in (Some site.name) said) (settings_in None said) conf → TellsReleaser site said conf
come_to site said conf comes = record { ages = comes.ages; size = comes.size; min_residence_age = comes.min_residence_age; no_release = comes.no_release; rearch_no_release = comes.rearch_no_release }

pub tells : (site : SiteConf) (said : List ReleaserReading) (known : ReleaserSoFar) (conf : ReleaserConf) → KnowsReleaser site said known → ComesTo known.local known.global conf → TellsReleaser site said conf
tells site said known conf knows comes = come_to site said conf (subst (λ (k : ReleaserSoFar). ComesTo k.local k.global conf) knows comes)

-- ---- reading a line by the code's own words

words_read : (said : List ReleaserReading) (line : Line) → line_by_words (part_of said) (given_of said) line.fields ≡ releaser_line said line
words_read said line = by_words (bar_by_name (part_of said) (given_of said)) form_by_name form_by_word (releaser_bars said) releaser_forms word_forms
    (bar_stands (bar_of (part_of said) (given_of said)) age_names) (λ name. sym (named_stands form_of releaser_names name)) (λ word. sym (named_stands word_form releaser_words word)) line.fields

pub line_read : (site : SiteConf) (said : List ReleaserReading) (known : ReleaserSoFar) (line : Line) (result : Result ReleaserReading LineError) → KnowsReleaser site said known
    → Gives (λ r. r) result (line_by_words known.part known.given line.fields) → Gives (λ r. r) result (releaser_line said line)
line_read site said known line result knows gives =
    subst (λ (read : Read ReleaserReading). Gives (λ r. r) result read) (ap (λ (k : ReleaserSoFar). line_by_words k.part k.given line.fields) knows ∙ words_read said line) gives
