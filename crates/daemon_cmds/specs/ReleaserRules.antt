-- What a line of releaser.cmd says, and what is wrong with one, behind lines that said these readings.
use Rattle.std.specs.Prelude.{List, [], ◌∷◌, codes, Bool, true, false, ◌&&◌}
use Rattle.std.specs.List.{list_any}
use Rattle.base.specs.declared.limits.TheConstants.{NAME_MAX}
use Rattle.site_text.specs.declared.fault.ConfFault.{ConfFault}
use Rattle.site_text.specs.declared.fault.ConfFault.TheVariants.{Conflict}
use Rattle.site_text.specs.declared.line.Line.{Line}
use Rattle.site_text.specs.Values.{weight_value, age_value, name_value}
use Rattle.site_text.specs.Forms.{Form, End, one_number, one_text, ignored_form}
use Rattle.site_text.specs.Directives.{FormTable}
use Rattle.daemon_cmds.specs.declared.releaser_conf.Weight.{Weight}
use Rattle.daemon_cmds.specs.declared.releaser_conf.Weight.TheVariants as weights
use Rattle.daemon_cmds.specs.declared.releaser_conf.Setting.{Setting}
use Rattle.daemon_cmds.specs.declared.releaser_conf.Setting.TheVariants as settings
use Rattle.daemon_cmds.specs.declared.releaser_conf.ReleaserReading.{ReleaserReading}
use Rattle.daemon_cmds.specs.declared.releaser_conf.ReleaserReading.TheVariants as readings
use Rattle.daemon_cmds.specs.BarRules.{BarTable, if_so, MayStandAndSays, BarredOrWrong}
use Rattle.daemon_cmds.specs.ReleaserTold.{part_of, given_of, same_part, is_age}

-- ---- the directives

abbrev pub weight_form : Weight → Form ReleaserReading
weight_form weight = one_number weight_value (λ n. readings.Set (settings.Weight weight n))

abbrev pub releaser_forms : FormTable ReleaserReading
releaser_forms =
    (codes "weight_age", weight_form weights.Age)
    ∷ (codes "weight_age_access", weight_form weights.Access)
    ∷ (codes "weight_age_modify", weight_form weights.Modify)
    ∷ (codes "weight_age_residence", weight_form weights.Residence)
    ∷ (codes "weight_size", weight_form weights.Size)
    ∷ (codes "min_residence_age", one_number age_value (λ n. readings.Set (settings.MinResidenceAge n)))
    ∷ (codes "fs", one_text (name_value NAME_MAX) readings.Part)
    ∷ (codes "logfile", ignored_form readings.Nothing)
    ∷ (codes "list_size", ignored_form readings.Nothing)
    ∷ (codes "display_all_candidates", ignored_form readings.Nothing)
    ∷ (codes "debug_partial", ignored_form readings.Nothing)
    ∷ []

-- words that are a line by themselves
abbrev pub word_forms : FormTable ReleaserReading
word_forms =
    (codes "no_release", End (readings.Set settings.NoRelease))
    ∷ (codes "rearch_no_release", End (readings.Set settings.RearchNoRelease))
    ∷ (codes "display_all_candidates", End readings.Nothing)
    ∷ (codes "debug_partial", End readings.Nothing)
    ∷ []

-- ---- weights that exclude each other

abbrev pub is_for_one_age : Weight → Bool
is_for_one_age weights.Access = true
is_for_one_age weights.Modify = true
is_for_one_age weights.Residence = true
is_for_one_age weight = false

abbrev pub sets_weight : (Weight → Bool) → Setting → Bool
sets_weight is (settings.Weight weight n) = is weight
sets_weight is setting = false

-- a line before sets one of these weights in the part in which the next line stands
abbrev pub set_here : (Weight → Bool) → List ReleaserReading → Bool
set_here is before = list_any (λ given. same_part given.part (part_of before) && sets_weight is given.setting) (given_of before)

-- No weight of all ages stands beside one of one age in the same part.
abbrev pub releaser_bars : List ReleaserReading → BarTable
releaser_bars before =
    (codes "weight_age", if_so (set_here is_for_one_age before) Conflict)
    ∷ (codes "weight_age_access", if_so (set_here is_age before) Conflict)
    ∷ (codes "weight_age_modify", if_so (set_here is_age before) Conflict)
    ∷ (codes "weight_age_residence", if_so (set_here is_age before) Conflict)
    ∷ []

-- ---- lines

abbrev pub ReleaserLineSays : List ReleaserReading → Line → ReleaserReading → Type 0
ReleaserLineSays before line said = MayStandAndSays (releaser_bars before) releaser_forms word_forms line.fields said

abbrev pub ReleaserLineWrong : List ReleaserReading → Line → ConfFault → Type 0
ReleaserLineWrong before line fault = BarredOrWrong (releaser_bars before) releaser_forms word_forms line.fields fault
