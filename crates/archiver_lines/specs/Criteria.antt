-- The criteria and attributes of an assignment.
use Rattle.std.specs.Prelude.{List, [], ◌∷◌, codes, false}
use Rattle.base.specs.declared.limits.TheConstants.{NAME_MAX}
use Rattle.site_text.specs.Fields.{Field, Read, map_read}
use Rattle.site_text.specs.Words.{word_value}
use Rattle.site_text.specs.Values.{any_value, age_value, name_value}
use Rattle.site_text.specs.Options.{Options, OptionForm, WithValue, listed}
use Rattle.archiver_lines.specs.declared.criteria.Criterion.{Criterion}
use Rattle.archiver_lines.specs.declared.criteria.Criterion.TheVariants as given
use Rattle.archiver_lines.specs.declared.criteria.Release.{Release}
use Rattle.archiver_lines.specs.declared.criteria.Release.TheVariants as releases
use Rattle.archiver_lines.specs.declared.criteria.Stage.{Stage}
use Rattle.archiver_lines.specs.declared.criteria.Stage.TheVariants as stages
use Rattle.archiver_lines.specs.Limits.{any_size}

abbrev pub release_words : List (Field × Release)
release_words = (codes "n", releases.Never) ∷ (codes "a", releases.AtOnce) ∷ (codes "p", releases.Partial) ∷ (codes "d", releases.Default) ∷ []

abbrev pub stage_words : List (Field × Stage)
stage_words = (codes "n", stages.Never) ∷ (codes "a", stages.Associative) ∷ (codes "d", stages.Default) ∷ []

-- one that takes a value of a kind, and what it gives with it
abbrev pub valued : {A : Type 0} → (A → Criterion) → (Field → Read A) → OptionForm Criterion
valued gives kind = WithValue (λ field. map_read gives (kind field))

abbrev pub criteria : List (Field × OptionForm Criterion)
criteria =
    (codes "-name", valued given.Name any_value)
    ∷ (codes "-user", valued given.User (name_value NAME_MAX))
    ∷ (codes "-group", valued given.Group (name_value NAME_MAX))
    ∷ (codes "-minsize", valued given.Minsize any_size)
    ∷ (codes "-maxsize", valued given.Maxsize any_size)
    ∷ (codes "-access", valued given.Access age_value)
    ∷ (codes "-release", valued given.Release (word_value release_words))
    ∷ (codes "-stage", valued given.Stage (word_value stage_words))
    ∷ []

-- none excludes another
abbrev pub criteria_table : Options Criterion
criteria_table = record { option = listed criteria; excludes = λ before given. false }
