-- Criteria and attributes by the words that the code has for them.
use Rattle.std.specs.Prelude.{List, [], ◌∷◌, codes}
use Rattle.base.specs.declared.limits.TheConstants.{NAME_MAX}
use Rattle.site_text.specs.Fields.{Field, Read, map_read}
use Rattle.site_text.specs.Words.{word_value}
use Rattle.site_text.specs.Values.{any_value, age_value, name_value}
use Rattle.archiver_lines.specs.declared.criteria.CriterionWord.{CriterionWord}
use Rattle.archiver_lines.specs.declared.criteria.CriterionWord.TheVariants as words
use Rattle.archiver_lines.specs.declared.criteria.Criterion.{Criterion}
use Rattle.archiver_lines.specs.declared.criteria.Criterion.TheVariants as given
use Rattle.archiver_lines.specs.Limits.{any_size}
use Rattle.archiver_lines.specs.Criteria.{release_words, stage_words}

abbrev pub criterion_words : List (Field × CriterionWord)
criterion_words =
    (codes "-name", words.Name)
    ∷ (codes "-user", words.User)
    ∷ (codes "-group", words.Group)
    ∷ (codes "-minsize", words.Minsize)
    ∷ (codes "-maxsize", words.Maxsize)
    ∷ (codes "-access", words.Access)
    ∷ (codes "-release", words.Release)
    ∷ (codes "-stage", words.Stage)
    ∷ []

-- what each gives with its value
abbrev pub criterion_value : CriterionWord → Field → Read Criterion
criterion_value words.Name field = map_read given.Name (any_value field)
criterion_value words.User field = map_read given.User (name_value NAME_MAX field)
criterion_value words.Group field = map_read given.Group (name_value NAME_MAX field)
criterion_value words.Minsize field = map_read given.Minsize (any_size field)
criterion_value words.Maxsize field = map_read given.Maxsize (any_size field)
criterion_value words.Access field = map_read given.Access (age_value field)
criterion_value words.Release field = map_read given.Release (word_value release_words field)
criterion_value words.Stage field = map_read given.Stage (word_value stage_words field)
