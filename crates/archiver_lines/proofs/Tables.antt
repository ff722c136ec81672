-- The code's tables of words are those of what the words mean.
use Rattle.std.proofs.Common.{◌≡◌, List, None, refl, sym}
use Rattle.std.specs.Prelude.{option_map}
use Rattle.site_text.specs.Fields.{Field, map_read}
use Rattle.site_text.specs.Words.{named, standing_for, option_named}
use Rattle.site_text.specs.Options.{OptionForm, WithValue, listed}
use Rattle.site_text.specs.Directives.{no_words}
use Rattle.site_text.specs.DirectiveSteps.{Lookup, read_by, read_directive}
use Rattle.site_text.proofs.TableLaws.{named_stands, option_stands}
use Rattle.site_text.proofs.FormLaws.{read_same}
use Rattle.archiver_lines.specs.declared.reading.Reading.{Reading}
use Rattle.archiver_lines.specs.declared.criteria.Criterion.{Criterion}
use Rattle.archiver_lines.specs.declared.criteria.CriterionWord.{CriterionWord}
use Rattle.archiver_lines.specs.Criteria.{criteria}
use Rattle.archiver_lines.specs.CriteriaSteps.{criterion_words, criterion_value}
use Rattle.archiver_lines.specs.ParamOptions.{param_options, listed_option}
use Rattle.archiver_lines.specs.ParamOptionSteps.{option_words, listed_word, form_of}
use Rattle.archiver_lines.specs.ValueForms.{value_names}
use Rattle.archiver_lines.specs.ValueSteps.{directives, form_of as directive_form}

-- ---- criteria

abbrev pub criterion_form : CriterionWord → OptionForm Criterion
criterion_form word = WithValue (criterion_value word)

same_criteria : criteria ≡ standing_for criterion_form criterion_words
same_criteria = refl

pub criterion_found : (field : Field) → listed criteria field ≡ map_read criterion_form (option_named criterion_words field)
criterion_found field = option_stands criterion_form criterion_words field

-- ---- options of params

same_options : param_options ≡ standing_for form_of option_words
same_options = refl

pub option_found : (field : Field) → listed_option field ≡ map_read form_of (listed_word field)
unfolding listed_option listed_word
option_found field = option_stands form_of option_words field

-- ---- value lines

abbrev pub by_word : Lookup Reading
by_word name = option_map directive_form (named directives name)

abbrev pub no_word : Lookup Reading
no_word word = None

name_found : (name : Field) → by_word name ≡ named value_names name
name_found name = sym (named_stands directive_form directives name)

pub directive_found : (fields : List Field) → read_by by_word no_word fields ≡ read_directive value_names no_words fields
directive_found fields = read_same by_word no_word (named value_names) (named no_words) name_found (λ word. refl) fields
