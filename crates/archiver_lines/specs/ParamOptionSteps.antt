-- The options of params by the words that the code has for them.
use Rattle.std.specs.Prelude.{List, [], ◌∷◌, codes, true, false}
use Rattle.base.specs.declared.limits.TheConstants.{FIELD_NUMBER_MAX}
use Rattle.site_text.specs.Fields.{Field, Read, map_read}
use Rattle.site_text.specs.Words.{option_named, word_value}
use Rattle.site_text.specs.Values.{any_value, age_value, number_value}
use Rattle.site_text.specs.Options.{OptionForm, Alone, WithValue}
use Rattle.archiver_lines.specs.declared.param_options.ValuedOption.{ValuedOption}
use Rattle.archiver_lines.specs.declared.param_options.ValuedOption.TheVariants as options
use Rattle.archiver_lines.specs.declared.param_options.ParamOption.{ParamOption}
use Rattle.archiver_lines.specs.declared.param_options.ParamOption.TheVariants as listed
use Rattle.archiver_lines.specs.declared.param_options.Given.{Given}
use Rattle.archiver_lines.specs.declared.param_options.Given.TheVariants as given
use Rattle.archiver_lines.specs.Limits.{any_number, any_size}
use Rattle.archiver_lines.specs.ParamOptions.{join_words, sort_words, reserve_words, unarchage_words, sort_by}

abbrev pub option_words : List (Field × ParamOption)
option_words =
    (codes "-archmax", listed.Valued options.Archmax)
    ∷ (codes "-fillvsns", listed.Alone given.Fillvsns)
    ∷ (codes "-join", listed.Valued options.Join)
    ∷ (codes "-sort", listed.Valued options.Sort)
    ∷ (codes "-rsort", listed.Valued options.Rsort)
    ∷ (codes "-reserve", listed.Valued options.Reserve)
    ∷ (codes "-ovflmin", listed.Valued options.Ovflmin)
    ∷ (codes "-startage", listed.Valued options.Startage)
    ∷ (codes "-startcount", listed.Valued options.Startcount)
    ∷ (codes "-startsize", listed.Valued options.Startsize)
    ∷ (codes "-unarchage", listed.Valued options.Unarchage)
    ∷ (codes "-recycle_hwm", listed.Valued options.RecycleHwm)
    ∷ (codes "-recycle_mingain", listed.Valued options.RecycleMingain)
    ∷ (codes "-recycle_vsncount", listed.Valued options.RecycleVsncount)
    ∷ (codes "-recycle_dataquantity", listed.Valued options.RecycleDataquantity)
    ∷ (codes "-recycle_ignore", listed.Alone given.RecycleIgnore)
    ∷ (codes "-lock", listed.Alone given.Nothing)
    ∷ (codes "-tapenonstop", listed.Alone given.Nothing)
    ∷ (codes "-bufsize", listed.Valued options.AnyNumber)
    ∷ (codes "-recycle_mailaddr", listed.Valued options.AnyWord)
    ∷ (codes "-drives", listed.Valued options.AnyNumber)
    ∷ (codes "-drivemin", listed.Valued options.AnySize)
    ∷ (codes "-drivemax", listed.Valued options.AnySize)
    ∷ []

-- the option that a field is in the table
unfoldable pub listed_word : Field → Read ParamOption
listed_word field = option_named option_words field

-- what each gives with its value
abbrev pub option_value : ValuedOption → Field → Read Given
option_value options.Archmax field = map_read given.Archmax (any_size field)
option_value options.Join field = map_read given.Join (word_value join_words field)
option_value options.Sort field = map_read (λ key. sort_by key false) (word_value sort_words field)
option_value options.Rsort field = map_read (λ key. sort_by key true) (word_value sort_words field)
option_value options.Reserve field = map_read given.Reserve (word_value reserve_words field)
option_value options.Ovflmin field = map_read given.Ovflmin (any_size field)
option_value options.Startage field = map_read given.Startage (age_value field)
option_value options.Startcount field = map_read given.Startcount (number_value 1 FIELD_NUMBER_MAX field)
option_value options.Startsize field = map_read given.Startsize (any_size field)
option_value options.Unarchage field = map_read given.Unarchage (word_value unarchage_words field)
option_value options.RecycleHwm field = map_read given.RecycleHwm (number_value 0 100 field)
option_value options.RecycleMingain field = map_read given.RecycleMingain (number_value 0 100 field)
option_value options.RecycleVsncount field = map_read given.RecycleVsncount (any_number field)
option_value options.RecycleDataquantity field = map_read given.RecycleDataquantity (any_size field)
option_value options.AnyNumber field = map_read (λ value. given.Nothing) (any_number field)
option_value options.AnySize field = map_read (λ value. given.Nothing) (any_size field)
option_value options.AnyWord field = map_read (λ value. given.Nothing) (any_value field)

-- the form of an option of the code's table
abbrev pub form_of : ParamOption → OptionForm Given
form_of (listed.Alone gives) = Alone gives
form_of (listed.Valued option) = WithValue (option_value option)
