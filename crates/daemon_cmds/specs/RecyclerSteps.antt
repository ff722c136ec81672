-- Reading a line of recycler.cmd in steps, by what the code keeps of the lines before it.
use Rattle.std.specs.Prelude.{ℕ, List, [], ◌∷◌, ◌++◌, codes, fold, slice_get, slice_set, Option, Some, None, Ok, Bool, true, ◌||◌, is_some, option_map, if◌then◌else◌}
use Rattle.std.specs.Str.{bytes_eq}
use Rattle.site_text.specs.declared.line.Line.{Line}
use Rattle.site_text.specs.Fields.{Field, Read, ◌>>=◌}
use Rattle.site_text.specs.ValueLines.{value_line}
use Rattle.site_text.specs.Options.{OptionForm, Alone, WithValue}
use Rattle.site_text.specs.OptionSteps.{options_of}
use Rattle.site_text.specs.DirectiveSteps.{read_directive}
use Rattle.daemon_cmds.specs.declared.site_conf.Library.{Library}
use Rattle.daemon_cmds.specs.declared.site_conf.SiteConf.{SiteConf}
use Rattle.daemon_cmds.specs.declared.recycler_conf.LibraryRecycling.{LibraryRecycling}
use Rattle.daemon_cmds.specs.declared.recycler_conf.RecyclerConf.{RecyclerConf}
use Rattle.daemon_cmds.specs.declared.recycler_conf.RecycleOption.{RecycleOption}
use Rattle.daemon_cmds.specs.declared.recycler_conf.RecycleOption.TheVariants as given
use Rattle.daemon_cmds.specs.declared.recycler_conf.RecyclerReading.{RecyclerReading}
use Rattle.daemon_cmds.specs.declared.recycler_conf.RecyclerReading.TheVariants as readings
use Rattle.daemon_cmds.specs.declared.recycler_lines.RecycleWord.{RecycleWord}
use Rattle.daemon_cmds.specs.declared.recycler_lines.RecycleWord.TheVariants.{Ignore, Valued}
use Rattle.daemon_cmds.specs.declared.recycler_lines.ValuedOption.{ValuedOption}
use Rattle.daemon_cmds.specs.declared.recycler_lines.ValuedOption.TheVariants.{Hwm, MinGain, VsnCount, DataQuantity, Mail}
use Rattle.daemon_cmds.specs.SiteRules.{library_place}
use Rattle.daemon_cmds.specs.RecyclerRules.{percent, any_number, any_size, recycle_options, recycler_names, recycler_words}

-- ---- which library a line begins with

abbrev pub is_no_recycle : Field → Bool
is_no_recycle word = bytes_eq word (codes "no_recycle")

abbrev pub library_in : Option (Field × List Field) → Bool → Option ℕ → List Field → Option (ℕ × List Field)
library_in line other_word place rest = if is_some line || other_word then None else option_map (λ place. (place, rest)) place

-- the place of the library with whose name a line begins, and the fields behind the name
abbrev pub library_at : List Library → List Field → Option (ℕ × List Field)
library_at libraries [] = None
library_at libraries (field ∷ fields) = library_in (value_line (field ∷ fields)) (is_no_recycle field) (library_place libraries field) fields

-- ---- reading a line

abbrev pub library_line : ℕ × List Field → Read RecyclerReading
library_line library = options_of recycle_options [] library.1 >>= λ options. Ok (readings.Library library.0 options)

abbrev pub library_or_other : Option (ℕ × List Field) → Read RecyclerReading → Read RecyclerReading
library_or_other (Some library) other = library_line library
library_or_other None other = other

abbrev pub read_recycler_line : List Library → ℕ → List Field → Read RecyclerReading
read_recycler_line libraries number fields = library_or_other (library_at libraries fields) (read_directive recycler_names (recycler_words number) fields)

abbrev pub recycler_line : SiteConf → List RecyclerReading → Line → Read RecyclerReading
recycler_line site before line = read_recycler_line site.libraries line.number line.fields

-- ---- what the code keeps

-- one option more
abbrev pub with_option : LibraryRecycling → RecycleOption → LibraryRecycling
with_option l (given.Hwm n) = record l { hwm = n }
with_option l (given.MinGain n) = record l { mingain = n }
with_option l (given.VsnCount n) = record l { vsncount = n }
with_option l (given.DataQuantity n) = record l { dataquantity = n }
with_option l given.Ignore = record l { ignore = true }
with_option l given.Nothing = l

abbrev pub with_options : LibraryRecycling → List RecycleOption → LibraryRecycling
with_options l options = fold with_option l options

abbrev pub set_if_there : List LibraryRecycling → ℕ → List RecycleOption → Option LibraryRecycling → List LibraryRecycling
set_if_there libraries place options None = libraries
set_if_there libraries place options (Some l) = slice_set libraries place (with_options l options)

-- one line more
abbrev pub with_recycler_reading : RecyclerConf → RecyclerReading → RecyclerConf
with_recycler_reading conf (readings.Library place options) = record conf { libraries = set_if_there conf.libraries place options (slice_get conf.libraries place) }
with_recycler_reading conf (readings.NoRecycle volumes) = record conf { no_recycle = conf.no_recycle ++ volumes ∷ [] }
with_recycler_reading conf readings.Nothing = conf

-- ---- reading options by the code's own words

abbrev pub recycle_words : List (Field × RecycleWord)
recycle_words =
    (codes "-hwm", Valued Hwm) ∷ (codes "-mingain", Valued MinGain) ∷ (codes "-vsncount", Valued VsnCount)
    ∷ (codes "-dataquantity", Valued DataQuantity) ∷ (codes "-ignore", Ignore) ∷ (codes "-mail", Valued Mail) ∷ []

-- what an option gives with its value
abbrev pub value_of : ValuedOption → Field → Read RecycleOption
value_of Hwm = percent given.Hwm
value_of MinGain = percent given.MinGain
value_of VsnCount = any_number given.VsnCount
value_of DataQuantity = any_size given.DataQuantity
value_of Mail = λ field. Ok given.Nothing

abbrev pub option_form : RecycleWord → OptionForm RecycleOption
option_form Ignore = Alone given.Ignore
option_form (Valued option) = WithValue (value_of option)
