-- What a line of recycler.cmd says, and what is wrong with one, in a site.
use Rattle.std.specs.Prelude.{◌≡◌, ◌≢◌, ℕ, List, [], ◌∷◌, codes, Some, None, Ok, false, ◌⊎◌}
use Rattle.base.specs.declared.limits.TheConstants.{FIELD_NUMBER_MAX, FIELD_SIZE_MAX}
use Rattle.site_text.specs.declared.fault.ConfFault.{ConfFault}
use Rattle.site_text.specs.declared.line.Line.{Line}
use Rattle.site_text.specs.Fields.{Field, Read, ◌>>=◌}
use Rattle.site_text.specs.Values.{number_value, size_value, media_value, any_value}
use Rattle.site_text.specs.ValueLines.{value_line}
use Rattle.site_text.specs.Forms.{Form, AnyMore, text, ignored_form}
use Rattle.site_text.specs.Directives.{FormTable}
use Rattle.site_text.specs.DirectiveRules.{DirectiveSays, DirectiveWrong}
use Rattle.site_text.specs.Options.{Options, OptionForm, Alone, WithValue, listed}
use Rattle.site_text.specs.OptionRules.{OptionsSay, OptionsWrong}
use Rattle.daemon_cmds.specs.declared.site_conf.Library.{Library}
use Rattle.daemon_cmds.specs.declared.site_conf.SiteConf.{SiteConf}
use Rattle.daemon_cmds.specs.declared.recycler_conf.RecycleOption.{RecycleOption}
use Rattle.daemon_cmds.specs.declared.recycler_conf.RecycleOption.TheVariants as given
use Rattle.daemon_cmds.specs.declared.recycler_conf.RecyclerReading.{RecyclerReading}
use Rattle.daemon_cmds.specs.declared.recycler_conf.RecyclerReading.TheVariants as readings
use Rattle.daemon_cmds.specs.SiteRules.{library_place}

-- ---- lines without a library

-- `no_recycle MEDIA EXPR..`, with one or more patterns, on the line of this number
abbrev pub no_recycle_form : ℕ → Form RecyclerReading
no_recycle_form line = text media_value (λ media. text any_value (λ first. AnyMore (λ others.
    readings.NoRecycle (record { line = line; media = media; patterns = first ∷ others }))))

abbrev pub recycler_words : ℕ → FormTable RecyclerReading
recycler_words line = (codes "no_recycle", no_recycle_form line) ∷ []

-- `logfile = ..`, without effect
abbrev pub recycler_names : FormTable RecyclerReading
recycler_names = (codes "logfile", ignored_form readings.Nothing) ∷ []

-- ---- the options of a library

abbrev pub percent : (ℕ → RecycleOption) → Field → Read RecycleOption
percent says field = number_value 0 100 field >>= λ n. Ok (says n)

abbrev pub any_number : (ℕ → RecycleOption) → Field → Read RecycleOption
any_number says field = number_value 0 FIELD_NUMBER_MAX field >>= λ n. Ok (says n)

abbrev pub any_size : (ℕ → RecycleOption) → Field → Read RecycleOption
any_size says field = size_value 0 FIELD_SIZE_MAX field >>= λ n. Ok (says n)

abbrev pub recycle_table : List (Field × OptionForm RecycleOption)
recycle_table =
    (codes "-hwm", WithValue (percent given.Hwm))
    ∷ (codes "-mingain", WithValue (percent given.MinGain))
    ∷ (codes "-vsncount", WithValue (any_number given.VsnCount))
    ∷ (codes "-dataquantity", WithValue (any_size given.DataQuantity))
    ∷ (codes "-ignore", Alone given.Ignore)
    ∷ (codes "-mail", WithValue (λ field. Ok given.Nothing))
    ∷ []

-- none excludes another
abbrev pub recycle_options : Options RecycleOption
recycle_options = record { option = listed recycle_table; excludes = λ before option. false }

-- ---- lines

-- The line is `LIBRARY OPTIONS`: it is no value line, and its first field, which is not `no_recycle`, names the library at this place.
abbrev pub NamesLibrary : List Library → List Field → ℕ → List Field → Type 0
NamesLibrary libraries fields place rest =
    (name : Field) × (fields ≡ name ∷ rest) × (value_line fields ≡ None) × (name ≢ codes "no_recycle") × (library_place libraries name ≡ Some place)

abbrev pub NamesNone : List Library → List Field → Type 0
NamesNone libraries fields = (place : ℕ) (rest : List Field) → NamesLibrary libraries fields place rest → ⊥

-- It begins with a library of the site, and the fields behind it are options.
pub record LibrarySays (libraries : List Library) (fields : List Field) (said : RecyclerReading) : Type 0 where
  pub place : ℕ
  pub rest : List Field
  pub options : List RecycleOption
  pub begins : NamesLibrary libraries fields place rest
  pub say : OptionsSay recycle_options [] rest options
  pub is : said ≡ readings.Library place options

-- It begins with a library of the site, and one of the fields behind it is the first wrong one.
pub record LibraryWrong (libraries : List Library) (fields : List Field) (fault : ConfFault) : Type 0 where
  pub place : ℕ
  pub rest : List Field
  pub begins : NamesLibrary libraries fields place rest
  pub wrong : OptionsWrong recycle_options [] rest fault

-- the line with this number says this
abbrev pub RecyclerSays : List Library → ℕ → List Field → RecyclerReading → Type 0
RecyclerSays libraries number fields said = LibrarySays libraries fields said
    ⊎ (NamesNone libraries fields × DirectiveSays recycler_names (recycler_words number) fields said)

abbrev pub RecyclerWrong : List Library → ℕ → List Field → ConfFault → Type 0
RecyclerWrong libraries number fields fault = LibraryWrong libraries fields fault
    ⊎ (NamesNone libraries fields × DirectiveWrong recycler_names (recycler_words number) fields fault)

-- What a line says hangs on none before it.
abbrev pub RecyclerLineSays : SiteConf → List RecyclerReading → Line → RecyclerReading → Type 0
RecyclerLineSays site before line said = RecyclerSays site.libraries line.number line.fields said

abbrev pub RecyclerLineWrong : SiteConf → List RecyclerReading → Line → ConfFault → Type 0
RecyclerLineWrong site before line fault = RecyclerWrong site.libraries line.number line.fields fault
