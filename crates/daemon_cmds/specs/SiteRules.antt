-- What a line of site.conf says, and what is wrong with one, behind lines that said these readings.
use Rattle.std.specs.Prelude.{ℕ, ◌*◌, ◌^◌, not, List, [], ◌∷◌, codes, length, position, Option, Some, None, Ok, Bool, false, is_some, nat_lt, nat_le}
use Rattle.std.specs.List.{list_any}
use Rattle.std.specs.Str.{bytes_eq}
use Rattle.base.specs.declared.limits.TheConstants.{CACHE_BLOCKS_MAX, NAME_MAX, VOLUME_COUNT_MAX}
use Rattle.site_text.specs.declared.fault.ConfFault.{ConfFault}
use Rattle.site_text.specs.declared.fault.ConfFault.TheVariants.{BadValue, TooMany, Conflict, Duplicate}
use Rattle.site_text.specs.declared.line.Line.{Line}
use Rattle.site_text.specs.Fields.{Field, Read, ◌>>=◌, wanted, refuse_if}
use Rattle.site_text.specs.Values.{number_value, multiple_value, name_value, media_value, is_name}
use Rattle.site_text.specs.Forms.{Form, End, number, text, one_number, one_text}
use Rattle.site_text.specs.Directives.{FormTable, no_words}
use Rattle.daemon_cmds.specs.declared.site_conf.Library.{Library}
use Rattle.daemon_cmds.specs.declared.site_conf.Volume.{Volume}
use Rattle.daemon_cmds.specs.declared.site_conf.SiteReading.{SiteReading}
use Rattle.daemon_cmds.specs.declared.site_conf.SiteReading.TheVariants as readings
use Rattle.daemon_cmds.specs.BarRules.{BarTable, if_so, MayStandAndSays, BarredOrWrong}
use Rattle.daemon_cmds.specs.SiteTold.{name_of, cache_of, high_of, low_of, libraries_of, volumes_of}

-- ---- kinds of fields that hang on the lines before

-- the place of the library of this name, from 0, if there is one
abbrev pub library_place : List Library → Field → Option ℕ
library_place libraries name = position (λ l. bytes_eq l.name name) libraries

-- a name of at most 32 bytes that no library so far has
unfoldable pub new_library : List Library → Field → Read Field
new_library libraries name = refuse_if (not (is_name NAME_MAX name)) BadValue >>= λ fine. refuse_if (is_some (library_place libraries name)) Duplicate >>= λ fresh. Ok name

-- a name that a library so far has
unfoldable pub known_library : List Library → Field → Read ℕ
known_library libraries name = refuse_if (not (is_name NAME_MAX name)) BadValue >>= λ fine. wanted (library_place libraries name) Conflict

abbrev pub has_vsn : List Volume → Field → Bool
has_vsn volumes vsn = list_any (λ v. bytes_eq v.vsn vsn) volumes

-- a VSN of at most 32 bytes that no volume so far has
unfoldable pub new_vsn : List Volume → Field → Read Field
new_vsn volumes vsn = refuse_if (not (is_name NAME_MAX vsn)) BadValue >>= λ fine. refuse_if (has_vsn volumes vsn) Duplicate >>= λ fresh. Ok vsn

-- a low mark is given, and is above this high mark
abbrev pub low_above : Option ℕ → ℕ → Bool
low_above None high = false
low_above (Some low) high = nat_lt high low

-- a high mark is given, and this low mark is above it
abbrev pub above_high : Option ℕ → ℕ → Bool
above_high None low = false
above_high (Some high) low = nat_lt high low

-- percent, and not below the low mark so far
unfoldable pub high_value : Option ℕ → Field → Read ℕ
high_value low field = number_value 0 100 field >>= λ n. refuse_if (low_above low n) Conflict >>= λ fine. Ok n

-- percent, and not above the high mark so far
unfoldable pub low_value : Option ℕ → Field → Read ℕ
low_value high field = number_value 0 100 field >>= λ n. refuse_if (above_high high n) Conflict >>= λ fine. Ok n

-- ---- the directives

-- `NAME DRIVES`
abbrev pub library_form : List Library → Form SiteReading
library_form libraries = text (new_library libraries) (λ name. number (number_value 1 64) (λ drives.
    End (readings.Library (record { name = name; drives = drives }))))

-- `LIBRARY MEDIA VSN CAPACITY`
abbrev pub volume_form : List Library → List Volume → Form SiteReading
volume_form libraries volumes = number (known_library libraries) (λ library. text media_value (λ media. text (new_vsn volumes) (λ vsn.
    number (multiple_value 512 512 (2 ^ 45)) (λ capacity. End (readings.Volume (record { library = library; media = media; vsn = vsn; capacity = capacity }))))))

abbrev pub site_forms : List SiteReading → FormTable SiteReading
site_forms before =
    (codes "fs", one_text (name_value NAME_MAX) readings.FileSystem)
    ∷ (codes "cache", one_number (multiple_value 4096 4096 (CACHE_BLOCKS_MAX * 4096)) readings.Cache)
    ∷ (codes "high", one_number (high_value (low_of before)) readings.High)
    ∷ (codes "low", one_number (low_value (high_of before)) readings.Low)
    ∷ (codes "library", library_form (libraries_of before))
    ∷ (codes "volume", volume_form (libraries_of before) (volumes_of before))
    ∷ []

-- The first four stand once. There are at most 64 libraries and 1,024 volumes.
abbrev pub site_bars : List SiteReading → BarTable
site_bars before =
    (codes "fs", if_so (is_some (name_of before)) Duplicate)
    ∷ (codes "cache", if_so (is_some (cache_of before)) Duplicate)
    ∷ (codes "high", if_so (is_some (high_of before)) Duplicate)
    ∷ (codes "low", if_so (is_some (low_of before)) Duplicate)
    ∷ (codes "library", if_so (nat_le 64 (length (libraries_of before))) TooMany)
    ∷ (codes "volume", if_so (nat_le VOLUME_COUNT_MAX (length (volumes_of before))) TooMany)
    ∷ []

-- ---- lines

abbrev pub SiteLineSays : List SiteReading → Line → SiteReading → Type 0
SiteLineSays before line said = MayStandAndSays (site_bars before) (site_forms before) no_words line.fields said

abbrev pub SiteLineWrong : List SiteReading → Line → ConfFault → Type 0
SiteLineWrong before line fault = BarredOrWrong (site_bars before) (site_forms before) no_words line.fields fault
