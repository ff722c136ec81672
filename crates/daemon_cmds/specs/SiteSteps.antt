-- Reading a line of site.conf in steps, by what the code keeps of the lines before it.
use Rattle.std.specs.Prelude.{◌≡◌, ◌*◌, List, [], ◌∷◌, ◌++◌, codes, length, Option, Some, None, is_some, nat_le, option_map, option_and_then}
use Rattle.base.specs.declared.limits.TheConstants.{CACHE_BLOCKS_MAX, NAME_MAX, VOLUME_COUNT_MAX}
use Rattle.site_text.specs.declared.fault.ConfFault.{ConfFault}
use Rattle.site_text.specs.declared.fault.ConfFault.TheVariants.{TooMany, Duplicate}
use Rattle.site_text.specs.declared.line.Line.{Line}
use Rattle.site_text.specs.Fields.{Field, Read}
use Rattle.site_text.specs.Words.{named}
use Rattle.site_text.specs.Values.{multiple_value, name_value}
use Rattle.site_text.specs.Forms.{Form, one_number, one_text}
use Rattle.site_text.specs.Directives.{no_words}
use Rattle.site_text.specs.DirectiveSteps.{Lookup}
use Rattle.daemon_cmds.specs.declared.site_conf.SiteSoFar.{SiteSoFar}
use Rattle.daemon_cmds.specs.declared.site_conf.SiteReading.{SiteReading}
use Rattle.daemon_cmds.specs.declared.site_conf.SiteReading.TheVariants as readings
use Rattle.daemon_cmds.specs.declared.site_lines.SiteDirective.{SiteDirective}
use Rattle.daemon_cmds.specs.declared.site_lines.SiteDirective.TheVariants.{FileSystem, Cache, High, Low, Library, Volume}
use Rattle.daemon_cmds.specs.BarRules.{if_so}
use Rattle.daemon_cmds.specs.BarSteps.{read_unless_barred, read_unless_barred_by}
use Rattle.daemon_cmds.specs.SiteTold.{name_of, cache_of, high_of, low_of, libraries_of, volumes_of}
use Rattle.daemon_cmds.specs.SiteRules.{high_value, low_value, library_form, volume_form, site_forms, site_bars}

-- reading a line by the tables
abbrev pub site_line : List SiteReading → Line → Read SiteReading
site_line before line = read_unless_barred (site_bars before) (site_forms before) no_words line.fields

-- ---- what the code keeps

-- what lines that said these readings told
abbrev pub site_so_far : List SiteReading → SiteSoFar
site_so_far said = record { name = name_of said; cache = cache_of said; high = high_of said; low = low_of said; libraries = libraries_of said; volumes = volumes_of said }

abbrev pub KnowsSite : List SiteReading → SiteSoFar → Type 0
KnowsSite said known = known ≡ site_so_far said

-- one line more
abbrev pub with_site_reading : SiteSoFar → SiteReading → SiteSoFar
with_site_reading known (readings.FileSystem name) = record known { name = Some name }
with_site_reading known (readings.Cache size) = record known { cache = Some size }
with_site_reading known (readings.High mark) = record known { high = Some mark }
with_site_reading known (readings.Low mark) = record known { low = Some mark }
with_site_reading known (readings.Library library) = record known { libraries = known.libraries ++ library ∷ [] }
with_site_reading known (readings.Volume volume) = record known { volumes = known.volumes ++ volume ∷ [] }

-- ---- reading by the code's own words

abbrev pub site_words : List (Field × SiteDirective)
site_words =
    (codes "fs", FileSystem) ∷ (codes "cache", Cache) ∷ (codes "high", High) ∷ (codes "low", Low)
    ∷ (codes "library", Library) ∷ (codes "volume", Volume) ∷ []

abbrev pub form_of : SiteSoFar → SiteDirective → Form SiteReading
form_of known FileSystem = one_text (name_value NAME_MAX) readings.FileSystem
form_of known Cache = one_number (multiple_value 4096 4096 (CACHE_BLOCKS_MAX * 4096)) readings.Cache
form_of known High = one_number (high_value known.low) readings.High
form_of known Low = one_number (low_value known.high) readings.Low
form_of known Library = library_form known.libraries
form_of known Volume = volume_form known.libraries known.volumes

abbrev pub bar_of : SiteSoFar → SiteDirective → Option ConfFault
bar_of known FileSystem = if_so (is_some known.name) Duplicate
bar_of known Cache = if_so (is_some known.cache) Duplicate
bar_of known High = if_so (is_some known.high) Duplicate
bar_of known Low = if_so (is_some known.low) Duplicate
bar_of known Library = if_so (nat_le 64 (length known.libraries)) TooMany
bar_of known Volume = if_so (nat_le VOLUME_COUNT_MAX (length known.volumes)) TooMany

abbrev pub form_by_word : SiteSoFar → Lookup SiteReading
form_by_word known name = option_map (form_of known) (named site_words name)

abbrev pub bar_by_word : SiteSoFar → Field → Option ConfFault
bar_by_word known name = option_and_then (bar_of known) (named site_words name)

abbrev pub none_by_word : Lookup SiteReading
none_by_word word = None

abbrev pub line_by_words : SiteSoFar → List Field → Read SiteReading
line_by_words known fields = read_unless_barred_by (bar_by_word known) (form_by_word known) none_by_word fields
