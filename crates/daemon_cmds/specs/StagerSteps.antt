-- Reading a line of stager.cmd in steps, by what the code keeps of the lines before it.
use Rattle.std.specs.Prelude.{ℕ, List, [], ◌∷◌, ◌++◌, ◌^◌, if◌then◌else◌, codes, None, option_map, slice_set}
use Rattle.site_text.specs.declared.line.Line.{Line}
use Rattle.site_text.specs.Fields.{Field, Read}
use Rattle.site_text.specs.Words.{named}
use Rattle.site_text.specs.Values.{number_value}
use Rattle.site_text.specs.Forms.{Form, one_number, one_list, ignored_form}
use Rattle.site_text.specs.Directives.{no_words}
use Rattle.site_text.specs.DirectiveSteps.{Lookup, read_by, read_directive}
use Rattle.daemon_cmds.specs.declared.site_conf.Library.{Library}
use Rattle.daemon_cmds.specs.declared.site_conf.SiteConf.{SiteConf}
use Rattle.daemon_cmds.specs.declared.stager_conf.StagerConf.{StagerConf}
use Rattle.daemon_cmds.specs.declared.stager_conf.StagerReading.{StagerReading}
use Rattle.daemon_cmds.specs.declared.stager_conf.StagerReading.TheVariants as readings
use Rattle.daemon_cmds.specs.declared.stager_lines.StagerDirective.{StagerDirective}
use Rattle.daemon_cmds.specs.declared.stager_lines.StagerDirective.TheVariants.{Drives, MaxActive, CopySel, Ignored}
use Rattle.daemon_cmds.specs.StagerRules.{is_named, copysel_value, drives_form, stager_forms}

-- reading a line by the table
abbrev pub stager_line : SiteConf → List StagerReading → Line → Read StagerReading
stager_line site before line = read_directive (stager_forms site.libraries) no_words line.fields

-- a copy that is not named follows
abbrev pub with_copy : List ℕ → ℕ → List ℕ
with_copy copies n = if is_named copies n then copies else copies ++ n ∷ []

-- one line more
abbrev pub with_stager_reading : StagerConf → StagerReading → StagerConf
with_stager_reading conf (readings.Drives library n) = record conf { drives = slice_set conf.drives library n }
with_stager_reading conf (readings.MaxActive n) = record conf { maxactive = n }
with_stager_reading conf (readings.CopySel copies) = record conf { copysel = copies }
with_stager_reading conf readings.Nothing = conf

-- ---- reading by the code's own words

abbrev pub stager_words : List (Field × StagerDirective)
stager_words =
    (codes "drives", Drives) ∷ (codes "maxactive", MaxActive) ∷ (codes "copysel", CopySel)
    ∷ (codes "bufsize", Ignored) ∷ (codes "directio", Ignored) ∷ (codes "logfile", Ignored) ∷ []

abbrev pub form_of : List Library → StagerDirective → Form StagerReading
form_of libraries Drives = drives_form libraries
form_of libraries MaxActive = one_number (number_value 1 (2 ^ 16)) readings.MaxActive
form_of libraries CopySel = one_list copysel_value readings.CopySel
form_of libraries Ignored = ignored_form readings.Nothing

abbrev pub form_by_word : List Library → Lookup StagerReading
form_by_word libraries name = option_map (form_of libraries) (named stager_words name)

abbrev pub none_by_word : Lookup StagerReading
none_by_word word = None

abbrev pub line_by_words : List Library → List Field → Read StagerReading
line_by_words libraries fields = read_by (form_by_word libraries) none_by_word fields
