-- What a line of stager.cmd says, and what is wrong with one, in a site.
use Rattle.std.specs.Prelude.{◌==◌, not, ℕ, List, [], ◌∷◌, ◌++◌, ◌^◌, codes, Ok, Bool, ◌&&◌, nat_le, count_by, filter}
use Rattle.std.specs.List.{list_any, slice_split}
use Rattle.std.specs.Str.{byte}
use Rattle.site_text.specs.declared.fault.ConfFault.{ConfFault}
use Rattle.site_text.specs.declared.fault.ConfFault.TheVariants.{BadValue}
use Rattle.site_text.specs.declared.line.Line.{Line}
use Rattle.site_text.specs.Fields.{Field, Read, ◌>>=◌, wanted, refuse_if}
use Rattle.site_text.specs.Numbers.{number_within}
use Rattle.site_text.specs.Values.{number_value}
use Rattle.site_text.specs.Forms.{Form, End, number, one_number, one_list, ignored_form}
use Rattle.site_text.specs.Directives.{FormTable, no_words}
use Rattle.site_text.specs.DirectiveRules.{DirectiveSays, DirectiveWrong}
use Rattle.daemon_cmds.specs.declared.site_conf.Library.{Library}
use Rattle.daemon_cmds.specs.declared.site_conf.SiteConf.{SiteConf}
use Rattle.daemon_cmds.specs.declared.stager_conf.StagerReading.{StagerReading}
use Rattle.daemon_cmds.specs.declared.stager_conf.StagerReading.TheVariants as readings
use Rattle.daemon_cmds.specs.SiteRules.{library_place}

-- the name of a library of the site
unfoldable pub library_value : List Library → Field → Read ℕ
library_value libraries name = wanted (library_place libraries name) BadValue

-- ---- the order of copies

abbrev pub is_colon : ℕ → Bool
is_colon b = b == byte ":"

-- a copy number, 1 to 4
unfoldable pub copy_number : Field → Read ℕ
copy_number field = wanted (number_within 9 1 4 field) BadValue

abbrev pub each_number : List Field → Read (List ℕ)
each_number [] = Ok []
each_number (field ∷ fields) = copy_number field >>= λ copy. each_number fields >>= λ copies. Ok (copy ∷ copies)

-- the numbers of `A:B:..`
unfoldable pub copy_numbers : Field → Read (List ℕ)
copy_numbers field = each_number (slice_split is_colon field)

abbrev pub at_most_once : ℕ → List ℕ → Bool
at_most_once n copies = nat_le (count_by (λ c. c == n) copies) 1

-- none of 1 to 4 stands twice
unfoldable pub none_twice : List ℕ → Bool
none_twice copies = at_most_once 1 copies && at_most_once 2 copies && at_most_once 3 copies && at_most_once 4 copies

abbrev pub is_named : List ℕ → ℕ → Bool
is_named copies n = list_any (λ c. c == n) copies

-- those that are not named follow in order
unfoldable pub completed : List ℕ → List ℕ
completed copies = copies ++ filter (λ n. not (is_named copies n)) (1 ∷ 2 ∷ 3 ∷ 4 ∷ [])

-- the order of copies that `A:B:..` says
unfoldable pub copysel_value : Field → Read (List ℕ)
copysel_value field = copy_numbers field >>= λ copies. refuse_if (not (none_twice copies)) BadValue >>= λ fine. Ok (completed copies)

-- ---- the directives

-- `LIBRARY N`
abbrev pub drives_form : List Library → Form StagerReading
drives_form libraries = number (library_value libraries) (λ library. number (number_value 0 64) (λ drives. End (readings.Drives library drives)))

abbrev pub stager_forms : List Library → FormTable StagerReading
stager_forms libraries =
    (codes "drives", drives_form libraries)
    ∷ (codes "maxactive", one_number (number_value 1 (2 ^ 16)) readings.MaxActive)
    ∷ (codes "copysel", one_list copysel_value readings.CopySel)
    ∷ (codes "bufsize", ignored_form readings.Nothing)
    ∷ (codes "directio", ignored_form readings.Nothing)
    ∷ (codes "logfile", ignored_form readings.Nothing)
    ∷ []

-- ---- lines; what a line says hangs on none before it

abbrev pub StagerLineSays : SiteConf → List StagerReading → Line → StagerReading → Type 0
StagerLineSays site before line said = DirectiveSays (stager_forms site.libraries) no_words line.fields said

abbrev pub StagerLineWrong : SiteConf → List StagerReading → Line → ConfFault → Type 0
StagerLineWrong site before line fault = DirectiveWrong (stager_forms site.libraries) no_words line.fields fault
