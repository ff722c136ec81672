-- What the five command files say, and the first that is refused, read in steps: each file line after line.
use Rattle.std.specs.Prelude.{◌≡◌, ℕ, ◌/◌, nat_le, Bool, ◌&&◌, List, length, Option, Some, None, Result, Ok, Err}
use Rattle.base.specs.declared.limits.TheConstants.{COMMAND_FILE_MAX}
use Rattle.site_text.specs.declared.fault.ConfRefusal.{ConfRefusal}
use Rattle.site_text.specs.FileSteps.{file_reading}
use Rattle.site_text.specs.FileRules.{no_section}
use Rattle.daemon_cmds.specs.declared.site_conf.SiteConf.{SiteConf}
use Rattle.daemon_cmds.specs.declared.site_conf.SiteReading.{SiteReading}
use Rattle.daemon_cmds.specs.declared.stager_conf.StagerReading.{StagerReading}
use Rattle.daemon_cmds.specs.declared.releaser_conf.ReleaserReading.{ReleaserReading}
use Rattle.daemon_cmds.specs.declared.recycler_conf.RecyclerReading.{RecyclerReading}
use Rattle.daemon_cmds.specs.SiteSteps.{site_line}
use Rattle.daemon_cmds.specs.SiteTold.{default_cache}
use Rattle.daemon_cmds.specs.StagerSteps.{stager_line}
use Rattle.daemon_cmds.specs.ReleaserSteps.{releaser_line}
use Rattle.daemon_cmds.specs.RecyclerSteps.{recycler_line}
use Rattle.archiver_lines.specs.declared.reading.Reading.{Reading}
use Rattle.archiver_lines.specs.LineSteps.{line_of}
use Rattle.archiver_lines.specs.Told.{open_line}
use Rattle.site_types.specs.declared.file.SiteTexts.{SiteTexts}
use Rattle.site_events.specs.declared.reply.CommandFile.{CommandFile}
use Rattle.site_events.specs.declared.reply.CommandFile.TheVariants.{Site, Archiver, Stager, Releaser, Recycler}
use Rattle.configuration.specs.declared.read.FileRefusal.{FileRefusal}
use Rattle.site_text.specs.declared.fault.ConfError.{ConfError}
use Rattle.site_text.specs.declared.fault.ConfError.TheVariants as faults
use Rattle.configuration.specs.declared.read.ConfigurationError.{ConfigurationError}
use Rattle.configuration.specs.declared.read.ConfigurationError.TheVariants.{Refused, NoMemory}
use Rattle.configuration.specs.ConfigurationRules.{site_told}

-- ---- how long the texts are

-- a command file has at most 65,536 bytes
abbrev pub is_within : List ℕ → Bool
is_within text = nat_le (length text) COMMAND_FILE_MAX

abbrev pub are_within : SiteTexts → Bool
are_within texts = is_within texts.site && is_within texts.archiver && is_within texts.stager && is_within texts.releaser && is_within texts.recycler

-- ---- each file, read line after line

unfoldable pub site_reading : List ℕ → Result (List SiteReading) ConfRefusal
site_reading text = file_reading site_line no_section text

-- the other files stand on the site
unfoldable pub archiver_reading : SiteConf → List ℕ → Result (List Reading) ConfRefusal
archiver_reading site text = file_reading (line_of site.name) open_line text

unfoldable pub stager_reading : SiteConf → List ℕ → Result (List StagerReading) ConfRefusal
stager_reading site text = file_reading (stager_line site) no_section text

unfoldable pub releaser_reading : List ℕ → Result (List ReleaserReading) ConfRefusal
releaser_reading text = file_reading releaser_line no_section text

unfoldable pub recycler_reading : SiteConf → List ℕ → Result (List RecyclerReading) ConfRefusal
recycler_reading site text = file_reading (recycler_line site) no_section text

-- ---- the first file that is refused, in the order site, archiver, stager, releaser, recycler

abbrev pub refusal_in : {A : Type 0} → CommandFile → Result A ConfRefusal → Option FileRefusal
refusal_in file (Ok said) = None
refusal_in file (Err refusal) = Some (record { file = file; line = refusal.line; fault = refusal.fault })

abbrev pub first_of : Option FileRefusal → Option FileRefusal → Option FileRefusal
first_of (Some refusal) other = Some refusal
first_of None other = other

abbrev pub refusal_within : SiteConf → SiteTexts → Option FileRefusal
refusal_within site texts =
    first_of (refusal_in Archiver (archiver_reading site texts.archiver))
    (first_of (refusal_in Stager (stager_reading site texts.stager))
    (first_of (refusal_in Releaser (releaser_reading texts.releaser))
    (refusal_in Recycler (recycler_reading site texts.recycler))))

abbrev pub refusal_by : Result (List SiteReading) ConfRefusal → SiteTexts → Option FileRefusal
refusal_by (Err refusal) texts = refusal_in {A = List SiteReading} Site (Err refusal)
refusal_by (Ok said) texts = refusal_within (site_told said) texts

unfoldable pub refusal_of : SiteTexts → Option FileRefusal
refusal_of texts = refusal_by (site_reading texts.site) texts

-- ---- the cache

-- that of the site that lines tell; of a site.conf that is refused the default one
abbrev pub cache_by : Result (List SiteReading) ConfRefusal → ℕ
cache_by (Ok said) = (site_told said).cache
cache_by (Err refusal) = default_cache

-- how many blocks of 4,096 bytes the cache of these texts has
unfoldable pub blocks_of : SiteTexts → ℕ
blocks_of texts = cache_by (site_reading texts.site) / 4096

-- ---- what the reader answers

-- reading in steps tells this refusal; want of memory may come at any text
abbrev pub TellsRefusal : SiteTexts → ConfigurationError → Type 0
TellsRefusal texts (Refused refusal) = refusal_of texts ≡ Some refusal
TellsRefusal texts NoMemory = Unit {0}

-- what was read of a file; what is wrong is told with the file
abbrev pub in_file : {C : Type 0} → CommandFile → Result C ConfError → Result C ConfigurationError
in_file file (Ok conf) = Ok conf
in_file file (Err (faults.Refused refusal)) = Err (Refused (record { file = file; line = refusal.line; fault = refusal.fault }))
in_file file (Err faults.NoMemory) = Err NoMemory
