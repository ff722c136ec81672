-- What the five command files of a site say, and which of them is the first that is wrong: apart from any order of reading.
use Rattle.std.specs.Prelude.{◌≡◌, ℕ, ◌≤◌, List, length, Option, Result, Ok, Err, unwrap_or}
use Rattle.base.specs.declared.limits.TheConstants.{COMMAND_FILE_MAX}
use Rattle.site_text.specs.declared.line.Line.{Line}
use Rattle.site_text.specs.declared.fault.ConfFault.{ConfFault}
use Rattle.site_text.specs.declared.fault.ConfRefusal.{ConfRefusal}
use Rattle.site_text.specs.FileRules.{FileSays, FileWrong, no_section}
use Rattle.daemon_cmds.specs.declared.site_conf.SiteConf.{SiteConf}
use Rattle.daemon_cmds.specs.declared.site_conf.SiteReading.{SiteReading}
use Rattle.daemon_cmds.specs.declared.stager_conf.StagerReading.{StagerReading}
use Rattle.daemon_cmds.specs.declared.releaser_conf.ReleaserReading.{ReleaserReading}
use Rattle.daemon_cmds.specs.declared.recycler_conf.RecyclerReading.{RecyclerReading}
use Rattle.daemon_cmds.specs.SiteRules.{SiteLineSays, SiteLineWrong}
use Rattle.daemon_cmds.specs.StagerRules.{StagerLineSays, StagerLineWrong}
use Rattle.daemon_cmds.specs.StagerTold.{TellsStager}
use Rattle.daemon_cmds.specs.ReleaserRules.{ReleaserLineSays, ReleaserLineWrong}
use Rattle.daemon_cmds.specs.ReleaserTold.{TellsReleaser}
use Rattle.daemon_cmds.specs.RecyclerRules.{RecyclerLineSays, RecyclerLineWrong}
use Rattle.daemon_cmds.specs.RecyclerTold.{TellsRecycler}
use Rattle.archiver_lines.specs.declared.reading.Reading.{Reading}
use Rattle.archiver_lines.specs.LineRules.{LineSays, LineWrong}
use Rattle.archiver_lines.specs.Told.{open_line}
use Rattle.archiver_cmd.specs.Conf.{Tells}
use Rattle.site_types.specs.declared.file.SiteTexts.{SiteTexts}
use Rattle.site_events.specs.declared.reply.CommandFile.{CommandFile}
use Rattle.site_events.specs.declared.reply.CommandFile.TheVariants.{Site, Archiver, Stager, Releaser, Recycler}
use Rattle.configuration.specs.declared.read.FileRefusal.{FileRefusal}
use Rattle.configuration.specs.declared.read.Configuration.{Configuration}
use Rattle.configuration.specs.declared.read.ConfigurationError.{ConfigurationError}
use Rattle.configuration.specs.declared.read.ConfigurationError.TheVariants.{Refused, NoMemory}
use Rattle.daemon_cmds.specs.SiteTold.{name_of, cache_of, high_of, low_of, libraries_of, volumes_of, default_name, default_cache, default_high, default_low}

-- a command file has at most 65,536 bytes
abbrev pub IsWithin : List ℕ → Type 0
IsWithin text = length text ≤ COMMAND_FILE_MAX

abbrev pub AreWithin : SiteTexts → Type 0
AreWithin texts = IsWithin texts.site × IsWithin texts.archiver × IsWithin texts.stager × IsWithin texts.releaser × IsWithin texts.recycler

-- ---- what the texts say

-- The site that the lines of its site.conf tell, each directive with its default where none of them gives it.
abbrev pub site_told : List SiteReading → SiteConf
site_told said = record {
  name = unwrap_or (name_of said) default_name;
  cache = unwrap_or (cache_of said) default_cache;
  high = unwrap_or (high_of said) default_high;
  low = unwrap_or (low_of said) default_low;
  libraries = libraries_of said;
  volumes = volumes_of said;
}

-- what the lines of the five files say
pub record Readings : Type 0 where
  pub site : List SiteReading
  pub archiver : List Reading
  pub stager : List StagerReading
  pub releaser : List ReleaserReading
  pub recycler : List RecyclerReading

-- The texts say these readings: each file its own, in the site of the first.
pub record SayReadings (texts : SiteTexts) (readings : Readings) : Type 0 where
  pub site : FileSays SiteLineSays no_section texts.site readings.site
  pub archiver : FileSays (LineSays (site_told readings.site).name) open_line texts.archiver readings.archiver
  pub stager : FileSays (StagerLineSays (site_told readings.site)) no_section texts.stager readings.stager
  pub releaser : FileSays ReleaserLineSays no_section texts.releaser readings.releaser
  pub recycler : FileSays (RecyclerLineSays (site_told readings.site)) no_section texts.recycler readings.recycler

-- The readings tell this configuration.
pub record TellReadings (readings : Readings) (configuration : Configuration) : Type 0 where
  pub site : configuration.site ≡ site_told readings.site
  pub archiver : Tells (site_told readings.site).name readings.archiver configuration.archiver
  pub stager : TellsStager (site_told readings.site) readings.stager configuration.stager
  pub releaser : TellsReleaser (site_told readings.site) readings.releaser configuration.releaser
  pub recycler : TellsRecycler (site_told readings.site) readings.recycler configuration.recycler

-- The texts say this configuration.
abbrev pub Says : SiteTexts → Configuration → Type 0
Says texts configuration = (readings : Readings) × SayReadings texts readings × TellReadings readings configuration

-- ---- what is wrong

abbrev pub refusal_at : FileRefusal → ConfRefusal
refusal_at refusal = record { line = refusal.line; fault = refusal.fault }

-- the site.conf says this site
abbrev pub SaysSite : SiteTexts → SiteConf → Type 0
SaysSite texts site = (said : List SiteReading) × FileSays SiteLineSays no_section texts.site said × (site ≡ site_told said)

abbrev pub ArchiverSays : SiteTexts → SiteConf → Type 0
ArchiverSays texts site = (said : List Reading) × FileSays (LineSays site.name) open_line texts.archiver said

abbrev pub StagerSays : SiteTexts → SiteConf → Type 0
StagerSays texts site = (said : List StagerReading) × FileSays (StagerLineSays site) no_section texts.stager said

abbrev pub ReleaserSays : SiteTexts → Type 0
ReleaserSays texts = (said : List ReleaserReading) × FileSays ReleaserLineSays no_section texts.releaser said

-- This file is the first that is wrong, at this line and with this fault; those before it say something.
abbrev pub IsFirstWrong : SiteTexts → FileRefusal → Type 0
IsFirstWrong texts refusal = by_file refusal.file
  where
    by_file : CommandFile → Type 0
    by_file Site = FileWrong SiteLineSays SiteLineWrong no_section texts.site (refusal_at refusal)
    by_file Archiver = (site : SiteConf) × SaysSite texts site
        × FileWrong (LineSays site.name) (LineWrong site.name) open_line texts.archiver (refusal_at refusal)
    by_file Stager = (site : SiteConf) × SaysSite texts site × ArchiverSays texts site
        × FileWrong (StagerLineSays site) (StagerLineWrong site) no_section texts.stager (refusal_at refusal)
    by_file Releaser = (site : SiteConf) × SaysSite texts site × ArchiverSays texts site × StagerSays texts site
        × FileWrong ReleaserLineSays ReleaserLineWrong no_section texts.releaser (refusal_at refusal)
    by_file Recycler = (site : SiteConf) × SaysSite texts site × ArchiverSays texts site × StagerSays texts site × ReleaserSays texts
        × FileWrong (RecyclerLineSays site) (RecyclerLineWrong site) no_section texts.recycler (refusal_at refusal)

-- what the reader of the five files answers
abbrev pub ConfigurationAnswers : SiteTexts → Result Configuration ConfigurationError → Type 0
ConfigurationAnswers texts (Ok configuration) = Says texts configuration
ConfigurationAnswers texts (Err (Refused refusal)) = IsFirstWrong texts refusal
ConfigurationAnswers texts (Err NoMemory) = Unit {0}

-- ---- one file

-- what a file says, or what is wrong with it
abbrev pub FileTold : {R C : Type 0} → CommandFile → (List R → Line → R → Type 0) → (List R → Line → ConfFault → Type 0) → (List R → Option ℕ) → (List R → C → Type 0) → List ℕ → Result C ConfigurationError → Type 0
FileTold {R} {C} file LineSays LineWrong open_section Tells text (Ok conf) = (said : List R) × FileSays LineSays open_section text said × Tells said conf
FileTold file LineSays LineWrong open_section Tells text (Err (Refused refusal)) = (refusal.file ≡ file) × FileWrong LineSays LineWrong open_section text (refusal_at refusal)
FileTold file LineSays LineWrong open_section Tells text (Err NoMemory) = Unit {0}
