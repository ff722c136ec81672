-- What the lines of a stager.cmd tell. Readings stand in the order of the file.
use Rattle.std.specs.Prelude.{◌≡◌, ℕ, List, [], ◌∷◌, map, Option, Some, None, ◌==◌, if◌then◌else◌, unwrap_or}
use Rattle.std.specs.List.{enumerate_from}
use Rattle.site_text.specs.LastValues.{last_of}
use Rattle.daemon_cmds.specs.declared.site_conf.SiteConf.{SiteConf}
use Rattle.daemon_cmds.specs.declared.stager_conf.StagerConf.{StagerConf}
use Rattle.daemon_cmds.specs.declared.stager_conf.StagerReading.{StagerReading}
use Rattle.daemon_cmds.specs.declared.stager_conf.StagerReading.TheVariants as readings

-- ---- what a line gives

-- the drives of the library at this place
abbrev pub drives_in : ℕ → StagerReading → Option ℕ
drives_in place (readings.Drives library n) = if library == place then Some n else None
drives_in place reading = None

abbrev pub maxactive_in : StagerReading → Option ℕ
maxactive_in (readings.MaxActive n) = Some n
maxactive_in reading = None

abbrev pub copysel_in : StagerReading → Option (List ℕ)
copysel_in (readings.CopySel copies) = Some copies
copysel_in reading = None

-- ---- the configuration: the last line holds, of `drives` the last one for that library

abbrev pub default_maxactive : ℕ
default_maxactive = 4000

abbrev pub default_copysel : List ℕ
default_copysel = 1 ∷ 2 ∷ 3 ∷ 4 ∷ []

-- of each library of the site the drives that the last line for it gives, or all that it has
abbrev pub drives_of : SiteConf → List StagerReading → List ℕ
drives_of site said = map (λ l. unwrap_or (last_of (drives_in l.0) said) l.1.drives) (enumerate_from 0 site.libraries)

pub record TellsStager (site : SiteConf) (said : List StagerReading) (conf : StagerConf) : Type 0 where
  pub drives : conf.drives ≡ drives_of site said
  pub maxactive : conf.maxactive ≡ unwrap_or (last_of maxactive_in said) default_maxactive
  pub copysel : conf.copysel ≡ unwrap_or (last_of copysel_in said) default_copysel
