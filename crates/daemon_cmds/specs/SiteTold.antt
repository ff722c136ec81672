-- What the lines of a site.conf tell. Readings stand in the order of the file.
use Rattle.std.specs.Prelude.{◌≡◌, ℕ, ◌^◌, List, codes, Option, Some, None, unwrap_or}
use Rattle.site_text.specs.Fields.{Field}
use Rattle.site_text.specs.LastValues.{all_of, last_of}
use Rattle.daemon_cmds.specs.declared.site_conf.Library.{Library}
use Rattle.daemon_cmds.specs.declared.site_conf.Volume.{Volume}
use Rattle.daemon_cmds.specs.declared.site_conf.SiteConf.{SiteConf}
use Rattle.daemon_cmds.specs.declared.site_conf.SiteReading.{SiteReading}
use Rattle.daemon_cmds.specs.declared.site_conf.SiteReading.TheVariants as readings

-- ---- what a line gives

abbrev pub name_in : SiteReading → Option Field
name_in (readings.FileSystem name) = Some name
name_in reading = None

abbrev pub cache_in : SiteReading → Option ℕ
cache_in (readings.Cache size) = Some size
cache_in reading = None

abbrev pub high_in : SiteReading → Option ℕ
high_in (readings.High mark) = Some mark
high_in reading = None

abbrev pub low_in : SiteReading → Option ℕ
low_in (readings.Low mark) = Some mark
low_in reading = None

abbrev pub library_in : SiteReading → Option Library
library_in (readings.Library library) = Some library
library_in reading = None

abbrev pub volume_in : SiteReading → Option Volume
volume_in (readings.Volume volume) = Some volume
volume_in reading = None

-- ---- what lines give

abbrev pub name_of : List SiteReading → Option Field
name_of said = last_of name_in said

abbrev pub cache_of : List SiteReading → Option ℕ
cache_of said = last_of cache_in said

abbrev pub high_of : List SiteReading → Option ℕ
high_of said = last_of high_in said

abbrev pub low_of : List SiteReading → Option ℕ
low_of said = last_of low_in said

abbrev pub libraries_of : List SiteReading → List Library
libraries_of said = all_of library_in said

abbrev pub volumes_of : List SiteReading → List Volume
volumes_of said = all_of volume_in said

-- ---- the configuration

abbrev pub default_name : Field
default_name = codes "samfs1"

-- bytes
abbrev pub default_cache : ℕ
default_cache = 2 ^ 26

-- percent of the cache
abbrev pub default_high : ℕ
default_high = 80

abbrev pub default_low : ℕ
default_low = 70

-- What these lines tell, each directive with its default where none of them gives it.
pub record TellsSite (said : List SiteReading) (conf : SiteConf) : Type 0 where
  pub name : conf.name ≡ unwrap_or (name_of said) default_name
  pub cache : conf.cache ≡ unwrap_or (cache_of said) default_cache
  pub high : conf.high ≡ unwrap_or (high_of said) default_high
  pub low : conf.low ≡ unwrap_or (low_of said) default_low
  pub libraries : conf.libraries ≡ libraries_of said
  pub volumes : conf.volumes ≡ volumes_of said
