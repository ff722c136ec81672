-- What the lines of a recycler.cmd tell. Readings stand in the order of the file.
use Rattle.std.specs.Prelude.{◌≡◌, ℕ, ◌^◌, List, [], map, Option, Some, None, Bool, false, true, ◌==◌, if◌then◌else◌, unwrap_or}
use Rattle.std.specs.List.{list_any, flat_map, enumerate_from}
use Rattle.site_text.specs.LastValues.{all_of, last_of}
use Rattle.daemon_cmds.specs.declared.site_conf.SiteConf.{SiteConf}
use Rattle.daemon_cmds.specs.declared.recycler_conf.LibraryRecycling.{LibraryRecycling}
use Rattle.daemon_cmds.specs.declared.recycler_conf.NoRecycle.{NoRecycle}
use Rattle.daemon_cmds.specs.declared.recycler_conf.RecyclerConf.{RecyclerConf}
use Rattle.daemon_cmds.specs.declared.recycler_conf.RecycleOption.{RecycleOption}
use Rattle.daemon_cmds.specs.declared.recycler_conf.RecycleOption.TheVariants as given
use Rattle.daemon_cmds.specs.declared.recycler_conf.RecyclerReading.{RecyclerReading}
use Rattle.daemon_cmds.specs.declared.recycler_conf.RecyclerReading.TheVariants as readings

-- ---- what an option gives

abbrev pub hwm_in : RecycleOption → Option ℕ
hwm_in (given.Hwm n) = Some n
hwm_in option = None

abbrev pub mingain_in : RecycleOption → Option ℕ
mingain_in (given.MinGain n) = Some n
mingain_in option = None

abbrev pub vsncount_in : RecycleOption → Option ℕ
vsncount_in (given.VsnCount n) = Some n
vsncount_in option = None

abbrev pub dataquantity_in : RecycleOption → Option ℕ
dataquantity_in (given.DataQuantity n) = Some n
dataquantity_in option = None

abbrev pub is_ignore : RecycleOption → Bool
is_ignore given.Ignore = true
is_ignore option = false

-- How a library is recycled for which these options are given: each number is the last that is given, or the default, and it is ignored
-- where one of them says so.
abbrev pub recycling_of : List RecycleOption → LibraryRecycling
recycling_of options = record {
  hwm = unwrap_or (last_of hwm_in options) 95;
  mingain = unwrap_or (last_of mingain_in options) 60;
  vsncount = unwrap_or (last_of vsncount_in options) 1;
  dataquantity = unwrap_or (last_of dataquantity_in options) (2 ^ 30);
  ignore = list_any is_ignore options;
}

-- ---- what a line gives

-- the options for the library at this place
abbrev pub options_in : ℕ → RecyclerReading → List RecycleOption
options_in place (readings.Library library options) = if library == place then options else []
options_in place reading = []

abbrev pub no_recycle_in : RecyclerReading → Option NoRecycle
no_recycle_in (readings.NoRecycle volumes) = Some volumes
no_recycle_in reading = None

-- ---- the configuration

-- the options of all lines for the library at this place
abbrev pub options_for : ℕ → List RecyclerReading → List RecycleOption
options_for place said = flat_map (options_in place) said

-- the libraries of the site
abbrev pub recycled_libraries : SiteConf → List RecyclerReading → List LibraryRecycling
recycled_libraries site said = map (λ l. recycling_of (options_for l.0 said)) (enumerate_from 0 site.libraries)

pub record TellsRecycler (site : SiteConf) (said : List RecyclerReading) (conf : RecyclerConf) : Type 0 where
  pub libraries : conf.libraries ≡ recycled_libraries site said
  pub no_recycle : conf.no_recycle ≡ all_of no_recycle_in said
