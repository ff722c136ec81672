-- The configuration that five texts say, computed. A text that is refused counts as one that says nothing.
use Rattle.std.specs.Prelude.{List, [], Result, Ok, Err, unwrap_or, ◌||◌, Some, None}
use Rattle.site_text.specs.declared.fault.ConfRefusal.{ConfRefusal}
use Rattle.site_text.specs.LastValues.{all_of, last_of}
use Rattle.daemon_cmds.specs.declared.site_conf.SiteConf.{SiteConf}
use Rattle.daemon_cmds.specs.declared.site_conf.SiteReading.{SiteReading}
use Rattle.daemon_cmds.specs.declared.stager_conf.StagerConf.{StagerConf}
use Rattle.daemon_cmds.specs.declared.stager_conf.StagerReading.{StagerReading}
use Rattle.daemon_cmds.specs.declared.releaser_conf.ReleaserConf.{ReleaserConf}
use Rattle.daemon_cmds.specs.declared.releaser_conf.ReleaserReading.{ReleaserReading}
use Rattle.daemon_cmds.specs.declared.recycler_conf.RecyclerConf.{RecyclerConf}
use Rattle.daemon_cmds.specs.declared.recycler_conf.RecyclerReading.{RecyclerReading}
use Rattle.daemon_cmds.specs.StagerTold.{drives_of, maxactive_in, copysel_in, default_maxactive, default_copysel}
use Rattle.daemon_cmds.specs.ReleaserTold.{age_weights, weight_for, is_size, set_for, residence_in, default_residence, stands_in, is_no_release, is_rearch_no_release}
use Rattle.daemon_cmds.specs.RecyclerTold.{recycled_libraries, no_recycle_in}
use Rattle.archiver_cmd.specs.Conf.{conf_told}
use Rattle.site_types.specs.declared.file.SiteTexts.{SiteTexts}
use Rattle.configuration.specs.declared.read.Configuration.{Configuration}
use Rattle.configuration.specs.ConfigurationRules.{Readings, site_told}
use Rattle.configuration.specs.ConfigurationSteps.{site_reading, archiver_reading, stager_reading, releaser_reading, recycler_reading}

-- ---- what readings tell

abbrev pub stager_told : SiteConf → List StagerReading → StagerConf
stager_told site said = record {
  drives = drives_of site said;
  maxactive = unwrap_or (last_of maxactive_in said) default_maxactive;
  copysel = unwrap_or (last_of copysel_in said) default_copysel;
}

abbrev pub releaser_told : SiteConf → List ReleaserReading → ReleaserConf
releaser_told site said = record {
  ages = age_weights site said;
  size = weight_for is_size site said;
  min_residence_age = unwrap_or (set_for residence_in site said) default_residence;
  no_release = stands_in is_no_release (Some site.name) said || stands_in is_no_release None said;
  rearch_no_release = stands_in is_rearch_no_release (Some site.name) said || stands_in is_rearch_no_release None said;
}

abbrev pub recycler_told : SiteConf → List RecyclerReading → RecyclerConf
recycler_told site said = record { libraries = recycled_libraries site said; no_recycle = all_of no_recycle_in said }

abbrev pub configuration_in : SiteConf → Readings → Configuration
configuration_in site readings = record {
  site = site;
  archiver = conf_told site.name readings.archiver;
  stager = stager_told site readings.stager;
  releaser = releaser_told site readings.releaser;
  recycler = recycler_told site readings.recycler;
}

abbrev pub configuration_told : Readings → Configuration
configuration_told readings = configuration_in (site_told readings.site) readings

-- ---- what texts say

-- what was read, or nothing where the text is refused
abbrev pub read_or_none : {R : Type 0} → Result (List R) ConfRefusal → List R
read_or_none (Ok said) = said
read_or_none (Err refusal) = []

-- the other files stand on the site
abbrev pub readings_in : List SiteReading → SiteTexts → Readings
readings_in said texts = record {
  site = said;
  archiver = read_or_none (archiver_reading (site_told said) texts.archiver);
  stager = read_or_none (stager_reading (site_told said) texts.stager);
  releaser = read_or_none (releaser_reading texts.releaser);
  recycler = read_or_none (recycler_reading (site_told said) texts.recycler);
}

abbrev pub readings_of : SiteTexts → Readings
readings_of texts = readings_in (read_or_none (site_reading texts.site)) texts

unfoldable pub configuration_of : SiteTexts → Configuration
configuration_of texts = configuration_told (readings_of texts)
