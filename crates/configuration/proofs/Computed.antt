-- The configuration that texts say is the one that is computed of them.
use Rattle.std.proofs.Common.{◌≡◌, ℕ, ◌/◌, List, None, Result, Ok, Err, refl, sym, ap, subst, ◌∙◌}
use Rattle.site_text.specs.declared.fault.ConfRefusal.{ConfRefusal}
use Rattle.daemon_cmds.specs.declared.site_conf.SiteReading.{SiteReading}
use Rattle.daemon_cmds.specs.declared.site_conf.SiteConf.{SiteConf}
use Rattle.daemon_cmds.specs.declared.stager_conf.StagerConf.{StagerConf}
use Rattle.daemon_cmds.specs.declared.stager_conf.StagerReading.{StagerReading}
use Rattle.daemon_cmds.specs.declared.releaser_conf.ReleaserConf.{ReleaserConf}
use Rattle.daemon_cmds.specs.declared.releaser_conf.ReleaserReading.{ReleaserReading}
use Rattle.daemon_cmds.specs.declared.recycler_conf.RecyclerConf.{RecyclerConf}
use Rattle.daemon_cmds.specs.declared.recycler_conf.RecyclerReading.{RecyclerReading}
use Rattle.daemon_cmds.specs.StagerTold.{TellsStager}
use Rattle.daemon_cmds.specs.ReleaserTold.{TellsReleaser}
use Rattle.daemon_cmds.specs.RecyclerTold.{TellsRecycler}
use Rattle.site_types.specs.declared.file.SiteTexts.{SiteTexts}
use Rattle.configuration.specs.declared.read.Configuration.{Configuration}
use Rattle.configuration.specs.ConfigurationRules.{site_told, Readings, SayReadings, TellReadings, Says}
use Rattle.configuration.specs.ConfigurationSteps.{site_reading, refusal_of, cache_by, blocks_of}
use Rattle.configuration.specs.ConfigurationTold.{stager_told, releaser_told, recycler_told, configuration_told, read_or_none, readings_of, configuration_of}
use Rattle.configuration.proofs.EachFile.{site_means, archiver_means, stager_means, releaser_means, recycler_means}
use Rattle.configuration.proofs.Laws.{read-says}

stager_is : (site : SiteConf) (said : List StagerReading) (conf : StagerConf) → TellsStager site said conf → conf ≡ stager_told site said
stager_is site said conf tell = rw (tell.drives, tell.maxactive, tell.copysel) refl

releaser_is : (site : SiteConf) (said : List ReleaserReading) (conf : ReleaserConf) → TellsReleaser site said conf → conf ≡ releaser_told site said
releaser_is site said conf tell = rw (tell.ages, tell.size, tell.min_residence_age, tell.no_release, tell.rearch_no_release) refl

recycler_is : (site : SiteConf) (said : List RecyclerReading) (conf : RecyclerConf) → TellsRecycler site said conf → conf ≡ recycler_told site said
recycler_is site said conf tell = rw (tell.libraries, tell.no_recycle) refl

told_is : (readings : Readings) (conf : Configuration) → TellReadings readings conf → conf ≡ configuration_told readings
told_is readings conf tell = rw (
  tell.site,
  tell.archiver,
  stager_is (site_told readings.site) readings.stager conf.stager tell.stager,
  releaser_is (site_told readings.site) readings.releaser conf.releaser tell.releaser,
  recycler_is (site_told readings.site) readings.recycler conf.recycler tell.recycler,
) refl

tells : (readings : Readings) → TellReadings readings (configuration_told readings)
tells readings = record {
  site = refl;
  archiver = refl;
  stager = record { drives = refl; maxactive = refl; copysel = refl };
  releaser = record { ages = refl; size = refl; min_residence_age = refl; no_release = refl; rearch_no_release = refl };
  recycler = record { libraries = refl; no_recycle = refl };
}

readings_are : (texts : SiteTexts) (readings : Readings) → SayReadings texts readings → readings_of texts ≡ readings
readings_are texts readings say = let site = site_told readings.site in rw (
  (site_means texts.site).said readings.site say.site,
  (archiver_means site texts.archiver).said readings.archiver say.archiver,
  (stager_means site texts.stager).said readings.stager say.stager,
  (releaser_means texts.releaser).said readings.releaser say.releaser,
  (recycler_means site texts.recycler).said readings.recycler say.recycler,
) refl

-- texts that say a configuration say the one that is computed
pub says-computed : (texts : SiteTexts) (conf : Configuration) → Says texts conf → conf ≡ configuration_of texts
unfolding configuration_of
says-computed texts conf (readings, say, tell) =
    told_is readings conf tell ∙ ap (λ (r : Readings). configuration_told r) (sym (readings_are texts readings say))

-- texts of which none is refused say it
pub computed-says : (texts : SiteTexts) → refusal_of texts ≡ None → Says texts (configuration_of texts)
unfolding configuration_of
computed-says texts read = let all = read-says texts read in (
  all.0,
  all.1,
  subst (λ (r : Readings). TellReadings all.0 (configuration_told r)) (sym (readings_are texts all.0 all.1)) (tells all.0),
)

cache_told : (read : Result (List SiteReading) ConfRefusal) → (site_told (read_or_none read)).cache ≡ cache_by read
cache_told (Ok said) = refl
cache_told (Err refusal) = refl

-- its cache has as many blocks as the texts say, whether they are refused or not
pub computed-blocks : (texts : SiteTexts) → (configuration_of texts).site.cache / 4096 ≡ blocks_of texts
unfolding configuration_of blocks_of
computed-blocks texts = ap (λ (n : ℕ). n / 4096) (cache_told (site_reading texts.site))
