-- A site was configured anew: when that may come, and what it brings.
use Rattle.std.specs.Prelude.{◌≡◌, None, []}
use Rattle.site_types.specs.declared.file.SiteTexts.{SiteTexts}
use Rattle.configuration.specs.ConfigurationRules.{AreWithin}
use Rattle.configuration.specs.ConfigurationSteps.{refusal_of}
use Rattle.configuration.specs.ConfigurationTold.{configuration_of}
use Rattle.site_history.specs.Site.{Fields, fresh_volumes}

-- the cache and the volumes are those of the new site, and nothing was written on these; the next inode stays
abbrev pub configured_effect : SiteTexts → Fields → Fields
configured_effect texts fields = record fields {
  texts = texts;
  configuration = configuration_of texts;
  volumes = fresh_volumes (configuration_of texts).site;
  queue = [];
}

-- A site may be configured where it has no file, each text is within its limit, and none is refused.
pub record IsLegalConfiguration (fields : Fields) (texts : SiteTexts) : Type 0 where
  pub no_file : fields.files ≡ []
  pub within : AreWithin texts
  pub read : refusal_of texts ≡ None
