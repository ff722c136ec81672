-- Which steps may come, before the texts of a configuration are read.
use Rattle.std.specs.Prelude.{◌≡◌, ◌≤◌, []}
use Rattle.site_types.specs.declared.step.Step.{Step}
use Rattle.site_types.specs.declared.step.StepKind.{StepKind}
use Rattle.site_types.specs.declared.step.StepKind.TheVariants.{Configured}
use Rattle.step_codec.specs.Written.{InRange}
use Rattle.configuration.specs.ConfigurationRules.{AreWithin}
use Rattle.site_history.specs.Terms.{Terms}
use Rattle.site_history.specs.Site.{Fields}
use Rattle.site_history.specs.Steps.{IsLegal}

-- The step is legal. Where it configures the site, all is met that is known before its texts are read.
abbrev pub IsLegalSoFar : Terms → Fields → Step → Type 0
IsLegalSoFar terms fields step = by_kind step.kind
  where
    by_kind : StepKind → Type 0
    by_kind (Configured texts) = InRange step × (fields.moment ≤ step.moment) × (fields.files ≡ []) × AreWithin texts
    by_kind _ = IsLegal terms fields step

-- where the step configures the site, each text is within its limit
abbrev pub AreTextsWithin : Step → Type 0
AreTextsWithin step = by_kind step.kind
  where
    by_kind : StepKind → Type 0
    by_kind (Configured texts) = AreWithin texts
    by_kind _ = Unit {0}
