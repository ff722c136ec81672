use Rattle.std.proofs.Common.{sym, subst}
use Rattle.configuration.specs.declared.read.Configuration.{Configuration}
use Rattle.configuration.specs.ConfigurationRules.{Says}
use Rattle.site_history.specs.Worlds.{site_of}
use Rattle.site_history.proofs.WorldLaws.{world_kept}
use Rattle.engine.proofs.engine.Engine.configuration.Goals as goal

pub returns-clause-said : goal.returns-clause-said
returns-clause-said g c = λ terms told w s due.
    subst (λ (x : Configuration). Says (site_of terms w).fields.texts x) (sym (c.configuration.ensures.said (site_of terms w).fields (s.in_step due).1.keeps))
    (world_kept terms w s.kept).configured
