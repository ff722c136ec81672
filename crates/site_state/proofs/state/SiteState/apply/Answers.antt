use Rattle.std.proofs.Common.{◌≡◌, ℕ, Option, Some, refl, sym, subst}
use Rattle.site_types.specs.declared.step.StepKind.TheVariants.{Configured, Put, Accessed, Removed}
use Rattle.site_types.specs.declared.file.SiteTexts.{SiteTexts}
use Rattle.site_history.specs.Terms.{Terms}
use Rattle.site_history.specs.Site.{Fields}
use Rattle.site_history.specs.Steps.{MayCome, effect_of, dated}
use Rattle.site_state.specs.declared.prepare.Setting.{Setting}
use Rattle.site_state.specs.declared.state.SiteState.{SiteState}
use Rattle.site_state.specs.Keeps.{Keeps}
use Rattle.site_state.specs.Room.{IsSettingOf, HasSettingFor}
use Rattle.step_codec.proofs.InRange.{ranges}
use Rattle.site_types.specs.Ranges.{Ranges}
use Rattle.site_types.specs.declared.step.StepKind.{StepKind}
use Rattle.site_state.proofs.state.SiteState.apply.Goals as goal

pub apply_put-requires-clause-range : goal.apply_put-requires-clause-range
apply_put-requires-clause-range c = (ranges c.args.prepared.step c.requires.range).0

pub apply_put-requires-clause-inode : goal.apply_put-requires-clause-inode
apply_put-requires-clause-inode c = (subst (λ (kind : StepKind). Ranges kind) c.in-Put.is (ranges c.args.prepared.step c.requires.range).1).0

pub apply_access-requires : goal.apply_access-requires
apply_access-requires c = record { range = (ranges c.args.prepared.step c.requires.range).0 }

pub apply_removal-requires : goal.apply_removal-requires
apply_removal-requires c = record { range = (ranges c.args.prepared.step c.requires.range).0 }

pub apply_setting-requires : goal.apply_setting-requires
apply_setting-requires c = record { range = (ranges c.args.prepared.step c.requires.range).0 }

-- what is kept of a step of a known kind
of_kind : (terms : Terms) (fields : Fields) (site : SiteState) (moment : ℕ) (kind known : StepKind) → kind ≡ known → Keeps site (dated moment (effect_of terms moment known fields))
    → Keeps site (dated moment (effect_of terms moment kind fields))
of_kind terms fields site moment kind known is keeps = subst (λ (k : StepKind). Keeps site (dated moment (effect_of terms moment k fields))) (sym is) keeps

-- the rule of its kind
rule_of : (terms : Terms) (fields : Fields) (moment : ℕ) (kind known : StepKind) → kind ≡ known → MayCome terms fields moment kind → MayCome terms fields moment known
rule_of terms fields moment kind known is may = subst (λ (k : StepKind). MayCome terms fields moment k) is may

-- the setting of a configuration
setting_of : (moment : ℕ) (kind : StepKind) (texts : SiteTexts) (o : Option Setting) (setting : Setting) → kind ≡ Configured texts → o ≡ Some setting → HasSettingFor (record { moment = moment; kind = kind }) o
    → IsSettingOf texts setting
setting_of moment kind texts o setting is some has =
    subst (λ (p : Option Setting). HasSettingFor (record { moment = moment; kind = Configured texts }) p) some
    (subst (λ (k : StepKind). HasSettingFor (record { moment = moment; kind = k }) o) is has)

pub returns-in-Put : goal.returns-in-Put
returns-in-Put c = λ terms count fields kept few keeps legal.
    of_kind terms fields _ c.args.prepared.step.moment c.args.prepared.step.kind _ c.in-Put.is
    (c.apply_put.ensures terms count fields kept few keeps (rule_of terms fields c.args.prepared.step.moment c.args.prepared.step.kind _ c.in-Put.is legal.2))

pub returns-in-Accessed : goal.returns-in-Accessed
returns-in-Accessed c = λ terms count fields kept few keeps legal.
    of_kind terms fields _ c.args.prepared.step.moment c.args.prepared.step.kind _ c.in-Accessed.is
    (c.apply_access.ensures count fields kept keeps (rule_of terms fields c.args.prepared.step.moment c.args.prepared.step.kind _ c.in-Accessed.is legal.2))

pub returns-in-Removed : goal.returns-in-Removed
returns-in-Removed c = λ terms count fields kept few keeps legal.
    of_kind terms fields _ c.args.prepared.step.moment c.args.prepared.step.kind _ c.in-Removed.is
    (c.apply_removal.ensures count fields kept keeps (rule_of terms fields c.args.prepared.step.moment c.args.prepared.step.kind _ c.in-Removed.is legal.2))

pub returns-in-Some : goal.returns-in-Some
returns-in-Some c = λ terms count fields kept few keeps legal.
    of_kind terms fields _ c.args.prepared.step.moment c.args.prepared.step.kind _ c.in-Configured.is
    (c.apply_setting.ensures fields c.in-Configured.field-0 keeps (rule_of terms fields c.args.prepared.step.moment c.args.prepared.step.kind _ c.in-Configured.is legal.2).no_file
    (setting_of c.args.prepared.step.moment c.args.prepared.step.kind c.in-Configured.field-0 c.args.prepared.setting c.in-Some.setting c.in-Configured.is c.in-Some.is c.requires.prepared.setting))

-- a step of another kind never may come: a row for each kind that is served
pub returns : goal.returns
returns c = λ terms count fields kept few keeps legal.
    absurd ((elim c.args.prepared.step.kind as (λ kind. c.args.prepared.step.kind ≡ kind → MayCome terms fields c.args.prepared.step.moment kind → ⊥) [
      | Configured texts ↦ λ is rule. c.in_default.not-Configured texts is
      | Put put ↦ λ is rule. c.in_default.not-Put put is
      | Accessed inode ↦ λ is rule. c.in_default.not-Accessed inode is
      | Removed inode ↦ λ is rule. c.in_default.not-Removed inode is
      | _ ↦ λ is rule. rule
    ]) refl legal.2)
