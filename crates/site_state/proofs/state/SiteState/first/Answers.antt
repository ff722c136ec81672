use Rattle.std.proofs.Common.{◌≡◌, ℕ, [], refl, sym, ◌∙◌, ap, subst, Some, None}
use Rattle.site_types.specs.declared.file.SiteTexts.{SiteTexts}
use Rattle.configuration.specs.declared.read.ConfigurationError.{ConfigurationError}
use Rattle.configuration.specs.declared.read.ConfigurationError.TheVariants.{Refused}
use Rattle.configuration.specs.declared.read.FileRefusal.{FileRefusal}
use Rattle.configuration.specs.ConfigurationSteps.{refusal_of, TellsRefusal}
use Rattle.site_types.specs.Texts.{no_texts}
use Rattle.configuration.specs.ConfigurationTold.{configuration_of}
use Rattle.configuration.proofs.Laws.{no_texts-read}
use Rattle.configuration.proofs.Computed.{says-computed, computed-blocks}
use Rattle.cache_space.specs.Space.{taken_by}
use Rattle.site_history.specs.Site.{first_fields, cache_blocks}
use Rattle.site_state.specs.declared.prepare.Setting.{Setting}
use Rattle.site_state.specs.Room.{IsSettingOf}
use Rattle.site_state.proofs.state.SiteState.first.Goals as goal

-- no text is never refused
never_refused : (texts : SiteTexts) (error : ConfigurationError) (refusal : FileRefusal) → texts ≡ no_texts → error ≡ Refused refusal → TellsRefusal texts error → ⊥
never_refused texts error refusal none is tells =
    let wrong : refusal_of texts ≡ Some refusal = subst (λ (e : ConfigurationError). TellsRefusal texts e) is tells in
    let differs : None ≡ Some refusal = sym no_texts-read ∙ sym (ap refusal_of none) ∙ wrong in
    cc

pub unreachable-requires : goal.unreachable-requires
unreachable-requires c = never_refused c.empty.result c.in-Err-Refused.field-0 _ c.empty.ensures c.in-Err-Refused.field-0-is c.in-Err-Refused.ensures.refused

-- what no text brings
none_brings : (texts : SiteTexts) (setting : Setting) → texts ≡ no_texts → IsSettingOf texts setting
    → (setting.configuration ≡ configuration_of no_texts) × (setting.space ≡ taken_by (cache_blocks first_fields) [])
none_brings texts setting none of =
    let here = subst (λ (t : SiteTexts). IsSettingOf t setting) none of in
    (says-computed no_texts setting.configuration here.says, here.space ∙ ap (λ (n : ℕ). taken_by n []) (sym (computed-blocks no_texts)))

pub returns-in-Ok : goal.returns-in-Ok
returns-in-Ok c =
    let brought = none_brings c.empty.result c.in-Ok.setting c.empty.ensures c.in-Ok.ensures.setting in
    record { files = c.new-in-Ok.ensures; next_inode = refl; moment = refl; configuration = brought.0; space = brought.1 }
