-- A site is configured. What is answered: `configure-running`, `configure-large` and `configure-wrong` say which rule refuses, and
-- `configure-free` that none does; `configure-admitted` is what holds then. `configure-legal` says that the step may come, and
-- `configured-held`, `configured-blocks` and `configured-space` what its cache is.
use Rattle.std.proofs.Common.{◌≡◌, ℕ, ◌<◌, ◌≤◌, ◌^◌, Bool, true, false, not, cond, List, [], length, refl, sym, ◌∙◌, ap, arith, Option, Some, None}
use Rattle.std.specs.Prelude.{nat_lt, option_map}
use Rattle.std.proofs.lemmas.Bool.{lt-ltb, ltb-false}
use Rattle.std.proofs.lemmas.List.{nil_from_length}
use Rattle.site_types.specs.declared.file.FileRec.{FileRec}
use Rattle.site_types.specs.declared.file.Run.{Run}
use Rattle.site_types.specs.declared.file.SiteTexts.{SiteTexts}
use Rattle.site_events.specs.declared.reply.Reply.{Reply}
use Rattle.site_events.specs.declared.reply.Reply.TheVariants.{Refused}
use Rattle.site_events.specs.declared.reply.Rule.TheVariants.{TooLarge, Running}
use Rattle.site_types.specs.declared.step.StepKind.TheVariants.{Configured}
use Rattle.configuration.specs.declared.read.FileRefusal.{FileRefusal}
use Rattle.configuration.specs.ConfigurationRules.{AreWithin}
use Rattle.configuration.specs.ConfigurationSteps.{are_within, refusal_of, blocks_of}
use Rattle.configuration.proofs.Laws.{within-all, all-within}
use Rattle.configuration.proofs.Computed.{computed-blocks}
use Rattle.cache_space.specs.Space.{taken_by}
use Rattle.site_history.specs.Terms.{Terms}
use Rattle.site_history.specs.Site.{Fields, held_runs, cache_blocks}
use Rattle.site_history.specs.Steps.{IsLegal, HasBytes}
use Rattle.site_history.specs.ConfiguredSteps.{IsLegalConfiguration, configured_effect}
use Rattle.site_history.specs.Replies.{bare_step}
use Rattle.site_history.specs.ConfigureAnswers.{conf_refused, has_files, configure_refusal}
use Rattle.site_history.proofs.StepRanges.{configured-range}

-- the rules, by what they test
abbrev refusal_by : Bool → Bool → Option FileRefusal → Option Reply
refusal_by files within wrong = cond files (Some (Refused Running)) (cond (not within) (Some (Refused TooLarge)) (option_map conf_refused wrong))

admitted_by : (files within : Bool) (wrong : Option FileRefusal) → refusal_by files within wrong ≡ None → (files ≡ false) × (within ≡ true) × (wrong ≡ None)
admitted_by true within wrong e = absurd cc
admitted_by false false wrong e = absurd cc
admitted_by false true (Some refusal) e = absurd cc
admitted_by false true None e = (refl, refl, refl)

no_files : (files : List FileRec) → files ≡ [] → nat_lt 0 (length files) ≡ false
no_files files none = ap (λ (l : List FileRec). nat_lt 0 (length l)) none

module _ (fields : Fields) (texts : SiteTexts) where
  -- a file is there
  pub configure-running : 0 < length fields.files → configure_refusal fields texts ≡ Some (Refused Running)
  configure-running some = ap (λ (b : Bool). refusal_by b (are_within texts) (refusal_of texts)) (lt-ltb 0 (length fields.files) some)

  module _ (none : fields.files ≡ []) where
    -- a text is over its limit
    pub configure-large : are_within texts ≡ false → configure_refusal fields texts ≡ Some (Refused TooLarge)
    configure-large large =
        ap (λ (b : Bool). refusal_by b (are_within texts) (refusal_of texts)) (no_files fields.files none)
        ∙ ap (λ (b : Bool). refusal_by false b (refusal_of texts)) large

    module _ (within : AreWithin texts) where
      by_texts : configure_refusal fields texts ≡ option_map conf_refused (refusal_of texts)
      by_texts =
          ap (λ (b : Bool). refusal_by b (are_within texts) (refusal_of texts)) (no_files fields.files none)
          ∙ ap (λ (b : Bool). refusal_by false b (refusal_of texts)) (all-within texts within)

      -- a command file is wrong
      pub configure-wrong : (refusal : FileRefusal) → refusal_of texts ≡ Some refusal → configure_refusal fields texts ≡ Some (conf_refused refusal)
      configure-wrong refusal e = by_texts ∙ ap (λ (o : Option FileRefusal). option_map conf_refused o) e

      -- no rule refuses
      pub configure-free : refusal_of texts ≡ None → configure_refusal fields texts ≡ None
      configure-free e = by_texts ∙ ap (λ (o : Option FileRefusal). option_map conf_refused o) e

  -- where no rule refuses, the site has no file, and each text is within its limit and is read
  pub configure-admitted : configure_refusal fields texts ≡ None → IsLegalConfiguration fields texts
  configure-admitted e =
      let rules = admitted_by (has_files fields) (are_within texts) (refusal_of texts) e in
      record { no_file = nil_from_length fields.files (omega (arith, ltb-false 0 (length fields.files) rules.0)); within = within-all texts rules.1; read = rules.2 }

-- the step may come
pub configure-legal : (terms : Terms) (fields : Fields) (moment : ℕ) (texts : SiteTexts) → fields.files ≡ [] → AreWithin texts → refusal_of texts ≡ None → fields.moment ≤ moment → moment < 2 ^ 40
    → IsLegal terms fields (bare_step moment (Configured texts)).step
configure-legal terms fields moment texts none within read later range =
    (configured-range moment texts range within, later, record { no_file = none; within = within; read = read })

-- it has no bytes
pub configured_has_bytes : (moment : ℕ) (texts : SiteTexts) → HasBytes (bare_step moment (Configured texts))
configured_has_bytes moment texts = refl

-- the cache of the site then
module _ (fields : Fields) (texts : SiteTexts) where
  pub configured-blocks : cache_blocks (configured_effect texts fields) ≡ blocks_of texts
  configured-blocks = computed-blocks texts

  module _ (none : fields.files ≡ []) where
    -- no file holds a block of it
    pub configured-held : held_runs (configured_effect texts fields).files ≡ []
    configured-held = ap held_runs none

    -- so that all its blocks are free
    pub configured-space : taken_by (blocks_of texts) [] ≡ taken_by (cache_blocks (configured_effect texts fields)) (held_runs (configured_effect texts fields).files)
    configured-space =
        ap (λ (n : ℕ). taken_by n []) (sym configured-blocks)
        ∙ ap (λ (runs : List Run). taken_by (cache_blocks (configured_effect texts fields)) runs) (sym configured-held)
