-- A command file is refused by the relation: what the answer to a configuration tells is the first file that is wrong.
use Rattle.std.proofs.Common.{◌≡◌, ◌⊎◌, inl, inr, ⊎_elim, ℕ, Bool, true, false, not, cond, [], length, refl, sym, ◌∙◌, ap, subst, arith, Option, Some, None}
use Rattle.std.specs.Prelude.{option_map}
use Rattle.std.proofs.lemmas.Bool.{ltb-false}
use Rattle.std.proofs.lemmas.List.{nil_from_length}
use Rattle.bank.specs.Content.{Content}
use Rattle.site_events.specs.declared.event.Event.TheVariants.{Configure as ConfigureEvent}
use Rattle.site_types.specs.declared.file.SiteTexts.{SiteTexts}
use Rattle.site_events.specs.declared.reply.Reply.{Reply}
use Rattle.site_events.specs.declared.reply.Reply.TheVariants.{Bytes, ConfRefused, Refused, JournalFull, BankFault, NoMemory}
use Rattle.site_events.specs.declared.reply.Rule.TheVariants.{TooLarge, Running as IsRunning}
use Rattle.site_types.specs.declared.step.StepKind.TheVariants.{Configured}
use Rattle.configuration.specs.declared.read.FileRefusal.{FileRefusal}
use Rattle.configuration.specs.ConfigurationRules.{AreWithin}
use Rattle.configuration.specs.ConfigurationSteps.{are_within, refusal_of}
use Rattle.configuration.specs.ConfigurationRules.{IsFirstWrong}
use Rattle.configuration.proofs.Laws.{within-all, wrong-refused, refused-wrong}
use Rattle.site_history.specs.Terms.{Terms}
use Rattle.site_history.specs.Replies.{Answer, tells, bare_step}
use Rattle.site_history.specs.ConfigureAnswers.{conf_refused, has_files, configure_refusal, configure_answer_by, TellsFirstWrong}
use Rattle.site_history.specs.Running.{Running}
use Rattle.site_history.specs.Worlds.{World, site_of}
use Rattle.site_history.specs.Turns.{has_room, answer_in, moment_of, IsReply, Course, Goes, course_of, TurnBy, Turn, IsServedIn, TellsConfiguration, EventTurnBy, EventTurn}
use Rattle.site_history.proofs.Configuring.{configure-wrong}

-- A reply as defined, or a fault or want of memory.
goes_or_not : (reply : Reply) (area : ℕ) → (course_of reply area ≡ Goes) ⊎ (reply ≡ BankFault) ⊎ (reply ≡ NoMemory)
goes_or_not BankFault area = inr (inl refl)
goes_or_not NoMemory area = inr (inr refl)
goes_or_not _ area = inl refl

-- The refusal of a file has no bytes, so that it is the one that is defined.
is_defined : (told : Bool) (defined : Reply) (refusal : FileRefusal) → IsReply told defined (conf_refused refusal) → defined ≡ conf_refused refusal
is_defined true defined refusal is = sym is
is_defined false (Bytes bytes) refusal is = absurd (let no : conf_refused refusal ≡ Bytes is.0 = is.1 in cc)
is_defined false _ refusal is = sym is

is_replied : (told : Bool) (refusal : FileRefusal) (reply : Reply) → IsReply told (conf_refused refusal) reply → reply ≡ conf_refused refusal
is_replied true refusal reply is = is
is_replied false refusal reply is = is

-- the rules, by what they test
abbrev refusal_by : Bool → Bool → Option FileRefusal → Option Reply
refusal_by files within wrong = cond files (Some (Refused IsRunning)) (cond (not within) (Some (Refused TooLarge)) (option_map conf_refused wrong))

same_refusal : (one other : FileRefusal) → conf_refused one ≡ conf_refused other → one ≡ other
same_refusal one other e = ap told e
  where
    told : Reply → FileRefusal
    told (ConfRefused file line fault) = record { file = file; line = line; fault = fault }
    told _ = one

told_by : (files within : Bool) (wrong : Option FileRefusal) (refusal : FileRefusal) → refusal_by files within wrong ≡ Some (conf_refused refusal) → (files ≡ false) × (within ≡ true) × (wrong ≡ Some refusal)
told_by true within wrong refusal e = absurd cc
told_by false false wrong refusal e = absurd cc
told_by false true None refusal e = absurd cc
told_by false true (Some found) refusal e = (refl, refl, ap Some (same_refusal found refusal cc))

-- the answer to a configuration, in a journal with room or without
answered_by : Terms → World → ℕ → SiteTexts → Option Reply → Answer
answered_by terms w moment texts o = let answer = configure_answer_by o w.running moment texts in
    cond (has_room terms w.place answer.step) answer (tells w.running JournalFull)

no_conf : (b : Bool) (running : Running) (texts : SiteTexts) (moment : ℕ) (refusal : FileRefusal)
    → (cond b (configure_answer_by None running moment texts) (tells running JournalFull)).reply ≡ conf_refused refusal → ⊥
no_conf true running texts moment refusal e = cc
no_conf false running texts moment refusal e = cc

module _ (terms : Terms) (w : World) (moment : ℕ) (texts : SiteTexts) where
  from_refusal : (o : Option Reply) (refusal : FileRefusal) → (answered_by terms w moment texts o).reply ≡ conf_refused refusal → o ≡ Some (conf_refused refusal)
  unfolding answered_by
  from_refusal (Some reply) refusal e = ap Some e
  from_refusal None refusal e = absurd (no_conf (has_room terms w.place (Some (bare_step moment (Configured texts)))) w.running texts moment refusal e)

  answered_is : answer_in terms w moment (ConfigureEvent texts) ≡ answered_by terms w moment texts (configure_refusal (site_of terms w).fields texts)
  unfolding answered_by
  answered_is = refl

  refused_is : (refusal : FileRefusal) → (answered_by terms w moment texts (Some (conf_refused refusal))).reply ≡ conf_refused refusal
  unfolding answered_by
  refused_is refusal = refl

  module _ (told : Bool) (area : ℕ) (reply : Reply) (w' : World) (turn : Turn terms told w (ConfigureEvent texts) moment area reply w') where
    -- a refusal is the one that is defined, and so of the first file that is wrong
    turn_tells : (refusal : FileRefusal) → reply ≡ conf_refused refusal → ((site_of terms w).fields.files ≡ []) × AreWithin texts × IsFirstWrong texts refusal
    turn_tells refusal is =
        let here : TurnBy Goes told (answer_in terms w moment (ConfigureEvent texts)) w (ConfigureEvent texts) moment (conf_refused refusal) w' =
        subst (λ (r : Reply). TurnBy (course_of r area) told (answer_in terms w moment (ConfigureEvent texts)) w (ConfigureEvent texts) moment r w') is turn in
        let defined = is_defined told (answer_in terms w moment (ConfigureEvent texts)).reply refusal here.0 in
        let told_so = from_refusal (configure_refusal (site_of terms w).fields texts) refusal (ap (λ (a : Answer). a.reply) (sym answered_is) ∙ defined) in
        let rules = told_by (has_files (site_of terms w).fields) (are_within texts) (refusal_of texts) refusal told_so in (
          nil_from_length (site_of terms w).fields.files (omega (arith, ltb-false 0 (length (site_of terms w).fields.files) rules.0)),
          within-all texts rules.1,
          refused-wrong texts refusal rules.2,
        )

    -- the first file that is wrong is refused, where the answer is as defined
    turn_refuses : (refusal : FileRefusal) → (site_of terms w).fields.files ≡ [] → AreWithin texts → IsFirstWrong texts refusal → course_of reply area ≡ Goes → reply ≡ conf_refused refusal
    turn_refuses refusal none within wrong goes =
        let here : TurnBy Goes told (answer_in terms w moment (ConfigureEvent texts)) w (ConfigureEvent texts) moment reply w' =
        subst (λ (c : Course). TurnBy c told (answer_in terms w moment (ConfigureEvent texts)) w (ConfigureEvent texts) moment reply w') goes turn in
        let defined : (answer_in terms w moment (ConfigureEvent texts)).reply ≡ conf_refused refusal =
        ap (λ (a : Answer). a.reply) answered_is
        ∙ ap (λ (o : Option Reply). (answered_by terms w moment texts o).reply) (configure-wrong (site_of terms w).fields texts none within refusal (wrong-refused texts refusal wrong))
        ∙ refused_is refusal in
        is_replied told refusal reply (subst (λ (r : Reply). IsReply told r reply) defined here.0)

    pub tells_first_wrong : TellsFirstWrong (site_of terms w).fields texts reply
    tells_first_wrong = record {
      nowhere_else = turn_tells;
      there = λ refusal none within wrong. ⊎_elim (λ goes. inl (turn_refuses refusal none within wrong goes)) (λ other. inr other) (goes_or_not reply area);
    }

-- And so does an event.
module _ (terms : Terms) (told : Bool) (w : World) (texts : SiteTexts) (now area : ℕ) (read : Content) (reply : Reply) (w' : World) where
  by_due : (due : Bool) → w.due ≡ due → EventTurnBy terms due told w (ConfigureEvent texts) now area read reply w' → TellsConfiguration terms told w read texts reply
  by_due false due turn = inl (
    w,
    subst (λ (d : Bool). IsServedIn terms d told w read w) (sym due) refl,
    tells_first_wrong terms w (moment_of w.clock now) texts told area reply w' turn,
  )
  by_due true due (inl turn) = inl (
    turn.0,
    subst (λ (d : Bool). IsServedIn terms d told w read turn.0) (sym due) turn.1,
    tells_first_wrong terms turn.0 (moment_of turn.0.clock now) texts told area reply w' turn.2,
  )
  by_due true due (inr refused) = inr (due, refused.0)

  pub tells_configuration : EventTurn terms told w (ConfigureEvent texts) now area read reply w' → TellsConfiguration terms told w read texts reply
  tells_configuration turn = by_due w.due refl turn
