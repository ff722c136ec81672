use Rattle.std.proofs.Common.{◌≡◌, ap, subst, ◌∙◌, Option, Some}
use Rattle.std.specs.Prelude.{option_map}
use Rattle.site_events.specs.declared.reply.Reply.TheVariants.{Done}
use Rattle.site_types.specs.declared.step.StepKind.TheVariants.{Configured}
use Rattle.configuration.specs.declared.read.ConfigurationError.{ConfigurationError}
use Rattle.configuration.specs.declared.read.FileRefusal.{FileRefusal}
use Rattle.configuration.specs.ConfigurationSteps.{refusal_of, TellsRefusal}
use Rattle.site_history.specs.ConfigureAnswers.{conf_refused}
use Rattle.site_history.proofs.StepRanges.{configured-range, configured-short}
use Rattle.site_history.proofs.Turns.{configure-refused, configure-made}
use Rattle.decisions.proofs.Planned.{nothing_planned}
use Rattle.decisions.proofs.configurations.plan_configuration.Goals as goal

pub returns-in-Some-clause-answers : goal.returns-in-Some-clause-answers
returns-in-Some-clause-answers c = λ terms count site running kept bytes keeps. configure-refused terms site running c.args.moment c.args.texts _ (c.in-Some.ensures.refused site.fields keeps)

pub returns-in-Ok-clause-answers : goal.returns-in-Ok-clause-answers
returns-in-Ok-clause-answers c = λ terms count site running kept bytes keeps.
    nothing_planned terms site running c.args.moment (Some c.in-Ok.setting) _ (Done 0) (Configured c.args.texts)
    (configure-made terms site running c.args.moment c.args.texts
    (c.in_default.ensures.left site.fields keeps ∙ ap (λ (o : Option FileRefusal). option_map conf_refused o) c.in-Ok.ensures.read))

pub returns-in-Ok-clause-performable : goal.returns-in-Ok-clause-performable
returns-in-Ok-clause-performable c = (
  record {
    range = configured-range c.args.moment c.args.texts c.requires c.in_default.ensures.within;
    short = configured-short c.args.moment c.args.texts c.in_default.ensures.within;
    maximal = tt;
    memory = record { room = tt; setting = c.in-Ok.ensures.setting };
  },
  tt,
)

pub returns-in-Err-Refused-clause-answers : goal.returns-in-Err-Refused-clause-answers
returns-in-Err-Refused-clause-answers c = λ terms count site running kept bytes keeps.
    let wrong : refusal_of c.args.texts ≡ Some c.in-Err-Refused.refusal =
    subst (λ (e : ConfigurationError). TellsRefusal c.args.texts e) c.in-Err-Refused.field-0-is c.in-Err-Refused.ensures.refused in
    configure-refused terms site running c.args.moment c.args.texts (conf_refused c.in-Err-Refused.refusal)
    (c.in_default.ensures.left site.fields keeps ∙ ap (λ (o : Option FileRefusal). option_map conf_refused o) wrong)
