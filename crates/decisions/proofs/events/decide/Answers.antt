use Rattle.std.proofs.Common.{sym, subst}
use Rattle.site_events.specs.declared.event.Event.{Event}
use Rattle.decisions.specs.Plans.{Answers}
use Rattle.decisions.proofs.events.decide.Goals as goal

pub returns-in-Remove-clause-answers : goal.returns-in-Remove-clause-answers
returns-in-Remove-clause-answers c =
    subst (λ (e : Event). Answers c.args.site.now c.args.moment e c.plan_removal.result) (sym c.in-Remove.is) c.plan_removal.ensures.answers
