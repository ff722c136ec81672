use Rattle.std.proofs.Common.{◌≡◌, subst, rules, true}
use Rattle.site_types.specs.declared.step.StepKind.{StepKind}
use Rattle.site_state.specs.Legal.{AreTextsWithin}
use Rattle.site_state.proofs.Legality.{legal_so_far, then_legal}
use Rattle.site_state.proofs.state.SiteState.prepare.Goals as goal

pub new-requires : goal.new-requires
new-requires c = subst (λ (kind : StepKind). AreTextsWithin (record { moment = c.args.step.moment; kind = kind })) c.in-Configured.is (c.may_come.ensures.within (search rules))

pub returns-then-not-may_come-clause-legal : goal.returns-then-not-may_come-clause-legal
returns-then-not-may_come-clause-legal c = λ terms fields keeps legal.
    let yes : c.may_come.result ≡ true = (c.may_come.ensures.test terms fields keeps c.requires).1 (legal_so_far terms fields c.args.step.moment c.args.step.kind legal) in
    let no = c.if-not-may_come.true in
    absurd cc

pub returns-in-Ok-clause-legal : goal.returns-in-Ok-clause-legal
returns-in-Ok-clause-legal c = λ terms fields keeps.
    then_legal terms fields c.args.step.moment c.args.step.kind (λ texts is. let same = c.in-Configured.is in let read = c.in-Ok.ensures.read in cc)
    ((c.may_come.ensures.test terms fields keeps c.requires).0 (search rules))

pub returns-clause-legal : goal.returns-clause-legal
returns-clause-legal c = λ terms fields keeps.
    then_legal terms fields c.args.step.moment c.args.step.kind (λ texts is. absurd (c.in_default.not-Configured texts is))
    ((c.may_come.ensures.test terms fields keeps c.requires).0 (search rules))
