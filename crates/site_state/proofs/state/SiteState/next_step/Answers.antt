use Rattle.site_state.proofs.Replaying.{read_result}
use Rattle.site_state.proofs.state.SiteState.next_step.Goals as goal

pub returns-in-Ok-clause-read : goal.returns-in-Ok-clause-read
returns-in-Ok-clause-read c = λ terms fields keeps.
    read_result terms fields c.args.payload.now c.in-Ok.step _ c.prepare.result c.in-Ok.ensures.found.1 (λ s range form. let e = c.in-Ok.ensures.only s range form in cc)
    (c.prepare.ensures.legal terms fields keeps) c.prepare.ensures.prepared
