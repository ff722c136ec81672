use Rattle.site_state.proofs.Replaying.{read_none, read_some}
use Rattle.site_state.proofs.state.SiteState.replay.Goals as goal

pub returns-in-Ok-Some-clause-made : goal.returns-in-Ok-Some-clause-made
returns-in-Ok-Some-clause-made c = λ terms count fields kept few keeps.
    let read = read_some terms fields c.args.payload.now c.in-Ok-Some.field-0 c.in-Ok-Some.prepared c.in-Ok-Some.field-0-is (c.in-Ok-Some.ensures.read terms fields keeps) in
    record {
      step = c.in-Ok-Some.prepared.step;
      legal = read.0;
      form = read.1;
      keeps = c.apply.ensures terms count fields kept few (c.in-Ok-Some.ensures.keeps fields keeps) read.0;
    }

pub returns-in-Ok-None-clause-refused : goal.returns-in-Ok-None-clause-refused
returns-in-Ok-None-clause-refused c = λ terms fields keeps.
    read_none terms fields c.args.payload.now c.in-Ok-None.field-0 c.in-Ok-None.field-0-is (c.in-Ok-None.ensures.read terms fields keeps)
