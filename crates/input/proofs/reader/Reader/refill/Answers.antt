use Rattle.std.proofs.Common.{sym, ◌∙◌, ap}
use Rattle.input.specs.Reading.{Reading}
use Rattle.input.proofs.Pieces.{lost_byte}
use Rattle.input.proofs.reader.Reader.refill.Goals as goal

pub returns-in-Ok-clause-taken : goal.returns-in-Ok-clause-taken
returns-in-Ok-clause-taken g c =
    let lost = lost_byte _ _ c.args.self.now record { held = c.clear.new.self; budget = c.self.inside.budget; ended = c.self.inside.ended; line = c.self.inside.line } c.fill.new.self c.in-Ok.field-0
    c.requires c.clear.ensures c.in-Ok.ensures.len c.in-Ok.field-0-test.1 c.in-Ok.ensures.within c.in-Ok.ensures.bytes
    (ap (λ (r : Reading). r.budget) (sym c.self.view_is)) (ap (λ (r : Reading). r.ended) (sym c.self.view_is) ∙ c.if-self.false) c.if-self.false in
    (lost.0, lost.1, c.clear.ensures, c.if-self-eq0.true, c.if-self.false)
