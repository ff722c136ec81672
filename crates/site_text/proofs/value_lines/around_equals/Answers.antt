use Rattle.std.proofs.Common.{sym, refl}
use Rattle.site_text.specs.ValueLines.{is_equals}
use Rattle.site_text.proofs.Cuts.{around_some, around_none}
use Rattle.site_text.proofs.value_lines.around_equals.Goals as goal

pub returns-in-Some : goal.returns-in-Some
returns-in-Some c =
    let around = around_some is_equals c.args.text.now c.in-Some.at (sym c.in-Some.ensures.place) in
    rw (c.cut_at.ensures.before, c.cut_at.ensures.behind, around.0, around.1, around.2) refl

pub returns-in-None : goal.returns-in-None
returns-in-None c = rw (around_none is_equals c.args.text.now (sym c.in-None.ensures.place)) refl
