use Rattle.std.proofs.Common.{◌<◌, length, sym, ◌∙◌, arith}
use Rattle.std.proofs.lemmas.Bool.{eqb-true, eqb-false}
use Rattle.site_text.proofs.Groups.{no_group, last_group}
use Rattle.site_text.proofs.ages.with_last_group.Goals as goal

pub returns-then-is_empty : goal.returns-then-is_empty
returns-then-is_empty c = no_group c.args.sum c.args.rest.now (eqb-true _ _ (sym c.is_empty.ensures ∙ c.if-is_empty.true)) c.requires.sum

pub returns : goal.returns
returns c =
    let some : 0 < length c.args.rest.now = omega (arith, eqb-false _ _ (sym c.is_empty.ensures ∙ c.if-is_empty.false)) in
    c.with_group.ensures ∙ last_group c.args.sum c.args.rest.now some c.requires.rest
