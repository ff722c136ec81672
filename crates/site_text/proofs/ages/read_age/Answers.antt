use Rattle.std.proofs.Common.{◌<◌, length, sym, ◌∙◌, arith}
use Rattle.std.proofs.lemmas.Bool.{eqb-false}
use Rattle.site_text.proofs.Groups.{starts, goes_on, is_bad, age_is}
use Rattle.site_text.proofs.ages.read_age.Goals as goal

pub loop-at-init : goal.loop-at-init
loop-at-init c = starts c.args.field.now

pub returns-in_default-with_group-clause-value : goal.returns-in_default-with_group-clause-value
returns-in_default-with_group-clause-value c =
    let some : 0 < length c.args.field.now = omega (arith, eqb-false _ _ (sym c.is_empty.ensures ∙ c.if-is_empty.false)) in
    let none = rw c.cut_behind.ensures.group at c.in_default-with_group.ensures in
    rw (age_is c.args.field.now some) (sym (is_bad c.args.field.now c.loop-at.sum c.loop-at.rest.now c.in-Some.at c.loop-at.invariant (sym c.in-Some.ensures.place) (sym none)))

pub loop-at-preserved : goal.loop-at-preserved
loop-at-preserved c =
    let more = rw c.cut_behind.ensures.group at c.in-Some-with_group.ensures in
    rw c.cut_behind.ensures.after (goes_on c.args.field.now c.loop-at.sum c.in-Some-with_group.more c.loop-at.rest.now c.in-Some.at c.loop-at.invariant (sym c.in-Some.ensures.place) (sym more))
