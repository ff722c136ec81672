use Rattle.std.proofs.Common.{sym, ◌∙◌}
use Rattle.std.proofs.lemmas.Bool.{eqb-true}
use Rattle.site_text.proofs.Groups.{empty_group}
use Rattle.site_text.proofs.ages.group_seconds.Goals as goal

pub returns-then-is_empty : goal.returns-then-is_empty
returns-then-is_empty c = empty_group c.args.group.now (eqb-true _ _ (sym c.is_empty.ensures ∙ c.if-is_empty.true))
