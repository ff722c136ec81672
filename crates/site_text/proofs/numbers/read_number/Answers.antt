use Rattle.std.proofs.Common.{sym, ◌∙◌}
use Rattle.site_text.proofs.Digits.{no_number, fits, all_bounded}
use Rattle.site_text.proofs.numbers.read_number.Goals as goal

pub returns-then-not-has_length-clause-value : goal.returns-then-not-has_length-clause-value
returns-then-not-has_length-clause-value c = no_number c.args.most c.args.field.now (sym c.has_length.ensures ∙ c.if-not-has_length.true)

pub returns-clause-value : goal.returns-clause-value
returns-clause-value c = c.fitting_number.ensures ∙ fits c.args.most c.args.field.now c.requires (sym c.has_length.ensures ∙ c.if-not-has_length.false)

pub returns-clause-bound : goal.returns-clause-bound
returns-clause-bound c = all_bounded c.args.most c.args.field.now c.fitting_number.result (c.fitting_number.ensures ∙ fits c.args.most c.args.field.now c.requires (sym c.has_length.ensures ∙ c.if-not-has_length.false))
