use Rattle.std.proofs.Common.{sym, ◌∙◌, ap, arith}
use Rattle.std.specs.Prelude.{option_and_then}
use Rattle.site_text.specs.Numbers.{within}
use Rattle.site_text.proofs.Digits.{none_within, fits_within}
use Rattle.site_text.proofs.numbers.read_number_within.Goals as goal

pub returns-then-not-has_length-clause-value : goal.returns-then-not-has_length-clause-value
returns-then-not-has_length-clause-value c = none_within c.args.most c.args.low c.args.high c.args.field.now (sym c.has_length.ensures ∙ c.if-not-has_length.true)

pub returns-in_err-number-clause-value : goal.returns-in_err-number-clause-value
returns-in_err-number-clause-value c = c.from_residual.ensures ∙ ap (option_and_then (within c.args.low c.args.high)) c.in_err-number.ensures ∙ fits_within c.args.most c.args.low c.args.high c.args.field.now (omega arith) (sym c.has_length.ensures ∙ c.if-not-has_length.false)

pub returns-clause-value : goal.returns-clause-value
returns-clause-value c = c.within.ensures.value ∙ ap (option_and_then (within c.args.low c.args.high)) c.in_ok-number.ensures ∙ fits_within c.args.most c.args.low c.args.high c.args.field.now (omega arith) (sym c.has_length.ensures ∙ c.if-not-has_length.false)
