use Rattle.std.proofs.Common.{arith, length}
use Rattle.site_text.proofs.Digits.{shifted_small}
use Rattle.site_text.proofs.weights.decimal_millionths.Goals as goal

pub overflow_cast-result : goal.overflow_cast-result
overflow_cast-result c = omega (arith, shifted_small c.in_ok-number.number (length c.args.digits.now) c.pow-scale.result c.in_ok-number.ensures.bound (c.in_ok-number.ensures.digits.1) c.pow-scale.ensures)

pub returns-clause-bound : goal.returns-clause-bound
returns-clause-bound c = shifted_small c.in_ok-number.number (length c.args.digits.now) c.pow-scale.result c.in_ok-number.ensures.bound (c.in_ok-number.ensures.digits.1) c.pow-scale.ensures
