use Rattle.std.proofs.Common.{arith, sym}
use Rattle.site_text.proofs.Digits.{starts, goes_on, stops, ends}
use Rattle.site_text.proofs.numbers.fitting_number.Goals as goal

pub loop-byte-init : goal.loop-byte-init
loop-byte-init c = starts c.args.digits.now

pub returns-in_default : goal.returns-in_default
returns-in_default c = stops c.args.digits.now c.loop-byte.byte-index c.loop-byte.number (omega arith) (sym c.in_default.ensures) c.loop-byte.invariant

pub loop-byte-preserved : goal.loop-byte-preserved
loop-byte-preserved c = goes_on c.args.digits.now c.loop-byte.byte-index c.loop-byte.number c.in-Some.more (omega arith) (sym c.in-Some.ensures) c.loop-byte.invariant

pub returns : goal.returns
returns c = ends c.args.digits.now c.loop-byte.byte-index c.loop-byte.number (omega arith) c.loop-byte.invariant
