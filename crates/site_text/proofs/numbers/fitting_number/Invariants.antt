use Rattle.site_text.proofs.Digits.{SoFar}
use Rattle.site_text.proofs.numbers.fitting_number.Given as goal

abbrev pub invariant-loop-byte : goal.invariant-loop-byte
invariant-loop-byte l = SoFar l.digits l.byte-index l.number
