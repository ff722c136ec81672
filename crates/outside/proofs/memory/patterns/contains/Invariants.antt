use Rattle.std.proofs.Common.{◌≡◌, length}
use Rattle.outside.specs.Literals.{contains_text}
use Rattle.outside.proofs.memory.patterns.contains.Given as goal

abbrev pub invariant-loop-rest : goal.invariant-loop-rest
invariant-loop-rest l = contains_text l.subject l.text ≡ contains_text l.rest l.text

abbrev pub decreases-loop-rest : goal.decreases-loop-rest
decreases-loop-rest l = length l.rest
