use Rattle.std.proofs.Common.{◌≡◌, ◌∷◌, ◌++◌, length}
use Rattle.archiver_lines.proofs.section_lines.texts_of.Given as goal

abbrev pub invariant-loop-text : goal.invariant-loop-text
invariant-loop-text l = l.texts ++ l.fields ≡ l.first ∷ l.initial.fields

abbrev pub decreases-loop-text : goal.decreases-loop-text
decreases-loop-text l = length l.fields
