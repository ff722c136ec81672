use Rattle.std.proofs.Common.{◌≡◌, ◌+◌, length}
use Rattle.archiver_lines.specs.SectionRules.{items_count}
use Rattle.archiver_lines.proofs.section_lines.are_over.Given as goal

abbrev pub invariant-loop-first : goal.invariant-loop-first
invariant-loop-first l = l.left + items_count l.pools l.media l.initial.fields ≡ l.room + items_count l.pools l.media l.fields

abbrev pub decreases-loop-first : goal.decreases-loop-first
decreases-loop-first l = length l.fields
