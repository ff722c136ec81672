use Rattle.std.proofs.Common.{◌≡◌, [], length}
use Rattle.archiver_lines.specs.SectionSteps.{items_of}
use Rattle.archiver_lines.proofs.section_lines.vsn_items.Given as goal

abbrev pub invariant-loop-first : goal.invariant-loop-first
invariant-loop-first l = items_of l.items.pools.now l.items.media.now l.items.line l.found l.fields ≡ items_of l.items.pools.now l.items.media.now l.items.line [] l.initial.fields

abbrev pub decreases-loop-first : goal.decreases-loop-first
decreases-loop-first l = length l.fields
