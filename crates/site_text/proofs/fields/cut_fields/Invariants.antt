use Rattle.std.proofs.Common.{◌≡◌, ◌++◌, length}
use Rattle.std.specs.Prelude.{filter, not}
use Rattle.std.specs.List.{slice_split}
use Rattle.site_text.specs.Lines.{fields_of, is_blank, is_empty}
use Rattle.site_text.proofs.fields.cut_fields.Given as goal

abbrev pub invariant-loop-at : goal.invariant-loop-at
invariant-loop-at l = l.found ++ filter (λ f. not (is_empty f)) (slice_split is_blank l.rest) ≡ fields_of l.text

abbrev pub decreases-loop-at : goal.decreases-loop-at
decreases-loop-at l = length l.rest
