use Rattle.std.proofs.Common.{length}
use Rattle.site_text.proofs.Groups.{Sums}
use Rattle.site_text.proofs.ages.read_age.Given as goal

abbrev pub invariant-loop-at : goal.invariant-loop-at
invariant-loop-at l = Sums l.field l.sum l.rest

abbrev pub decreases-loop-at : goal.decreases-loop-at
decreases-loop-at l = length l.rest
