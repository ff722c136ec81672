use Rattle.std.proofs.Common.{length}
use Rattle.site_text.proofs.Joins.{Joining}
use Rattle.site_text.proofs.text_lines.joined_lines.Given as goal

abbrev pub invariant-loop-rest : goal.invariant-loop-rest
invariant-loop-rest l = Joining l.text l.found l.first l.number l.before l.rest

abbrev pub decreases-loop-rest : goal.decreases-loop-rest
decreases-loop-rest l = length l.rest
