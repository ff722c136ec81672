use Rattle.journal.specs.Records.{frame}
use Rattle.std.proofs.Common.{arith}
use Rattle.std.proofs.lemmas.Grind.{common_steps}
use Rattle.journal.proofs.writing.fill.Goals as goal

pub returns-clause-framed : goal.returns-clause-framed
unfolding frame
returns-clause-framed c = grind (arith, common_steps)
