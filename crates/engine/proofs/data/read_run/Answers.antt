use Rattle.bank.proofs.Readings.{nothing_read, only_read}
use Rattle.engine.proofs.data.read_run.Goals as goal

pub returns-then-is_empty-clause-unchanged : goal.returns-then-is_empty-clause-unchanged
returns-then-is_empty-clause-unchanged g c = λ told. nothing_read _ (g.met.B.Bank.sound _ told)

pub returns-clause-unchanged : goal.returns-clause-unchanged
returns-clause-unchanged g c = λ told. only_read _ _ (g.met.B.Bank.sound _ told) (g.met.B.Bank.sound _ told) (c.read.ensures.unchanged told)
