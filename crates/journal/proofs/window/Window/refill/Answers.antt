use Rattle.bank.proofs.Readings.{only_read}
use Rattle.journal.proofs.window.Window.refill.Goals as goal

pub returns-clause-unchanged : goal.returns-clause-unchanged
returns-clause-unchanged g c = λ told. only_read _ _ (g.met.B.Bank.sound _ told) (g.met.B.Bank.sound _ told) (c.read.ensures.unchanged told)
