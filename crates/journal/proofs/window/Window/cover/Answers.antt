use Rattle.bank.proofs.Readings.{nothing_read}
use Rattle.journal.proofs.window.Window.cover.Goals as goal

pub returns-then-place-count-clause-unchanged : goal.returns-then-place-count-clause-unchanged
returns-then-place-count-clause-unchanged g c = λ told. nothing_read _ (g.met.B.Bank.sound _ told)
