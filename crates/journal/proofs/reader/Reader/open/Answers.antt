use Rattle.bank.proofs.Readings.{nothing_read, only_read, read_then_read}
use Rattle.journal.proofs.reader.Reader.open.Goals as goal

pub returns-in_err-buffer-clause-unchanged : goal.returns-in_err-buffer-clause-unchanged
returns-in_err-buffer-clause-unchanged g c = λ told. nothing_read _ (g.met.B.Bank.sound _ told)

pub returns-in_err-window-clause-unchanged : goal.returns-in_err-window-clause-unchanged
returns-in_err-window-clause-unchanged g c = λ told. nothing_read _ (g.met.B.Bank.sound _ told)

pub returns-in_err-sync-clause-unchanged : goal.returns-in_err-sync-clause-unchanged
returns-in_err-sync-clause-unchanged g c = λ told. only_read _ _ (g.met.B.Bank.sound _ told) (g.met.B.Bank.sound _ told) (c.sync.ensures.unchanged told)

pub returns-in_err-refill-clause-unchanged : goal.returns-in_err-refill-clause-unchanged
returns-in_err-refill-clause-unchanged g c = λ told.
    read_then_read _ _ _ (only_read _ _ (g.met.B.Bank.sound _ told) (g.met.B.Bank.sound _ told) (c.sync.ensures.unchanged told)) (c.refill.ensures.unchanged told)

pub returns-clause-unchanged : goal.returns-clause-unchanged
returns-clause-unchanged g c = λ told.
    read_then_read _ _ _ (only_read _ _ (g.met.B.Bank.sound _ told) (g.met.B.Bank.sound _ told) (c.sync.ensures.unchanged told)) (c.refill.ensures.unchanged told)
