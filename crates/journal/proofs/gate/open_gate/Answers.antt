use Rattle.bank.proofs.Writes.{wrote, wrote_nothing, wrote_then}
use Rattle.journal.proofs.gate.open_gate.Goals as goal

pub returns-in_err-write-clause-wrote : goal.returns-in_err-write-clause-wrote
returns-in_err-write-clause-wrote g c = λ told. wrote _ _ _ _ _ (g.met.B.Bank.sound _ told) (g.met.B.Bank.sound _ told) (c.write.ensures.torn told)

pub returns-clause-wrote : goal.returns-clause-wrote
returns-clause-wrote g c = λ told.
    let first = wrote _ _ _ _ _ (g.met.B.Bank.sound _ told) (g.met.B.Bank.sound _ told) (c.write.ensures.torn told) in
    wrote_then _ _ _ _ _ _ first (wrote_nothing _ _ _ _ _ (g.met.B.Bank.sound _ told) (g.met.B.Bank.sound _ told) (c.sync.ensures.unchanged told))
