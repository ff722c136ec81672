use Rattle.std.proofs.Common.{arith}
use Rattle.bank.proofs.Writes.{wrote, wrote_then, widened}
use Rattle.journal.proofs.RecordLaws.{ok_then}
use Rattle.journal.proofs.Append.{three_writes}
use Rattle.journal.proofs.writing.write_long.Goals as goal

pub returns-in_err-write-clause-wrote : goal.returns-in_err-write-clause-wrote
returns-in_err-write-clause-wrote g c = λ told.
    widened _ _ _ _ _ _ _ (omega arith) (omega arith) (wrote _ _ _ _ _ (g.met.B.Bank.sound _ told) (g.met.B.Bank.sound _ told) (c.write.ensures.torn told))

pub returns-in_err-write-2-clause-wrote : goal.returns-in_err-write-2-clause-wrote
returns-in_err-write-2-clause-wrote g c = λ told.
    let first = wrote _ _ _ _ _ (g.met.B.Bank.sound _ told) (g.met.B.Bank.sound _ told) (c.write.ensures.torn told) in
    let second = wrote _ _ _ _ _ (g.met.B.Bank.sound _ told) (g.met.B.Bank.sound _ told) (c.write-2.ensures.torn told) in
    wrote_then _ _ _ _ _ _ (widened _ _ _ _ _ _ _ (omega arith) (omega arith) first) (widened _ _ _ _ _ _ _ (omega arith) (omega arith) second)

pub returns-clause-wrote : goal.returns-clause-wrote
returns-clause-wrote g c = λ told.
    let first = wrote _ _ _ _ _ (g.met.B.Bank.sound _ told) (g.met.B.Bank.sound _ told) (c.write.ensures.torn told) in
    let second = wrote _ _ _ _ _ (g.met.B.Bank.sound _ told) (g.met.B.Bank.sound _ told) (c.write-2.ensures.torn told) in
    let third = wrote _ _ _ _ _ (g.met.B.Bank.sound _ told) (g.met.B.Bank.sound _ told) (c.write-3.ensures.torn told) in
    wrote_then _ _ _ _ _ _ (wrote_then _ _ _ _ _ _ (widened _ _ _ _ _ _ _ (omega arith) (omega arith) first) (widened _ _ _ _ _ _ _ (omega arith) (omega arith) second))
    (widened _ _ _ _ _ _ _ (omega arith) (omega arith) third)

pub returns-clause-framed : goal.returns-clause-framed
returns-clause-framed g c = λ told. ok_then c.write-3.result _ _ (three_writes c.args.place _ _ _ _ _ c.to_le_bytes-length.ensures (c.in_ok-write.ensures.written told)
    (c.write-2.ensures.torn told).content (c.in_ok-write-2.ensures.written told) (c.write-3.ensures.torn told).content) (c.write-3.ensures.written told)
