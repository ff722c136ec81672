use Rattle.std.proofs.Common.{◌+◌, length, subst, sym}
use Rattle.bank.specs.View.{Wrote}
use Rattle.bank.proofs.Writes.{wrote_nothing, wrote_then}
use Rattle.journal.proofs.writing.write_closed.Goals.{then-payload-le-SHORT_MAX+in_ok-write_short, else-payload-le-SHORT_MAX+in_ok-write_long}
use Rattle.journal.proofs.writing.write_closed.Goals as goal

pub returns-clause-wrote : goal.returns-clause-wrote
returns-clause-wrote g c = λ told.
    let framed : Wrote 0 (c.args.place + 1) (5 + length c.args.payload.now) (g.B.Bank.view c.args.bank.now) (g.B.Bank.view c.if-payload-le-SHORT_MAX.bank) =
    elim c.if-payload-le-SHORT_MAX.branch [
      | then-payload-le-SHORT_MAX+in_ok-write_short w ↦
          subst (λ b. Wrote 0 (c.args.place + 1) (5 + length c.args.payload.now) (g.B.Bank.view c.args.bank.now) (g.B.Bank.view b)) (sym w.bank-is) (w.write_short.ensures.wrote told)
      | else-payload-le-SHORT_MAX+in_ok-write_long w ↦
          subst (λ b. Wrote 0 (c.args.place + 1) (5 + length c.args.payload.now) (g.B.Bank.view c.args.bank.now) (g.B.Bank.view b)) (sym w.bank-is) (w.write_long.ensures.wrote told)
    ] in
    wrote_then _ _ _ _ _ _ framed (wrote_nothing _ _ _ _ _ (g.met.B.Bank.sound _ told) (g.met.B.Bank.sound _ told) (c.sync.ensures.unchanged told))
