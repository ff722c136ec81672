use Rattle.std.proofs.Common.{refl}
use Rattle.bank.proofs.Readings.{nothing_read}
use Rattle.std.proofs.Common.{ℕ, ◌∙◌, subst}
use Rattle.journal.specs.Records.{HoldsRecords}
use Rattle.site_history.specs.Histories.{written_forms}
use Rattle.engine.proofs.Standing.{opened, stands_read, tells_before, holds_before}
use Rattle.engine.proofs.engine.Engine.reopen.Goals as goal

pub returns-in_default-clause-unchanged : goal.returns-in_default-clause-unchanged
returns-in_default-clause-unchanged g c = λ told. nothing_read _ (g.met.B.Bank.sound _ told)

pub returns-in-Ok-read_site-clause-stands : goal.returns-in-Ok-read_site-clause-stands
returns-in-Ok-read_site-clause-stands g c = λ terms size told tells before settled.
    let read = c.in-Ok-read_site.ensures.read terms in
    opened terms told g.B.Bank.view before (g.B.Bank.view c.args.bank) _ read.0 read.1 c.count.ensures refl refl (c.in-Ok-read_site.ensures.size ∙ size) settled
    (λ t. c.in-Ok-read_site.ensures.unchanged (tells t))
    (λ t. c.in-Ok-read_site.ensures.durable (tells t))
    (λ t. subst (λ (n : ℕ). HoldsRecords ((g.B.Bank.view c.read_site.new.bank).content 0) 0 (written_forms read.0) n) size (read.2 (tells t)))

pub returns-in-Ok-read_site-clause-held : goal.returns-in-Ok-read_site-clause-held
returns-in-Ok-read_site-clause-held g c = λ terms size.
    let read = c.in-Ok-read_site.ensures.read terms in (
      read.0,
      stands_read terms g.B.Bank.view _ read.0 read.1 c.count.ensures refl refl (c.in-Ok-read_site.ensures.size ∙ size),
      λ told. holds_before terms (g.B.Bank.view c.args.bank) (g.B.Bank.view c.read_site.new.bank) read.0 (c.in-Ok-read_site.ensures.unchanged told) read.1.history
          (subst (λ (n : ℕ). HoldsRecords ((g.B.Bank.view c.read_site.new.bank).content 0) 0 (written_forms read.0) n) size (read.2 told)),
    )

pub returns-in-Ok-read_site-clause-journal : goal.returns-in-Ok-read_site-clause-journal
returns-in-Ok-read_site-clause-journal g c = λ told terms size.
    let read = c.in-Ok-read_site.ensures.read terms in (
      read.0,
      holds_before terms (g.B.Bank.view c.args.bank) (g.B.Bank.view c.read_site.new.bank) read.0 (c.in-Ok-read_site.ensures.unchanged told) read.1.history
          (subst (λ (n : ℕ). HoldsRecords ((g.B.Bank.view c.read_site.new.bank).content 0) 0 (written_forms read.0) n) size (read.2 told)),
    )

pub returns-in-Err-clause-bad_journal : goal.returns-in-Err-clause-bad_journal
returns-in-Err-clause-bad_journal g c = λ told terms size.
    tells_before terms (g.B.Bank.view c.args.bank) (g.B.Bank.view c.read_site.new.bank) c.in-Err.cause (c.in-Err.ensures.unchanged told) (c.in-Err.ensures.bad told terms size)
