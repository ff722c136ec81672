use Rattle.std.proofs.Common.{ℕ, refl, ◌∙◌, subst, rules}
use Rattle.journal.specs.Records.{HoldsRecords}
use Rattle.site_history.specs.Histories.{written_forms}
use Rattle.engine.specs.declared.events.ShutCause.{ShutCause}
use Rattle.engine.specs.Journals.{TellsJournal}
use Rattle.engine.proofs.Standing.{stays, not_bad, recovered}
use Rattle.engine.proofs.engine.Engine.recover.Goals as goal

pub returns-in-Ok-clause-recovered : goal.returns-in-Ok-clause-recovered
returns-in-Ok-clause-recovered g c = λ terms told tells w s due.
    let read = c.in-Ok.ensures.read terms in
    recovered terms g.B.Bank.view c.args.self.now _ w read.0 read.1 c.count-self.ensures c.max-self.ensures refl (c.in-Ok.ensures.size ∙ c.size.ensures.size) told s
    (λ t. g.met.B.Bank.sound _ (tells t))
    (λ t. c.in-Ok.ensures.unchanged (tells t))
    (λ t. c.in-Ok.ensures.durable (tells t))
    (λ t. subst (λ (n : ℕ). HoldsRecords ((g.B.Bank.view c.read_site.new.bank).content 0) 0 (written_forms read.0) n) (c.size.ensures.size ∙ s.size) (read.2 (tells t)))

pub returns-in-Err-BankFault-clause-recovered : goal.returns-in-Err-BankFault-clause-recovered
returns-in-Err-BankFault-clause-recovered g c = λ terms told tells w s due.
    (tt, stays terms g.B.Bank.view c.args.self.now _ w told s refl refl refl refl refl (λ t. c.in-Err-BankFault.ensures.unchanged (tells t)))

pub returns-in-Err-NoMemory-clause-recovered : goal.returns-in-Err-NoMemory-clause-recovered
returns-in-Err-NoMemory-clause-recovered g c = λ terms told tells w s due.
    (tt, stays terms g.B.Bank.view c.args.self.now _ w told s refl refl refl refl refl (λ t. c.in-Err-NoMemory.ensures.unchanged (tells t)))

pub returns-in-Err-BadJournal-clause-recovered : goal.returns-in-Err-BadJournal-clause-recovered
returns-in-Err-BadJournal-clause-recovered g c = λ terms told tells w s due. (
  not_bad terms told (g.B.Bank.view c.args.self.now.bank) (g.B.Bank.view c.read_site.new.bank) w c.in-Err-BadJournal.place s.images
      (λ t. g.met.B.Bank.sound _ (tells t))
      (λ t. c.in-Err-BadJournal.ensures.unchanged (tells t))
      (λ t. subst (λ (cause : ShutCause). TellsJournal terms ((g.B.Bank.view c.read_site.new.bank).content 0) cause) c.in-Err-BadJournal.field-0-is
      (c.in-Err-BadJournal.ensures.bad (tells t) terms (c.size.ensures.size ∙ s.size))),
  stays terms g.B.Bank.view c.args.self.now _ w told s refl refl refl refl refl (λ t. c.in-Err-BadJournal.ensures.unchanged (tells t)),
)

pub returns-in-Err-BadJournal-clause-bad_journal : goal.returns-in-Err-BadJournal-clause-bad_journal
returns-in-Err-BadJournal-clause-bad_journal g c = λ t terms size.
    let bad = c.in-Err-BadJournal.ensures.bad t terms (c.size.ensures.size ∙ size) in
    search rules
