use Rattle.std.proofs.Common.{◌≡◌, ◌≤◌, ◌-◌, IsTrue}
use Rattle.bank.specs.View.{OnlyRead}
use Rattle.journal.specs.Readers.{IsOver}
use Rattle.engine.specs.Replayed.{IsReadUpTo}
use Rattle.engine.proofs.reopen.replay_rest.Given as goal
use Rattle.site_history.specs.Terms.{Terms}

abbrev pub invariant-records : goal.invariant-records
invariant-records g l = record {
  over : IsTrue g.B.Bank.tells → IsOver ((g.B.Bank.view l.fn.bank).content 0) l.reader;
  so_far : (terms : Terms) → IsReadUpTo terms g.B.Bank.tells ((g.B.Bank.view l.fn.bank).content 0) l.reader l.site;
  size : l.reader.size ≡ l.fn.reader.size;
  unchanged : IsTrue g.B.Bank.tells → OnlyRead (g.B.Bank.view l.fn.bank) (g.B.Bank.view l.bank);
  later : g.B.Bank.faults l.fn.bank ≤ g.B.Bank.faults l.bank;
  journal_later : g.B.Bank.journal_faults l.fn.bank ≤ g.B.Bank.journal_faults l.bank;
}

abbrev pub decreases-records : goal.decreases-records
decreases-records g l = l.reader.size - l.reader.place
