use Rattle.std.proofs.Common.{◌≤◌, ◌≡◌, ◌*◌, min, ℕ, List, IsTrue, length, take}
use Rattle.bank.specs.View.{OnlyRead}
use Rattle.cache_space.specs.Space.{blocks_in}
use Rattle.site_history.specs.Extents.{extents_over, AllStand}
use Rattle.engine.proofs.data.load.Given as goal

-- the runs so far are read
abbrev pub invariant-loop-run : goal.invariant-loop-run
invariant-loop-run g l = record {
  done : l.done ≡ min (blocks_in (take l.run-index l.runs) * 4096) (length l.into);
  long : length l.into ≡ length l.fn.into;
  bytes : IsTrue g.B.Bank.tells → (bytes : List ℕ) → length l.into ≤ length bytes → AllStand (g.B.Bank.view l.fn.bank).content (extents_over l.runs bytes)
      → take l.done l.into ≡ take l.done bytes;
  unchanged : IsTrue g.B.Bank.tells → OnlyRead (g.B.Bank.view l.fn.bank) (g.B.Bank.view l.bank);
  later : g.B.Bank.faults l.fn.bank ≤ g.B.Bank.faults l.bank;
  journal : g.B.Bank.journal_faults l.bank ≡ g.B.Bank.journal_faults l.fn.bank;
  last : g.B.Bank.last_fault l.bank ≡ g.B.Bank.last_fault l.fn.bank;
}
