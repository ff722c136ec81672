use Rattle.std.proofs.Common.{◌≤◌, ◌≡◌, ◌*◌, IsTrue, drop, take}
use Rattle.bank.specs.Inside.{WroteInside}
use Rattle.cache_space.specs.Space.{blocks_in}
use Rattle.site_history.specs.Extents.{extents_over, AllStand}
use Rattle.site_history.specs.Pinned.{in_blocks_of}
use Rattle.engine.proofs.data.write_runs.Given as goal

-- the runs so far are written, and what is left is left for the others
abbrev pub invariant-loop-run : goal.invariant-loop-run
invariant-loop-run g l = record {
  left : l.rest ≡ drop (blocks_in (take l.run-index l.runs) * 4096) l.bytes;
  wrote : IsTrue g.B.Bank.tells → WroteInside 1 (in_blocks_of l.runs) (g.B.Bank.view l.fn.bank) (g.B.Bank.view l.bank);
  written : IsTrue g.B.Bank.tells → AllStand (g.B.Bank.view l.bank).content (extents_over (take l.run-index l.runs) l.bytes);
  later : g.B.Bank.faults l.fn.bank ≤ g.B.Bank.faults l.bank;
  journal : g.B.Bank.journal_faults l.bank ≡ g.B.Bank.journal_faults l.fn.bank;
  last : g.B.Bank.last_fault l.bank ≡ g.B.Bank.last_fault l.fn.bank;
}
