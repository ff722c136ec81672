use Rattle.std.proofs.Common.{◌≡◌, ◌≤◌, ◌+◌, length, Bool, IsTrue, IsSome}
use Rattle.session.specs.Rounds.{Phase}
use Rattle.session.specs.Standing.{StandsAt}
use Rattle.session.specs.Kept.{Passes}
use Rattle.session.specs.Session.{seen}
use Rattle.session.specs.Ran.{Ran}
use Rattle.session.proofs.run.converse.Given as goal
use Rattle.site_history.specs.Terms.{Terms}

abbrev pub invariant-requests : goal.invariant-requests
invariant-requests g l = record {
  ran : (terms : Terms) (told : Bool) → (IsTrue told → IsTrue g.B.Bank.tells) → (phase : Phase) → StandsAt terms told g.B.Bank.view l.fn.session.engine l.fn.session.own_moment (g.C.Clock.moments l.fn.clock) phase
      → Ran terms g.L.Protocol.asks (StandsAt terms told g.B.Bank.view l.session.engine l.session.own_moment (g.C.Clock.moments l.clock)) told (g.B.Bank.view l.session.engine.bank)
      (seen g.I.Source.left g.I.Source.faults g.O.Sink.written g.O.Sink.faults g.F.Folder.texts g.F.Folder.faults g.B.Bank.faults g.B.Bank.journal_faults g.B.Bank.last_fault g.B.Bank.view l.fn.input l.fn.output l.fn.folder l.fn.session.engine.bank)
      (seen g.I.Source.left g.I.Source.faults g.O.Sink.written g.O.Sink.faults g.F.Folder.texts g.F.Folder.faults g.B.Bank.faults g.B.Bank.journal_faults g.B.Bank.last_fault g.B.Bank.view l.input l.output l.folder l.session.engine.bank)
      (g.L.Protocol.reading l.fn.protocol) (g.L.Protocol.reading l.protocol) phase l.session.marks.items l.session.status;
  passes : (terms : Terms) (told : Bool) → (IsTrue told → IsTrue g.B.Bank.tells) → (phase : Phase) → StandsAt terms told g.B.Bank.view l.fn.session.engine l.fn.session.own_moment (g.C.Clock.moments l.fn.clock) phase
      → IsTrue told → Passes (g.B.Bank.view l.fn.session.engine.bank) (g.B.Bank.view l.session.engine.bank);
  size : l.session.engine.journal.size ≡ l.fn.session.engine.journal.size;
  patterns : l.session.engine.patterns ≡ l.fn.session.engine.patterns;
  clock : IsSome l.fn.session.own_moment → (l.clock ≡ l.fn.clock) × IsSome l.session.own_moment;
  folder_texts : g.F.Folder.texts l.folder ≡ g.F.Folder.texts l.fn.folder;
  folder_later : g.F.Folder.faults l.fn.folder ≤ g.F.Folder.faults l.folder;
  source_later : g.I.Source.faults l.fn.input ≤ g.I.Source.faults l.input;
  sink_later : g.O.Sink.faults l.fn.output ≤ g.O.Sink.faults l.output;
  bank_later : g.B.Bank.faults l.fn.session.engine.bank ≤ g.B.Bank.faults l.session.engine.bank;
  source_beside : g.I.Source.beside l.input ≡ g.I.Source.beside l.fn.input;
  sink_beside : g.O.Sink.beside l.output ≡ g.O.Sink.beside l.fn.output;
}

abbrev pub decreases-requests : goal.decreases-requests
decreases-requests g l = (g.L.Protocol.reading l.protocol).budget + length (g.L.Protocol.reading l.protocol).held
