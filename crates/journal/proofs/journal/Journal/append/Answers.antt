use Rattle.std.proofs.Common.{◌+◌, ◌≤◌, ◌∙◌, ap, length, arith}
use Rattle.journal.specs.State.{JournalState}
use Rattle.bank.proofs.Readings.{nothing_read, read_is_write}
use Rattle.journal.proofs.Append.{untouched, closed_meanwhile, gate_meanwhile, acknowledged}
use Rattle.journal.proofs.journal.Journal.append.Goals as goal

pub returns-then-not-has_room-clause-any_instant : goal.returns-then-not-has_room-clause-any_instant
returns-then-not-has_room-clause-any_instant g c = λ told xs e hold.
    untouched _ xs _ _ e _ (g.met.B.Bank.sound _ told) hold

pub returns-then-not-has_room-clause-wrote : goal.returns-then-not-has_room-clause-wrote
returns-then-not-has_room-clause-wrote g c = λ told. read_is_write _ _ _ _ _ (nothing_read _ (g.met.B.Bank.sound _ told))

pub returns-in_err-write_closed-clause-any_instant : goal.returns-in_err-write_closed-clause-any_instant
returns-in_err-write_closed-clause-any_instant g c = λ told xs e hold.
    closed_meanwhile _ xs _ _ (ap (λ (s : JournalState). s.place) c.self.view_is ∙ e) _ _ hold (c.write_closed.ensures.wrote told)

pub returns-in_err-open_gate-clause-any_instant : goal.returns-in_err-open_gate-clause-any_instant
returns-in_err-open_gate-clause-any_instant g c = λ told xs e hold.
    let room : c.self.inside.place + 6 + length c.args.payload.now ≤ c.args.self.now.size = omega (arith, c.has_room.ensures.0 c.if-not-has_room.false, ap (λ (s : JournalState). s.place) c.self.view_is) in
    gate_meanwhile _ xs _ _ (ap (λ (s : JournalState). s.place) c.self.view_is ∙ e) _ _ (g.met.B.Bank.sound _ told) hold c.requires room
    (c.write_closed.ensures.wrote told) (c.in_ok-write_closed.ensures.durable told) (c.in_ok-write_closed.ensures.framed told) _ (c.open_gate.ensures.wrote told)

pub returns-clause-any_instant : goal.returns-clause-any_instant
returns-clause-any_instant g c = λ told xs e hold.
    let room : c.self.inside.place + 6 + length c.args.payload.now ≤ c.args.self.now.size = omega (arith, c.has_room.ensures.0 c.if-not-has_room.false, ap (λ (s : JournalState). s.place) c.self.view_is) in
    gate_meanwhile _ xs _ _ (ap (λ (s : JournalState). s.place) c.self.view_is ∙ e) _ _ (g.met.B.Bank.sound _ told) hold c.requires room
    (c.write_closed.ensures.wrote told) (c.in_ok-write_closed.ensures.durable told) (c.in_ok-write_closed.ensures.framed told) _ (c.open_gate.ensures.wrote told)

pub returns-clause-acknowledged : goal.returns-clause-acknowledged
returns-clause-acknowledged g c = λ told xs e hold.
    let room : c.self.inside.place + 6 + length c.args.payload.now ≤ c.args.self.now.size = omega (arith, c.has_room.ensures.0 c.if-not-has_room.false, ap (λ (s : JournalState). s.place) c.self.view_is) in
    acknowledged _ xs _ _ (ap (λ (s : JournalState). s.place) c.self.view_is ∙ e) _ _ (g.met.B.Bank.sound _ told) hold c.requires room
    (c.write_closed.ensures.wrote told) (c.in_ok-write_closed.ensures.durable told) (c.in_ok-write_closed.ensures.framed told) _ (c.open_gate.ensures.wrote told) (c.in_ok-open_gate.ensures.durable told) (c.in_ok-open_gate.ensures.opened told)
