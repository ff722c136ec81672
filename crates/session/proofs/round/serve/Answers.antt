use Rattle.session.proofs.Responses.{counted_reply, counted_journal, served}
use Rattle.std.proofs.Common.{None}
use Rattle.session.proofs.round.serve.Goals as goal

pub returns-clause-turn : goal.returns-clause-turn
returns-clause-turn g c = λ terms told tells phase stands.
    served terms told g.B.Bank.view c.args.engine.now _ _ None 0 0 phase stands _ _ c.args.event c.take_moment-now.result _ c.event.result c.event.new.self
    c.take_moment-now.ensures.gives (c.event.ensures.turn terms told tells phase.world stands.world)

pub returns-clause-counted : goal.returns-clause-counted
returns-clause-counted g c = counted_reply c.event.result _ _ c.event.ensures.fault c.event.ensures.later

pub returns-clause-journal_counted : goal.returns-clause-journal_counted
returns-clause-journal_counted g c = counted_journal c.event.result _ _ _ c.event.ensures.journal_fault c.event.ensures.journal_later
