use Rattle.std.proofs.Common.{ap, List, Bool, ℕ}
use Rattle.site_events.specs.declared.reply.Reply.{Reply}
use Rattle.session.proofs.OneRoundLaws.{made}
use Rattle.session.proofs.round.one_round.Goals as goal

pub returns-clause-round : goal.returns-clause-round
returns-clause-round g c = λ terms told tells phase stands request heard.
    made terms told g.B.Bank.view _ c.answer-reply.new.session.engine _ _ _ phase request c.answer-reply.result _ _ _ _ _ _ _ _ _ _ _ _ _ _ _ _ _ _ _ c.next_mark-mark.result
    (λ t. g.met.B.Bank.sound _ (tells t)) (λ t. g.met.B.Bank.sound _ (tells t)) (c.answer-reply.ensures.round terms told tells phase stands request.asked heard.asks)
    c.answer-reply.ensures.status c.answer-reply.ensures.counted c.answer-reply.ensures.journal_counted (ap (λ v. v.items) c.answer-reply.ensures.marks) c.next_mark-mark.ensures.answered
    (c.next_mark-mark.ensures.steps terms told) (λ t. c.next_mark-mark.ensures.instant (tells t))
    (ap (λ (f : Reply → List ℕ). f c.answer-reply.result) heard.writes) (ap (λ (f : Reply → Bool). f c.answer-reply.result) heard.ends) c.write_answer.ensures.tells
