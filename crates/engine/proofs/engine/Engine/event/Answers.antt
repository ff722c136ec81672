use Rattle.engine.proofs.Serving.{event_at_rest, event_reopened, event_refused, asked_told}
use Rattle.engine.proofs.engine.Engine.event.Goals as goal

pub returns-in-Ok-clause-turn : goal.returns-in-Ok-clause-turn
returns-in-Ok-clause-turn g c = λ terms told tells w s.
    event_reopened terms told g.B.Bank.view c.args.event c.args.now _ _ c.args.self.now c.recover.new.self c.serve.new.self w s c.if-self.true
    (c.in-Ok.ensures.recovered terms told tells w s c.if-self.true) (λ mid stands. c.serve.ensures.turn terms told tells mid stands)

pub returns-in-Ok-clause-bad_journal : goal.returns-in-Ok-clause-bad_journal
returns-in-Ok-clause-bad_journal g c = λ tells terms size. c.serve.ensures.served.journal terms ((g.B.Bank.view c.serve.new.self.bank).content 0)

pub returns-in-Err-clause-turn : goal.returns-in-Err-clause-turn
returns-in-Err-clause-turn g c = λ terms told tells w s.
    let refused = c.in-Err.ensures.recovered terms told tells w s c.if-self.true in
    event_refused terms told g.B.Bank.view c.args.event c.args.now _ _ c.args.self.now c.recover.new.self w s c.if-self.true refused.0 refused.1

pub returns-else-self-clause-turn : goal.returns-else-self-clause-turn
returns-else-self-clause-turn g c = λ terms told tells w s.
    event_at_rest terms told g.B.Bank.view c.args.event c.args.now _ _ c.args.self.now c.serve-else-self.new.self w s c.if-self.false
    (λ mid stands. c.serve-else-self.ensures.turn terms told tells mid stands)

pub returns-else-self-clause-bad_journal : goal.returns-else-self-clause-bad_journal
returns-else-self-clause-bad_journal g c = λ tells terms size. c.serve-else-self.ensures.served.journal terms ((g.B.Bank.view c.serve-else-self.new.self.bank).content 0)

pub returns-in-Ok-clause-wrong_file : goal.returns-in-Ok-clause-wrong_file
returns-in-Ok-clause-wrong_file g c = λ terms told tells w s texts is.
    let turn = returns-in-Ok-clause-turn g c terms told tells w s in
    asked_told terms told w c.args.event texts c.args.now _ ((g.B.Bank.view c.args.self.now.bank).content 0) _ turn.0 is turn.1

pub returns-in-Err-clause-wrong_file : goal.returns-in-Err-clause-wrong_file
returns-in-Err-clause-wrong_file g c = λ terms told tells w s texts is.
    let turn = returns-in-Err-clause-turn g c terms told tells w s in
    asked_told terms told w c.args.event texts c.args.now _ ((g.B.Bank.view c.args.self.now.bank).content 0) _ turn.0 is turn.1

pub returns-else-self-clause-wrong_file : goal.returns-else-self-clause-wrong_file
returns-else-self-clause-wrong_file g c = λ terms told tells w s texts is.
    let turn = returns-else-self-clause-turn g c terms told tells w s in
    asked_told terms told w c.args.event texts c.args.now _ ((g.B.Bank.view c.args.self.now.bank).content 0) _ turn.0 is turn.1
