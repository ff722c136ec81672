use Rattle.desk.proofs.reply.write_refusal.Goals as goal

pub returns-in-NotACommand : goal.returns-in-NotACommand
returns-in-NotACommand c = rw c.in-NotACommand.is c.write_text.ensures

pub returns-in-BadWord : goal.returns-in-BadWord
returns-in-BadWord c = rw c.in-BadWord.is c.write_small.ensures

pub returns-in-LineTooLong : goal.returns-in-LineTooLong
returns-in-LineTooLong c = rw c.in-LineTooLong.is c.write_text-in-LineTooLong.ensures
