use Rattle.desk.specs.Texts.{lines_of}
use Rattle.desk.proofs.reply.write_lines.Goals as goal

pub returns-in-Unarchived : goal.returns-in-Unarchived
unfolding lines_of
returns-in-Unarchived c = rw c.in-Unarchived.is c.write_copy.ensures

pub returns-in-StageFailed : goal.returns-in-StageFailed
unfolding lines_of
returns-in-StageFailed c = rw c.in-StageFailed.is c.write_small-in-StageFailed.ensures

pub returns-in-Relabelled : goal.returns-in-Relabelled
unfolding lines_of
returns-in-Relabelled c = rw c.in-Relabelled.is c.write_label.ensures

pub returns-in-JournalFull : goal.returns-in-JournalFull
unfolding lines_of
returns-in-JournalFull c = rw c.in-JournalFull.is c.write_text-in-JournalFull.ensures

pub returns-in-BankFault : goal.returns-in-BankFault
unfolding lines_of
returns-in-BankFault c = rw c.in-BankFault.is c.write_text-in-BankFault.ensures
