use Rattle.desk.proofs.Lines.{whole_line}
use Rattle.desk.proofs.line.write_words.Goals as goal

pub returns-in_ok-write_more-in-Some : goal.returns-in_ok-write_more-in-Some
returns-in_ok-write_more-in-Some c = whole_line _ _ _ _ _ _ c.in-Some.ensures.cases.0 c.in_ok-write_word-in-Some.ensures c.in_ok-write_more-in-Some.ensures
