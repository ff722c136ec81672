use Rattle.desk.proofs.LineLaws.{line_said, line_reads, line_wrong, line_refuses}
use Rattle.desk.proofs.laws.each_line_says_one_thing.Goals as goal

pub returns-clause-said : goal.returns-clause-said
returns-clause-said c = λ line asked. (line_said line asked, line_reads line asked)

pub returns-clause-wrong : goal.returns-clause-wrong
returns-clause-wrong c = λ line refusal. (line_wrong line refusal, line_refuses line refusal)
