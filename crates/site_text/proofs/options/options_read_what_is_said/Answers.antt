use Rattle.site_text.proofs.OptionLaws.{options_said, options_wrong, options_read, options_refused}
use Rattle.site_text.proofs.options.options_read_what_is_said.Goals as goal

pub returns-clause-said : goal.returns-clause-said
returns-clause-said g c = λ options before fields given. (options_said options before fields given, options_read options before fields given)

pub returns-clause-wrong : goal.returns-clause-wrong
returns-clause-wrong g c = λ options before fields fault. (options_wrong options before fields fault, options_refused options before fields fault)
