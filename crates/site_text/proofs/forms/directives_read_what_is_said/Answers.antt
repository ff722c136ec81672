use Rattle.site_text.proofs.FormLaws.{directive_said, directive_wrong, directive_read, directive_refused}
use Rattle.site_text.proofs.forms.directives_read_what_is_said.Goals as goal

pub returns-clause-said : goal.returns-clause-said
returns-clause-said g c = λ names words fields said. (directive_said names words fields said, directive_read names words fields said)

pub returns-clause-wrong : goal.returns-clause-wrong
returns-clause-wrong g c = λ names words fields fault. (directive_wrong names words fields fault, directive_refused names words fields fault)
