use Rattle.site_text.proofs.FormLaws.{form_said, form_wrong, form_read, form_refused}
use Rattle.site_text.proofs.forms.forms_read_what_is_said.Goals as goal

pub returns-clause-said : goal.returns-clause-said
returns-clause-said g c = λ form fields said. (form_said form fields said, form_read form fields said)

pub returns-clause-wrong : goal.returns-clause-wrong
returns-clause-wrong g c = λ form fields fault. (form_wrong form fields fault, form_refused form fields fault)
