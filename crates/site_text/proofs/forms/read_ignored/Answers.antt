use Rattle.site_text.proofs.FormLaws.{ignored_next}
use Rattle.site_text.proofs.forms.read_ignored.Goals as goal

pub returns-in-Ok : goal.returns-in-Ok
returns-in-Ok g c = ignored_next c.args.said c.args.fields _ c.in-Ok.ensures
