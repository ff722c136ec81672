use Rattle.step_codec.proofs.Steps.{one_form}
use Rattle.step_codec.proofs.unique.one_form.Goals as goal

pub returns : goal.returns
returns c = one_form
