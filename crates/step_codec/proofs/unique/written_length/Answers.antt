use Rattle.step_codec.proofs.Lengths.{length-written, written_short}
use Rattle.step_codec.proofs.unique.written_length.Goals as goal

pub returns-clause-exact : goal.returns-clause-exact
returns-clause-exact c = length-written

pub returns-clause-short : goal.returns-clause-short
returns-clause-short c = written_short
