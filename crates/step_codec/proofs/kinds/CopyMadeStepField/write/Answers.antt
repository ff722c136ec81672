use Rattle.step_codec.specs.Written.{copy_made}
use Rattle.step_codec.proofs.Adding.{adds_last}
use Rattle.step_codec.proofs.kinds.CopyMadeStepField.write.Goals as goal

pub returns : goal.returns
unfolding copy_made
returns c = adds_last _ _ _ _ _ _ _ c.in_ok-write.ensures (adds_last _ _ _ _ _ _ _ c.in_ok-write-2.ensures (adds_last _ _ _ _ _ _ _ c.in_ok-write-3.ensures (adds_last _ _ _ _ _ _ _ c.in_ok-write-4.ensures c.write-5.ensures)))
