use Rattle.std.proofs.Common.{arith}
use Rattle.step_codec.proofs.Steps.{found, only, refused, refuses}
use Rattle.step_codec.proofs.decode.decode_step.Goals as goal

pub returns-clause-found : goal.returns-clause-found
returns-clause-found c = found c.args.bytes.now c.read_step.result (λ i. omega (arith, c.type_inv.bytes i)) c.read_step.ensures

pub returns-clause-only : goal.returns-clause-only
returns-clause-only c = only c.args.bytes.now c.read_step.result c.read_step.ensures

pub returns-clause-refused : goal.returns-clause-refused
returns-clause-refused c = refused c.args.bytes.now c.read_step.result (λ i. omega (arith, c.type_inv.bytes i)) c.read_step.ensures

pub returns-clause-refuses : goal.returns-clause-refuses
returns-clause-refuses c = refuses c.args.bytes.now c.read_step.result c.read_step.ensures
