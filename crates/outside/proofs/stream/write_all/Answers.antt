use Rattle.std.proofs.Common.{arith, ◌∙◌}
use Rattle.outside.proofs.Pieces.{written_more, written_front}
use Rattle.outside.proofs.stream.write_all.Goals as goal

pub returns-in_err-at-clause-bytes : goal.returns-in_err-at-clause-bytes
returns-in_err-at-clause-bytes g c = written_front _ _ _ _ c.loop-at.at _ c.loop-at-test.true c.from_residual.ensures.0 c.loop-at.invariant.written c.in_err-at.ensures.bytes

pub loop-at-preserved : goal.loop-at-preserved
loop-at-preserved g c = record {
  within = omega (arith, c.in_ok-at.ensures.some);
  written = written_more _ _ _ c.args.bytes.now c.loop-at.at c.in_ok-at.field-0 (omega (arith, c.in_ok-at.ensures.some)) c.loop-at.invariant.written c.in_ok-at.ensures.bytes;
  later = omega (arith, c.loop-at.invariant.later, c.in_ok-at.ensures.cause.later);
  beside = c.in_ok-at.ensures.beside ∙ c.loop-at.invariant.beside;
}
