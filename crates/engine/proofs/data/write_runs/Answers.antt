use Rattle.std.proofs.Common.{ℕ, min, length, take, drop, refl, ◌∙◌, ap, arith}
use Rattle.site_history.proofs.Storing.{next_piece, next_rest, stored_next}
use Rattle.engine.proofs.Pieces.{nothing_written, wrote_next}
use Rattle.engine.proofs.data.write_runs.Goals as goal

pub loop-run-init : goal.loop-run-init
loop-run-init g c = record {
  left = refl;
  wrote = λ told. nothing_written _ _ (g.met.B.Bank.sound _ told);
  written = λ told. tt;
  later = omega arith;
  journal = refl;
  last = refl;
}

pub returns-in_err-write_run-clause-wrote : goal.returns-in_err-write_run-clause-wrote
returns-in_err-write_run-clause-wrote g c = λ told.
    wrote_next _ _ _ c.args.runs.now c.loop-run.run-index _ _ (g.met.B.Bank.sound _ told) (g.met.B.Bank.sound _ told) c.loop-run-test.true
    (omega (arith, c.split_at.ensures.front_len, c.min-count.ensures, c.room_of.ensures))
    (c.loop-run.invariant.wrote told) (c.write_run.ensures.torn told)

pub loop-run-preserved : goal.loop-run-preserved
loop-run-preserved g c = record {
  left = c.split_at.ensures.back ∙ ap (λ (n : ℕ). drop n c.loop-run.rest.now) (c.min-count.ensures ∙ ap (λ (n : ℕ). min n (length c.loop-run.rest.now)) c.room_of.ensures)
      ∙ next_rest c.args.runs.now c.args.bytes.now c.loop-run.rest.now c.loop-run.run-index _ c.loop-run-test.true c.loop-run.invariant.left;
  wrote = λ told.
      wrote_next _ _ _ c.args.runs.now c.loop-run.run-index _ _ (g.met.B.Bank.sound _ told) (g.met.B.Bank.sound _ told) c.loop-run-test.true
      (omega (arith, c.split_at.ensures.front_len, c.min-count.ensures, c.room_of.ensures))
      (c.loop-run.invariant.wrote told) (c.write_run.ensures.torn told);
  written = λ told.
      stored_next _ _ c.args.runs.now c.loop-run.run-index _ c.args.bytes.now _ (g.met.B.Bank.sound _ told) (g.met.B.Bank.sound _ told) c.requires c.loop-run-test.true
      (c.split_at.ensures.front ∙ ap (λ (n : ℕ). take n c.loop-run.rest.now) (c.min-count.ensures ∙ ap (λ (n : ℕ). min n (length c.loop-run.rest.now)) c.room_of.ensures)
      ∙ next_piece c.args.runs.now c.args.bytes.now c.loop-run.rest.now c.loop-run.run-index _ c.loop-run-test.true c.loop-run.invariant.left)
      (omega (arith, c.split_at.ensures.front_len, c.min-count.ensures, c.room_of.ensures))
      (c.write_run.ensures.torn told) (c.in_ok-write_run.ensures.written told) (c.loop-run.invariant.written told);
  later = omega (arith, c.loop-run.invariant.later, c.write_run.ensures.counted.later);
  journal = c.write_run.ensures.counted.journal ∙ c.loop-run.invariant.journal;
  last = c.in_ok-write_run.ensures.counted.last ∙ c.loop-run.invariant.last;
}
