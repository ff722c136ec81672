use Rattle.std.proofs.Common.{◌≡◌, ◌+◌, ◌-◌, ◌*◌, ℕ, min, length, take, drop, refl, sym, ◌∙◌, ap, arith, length-take, length-drop}
use Rattle.std.proofs.lemmas.Slice.{take-put_mid}
use Rattle.bank.proofs.Readings.{nothing_read, read_then_read}
use Rattle.cache_space.specs.Space.{blocks_in}
use Rattle.engine.proofs.Pieces.{read_done, read_more, stood_before}
use borrow.Rule.Slice.PartMut.{put_mid, same_len_mid}
use Rattle.engine.proofs.data.load.Goals as goal

pub loop-run-init : goal.loop-run-init
loop-run-init g c = record {
  done = omega arith;
  long = refl;
  bytes = λ told bytes enough stand. refl;
  unchanged = λ told. nothing_read _ (g.met.B.Bank.sound _ told);
  later = omega arith;
  journal = refl;
  last = refl;
}

pub loop-run-preserved : goal.loop-run-preserved
loop-run-preserved g c =
    let i = c.loop-run.invariant in
    let got : length c.read_run.new.into ≡ c.min-count.result =
    omega (arith, c.read_run.auto.into, length-take (c.loop-run.done + c.min-count.result - c.loop-run.done) (drop c.loop-run.done c.loop-run.into), length-drop c.loop-run.done c.loop-run.into, c.min-count.ensures, i.done) in
    let long : length (put_mid c.loop-run.done (c.loop-run.done + c.min-count.result - c.loop-run.done) c.loop-run.into c.read_run.new.into) ≡ length c.loop-run.into =
    same_len_mid c.loop-run.done (c.loop-run.done + c.min-count.result - c.loop-run.done) c.loop-run.into c.read_run.new.into c.read_run.auto.into in
    record {
      done = read_done c.args.runs.now c.loop-run.run-index _ c.loop-run-test.true c.loop-run.done c.room_of.result (length c.loop-run.into) c.min-count.result i.done c.room_of.ensures c.min-count.ensures
          ∙ ap (λ (n : ℕ). min (blocks_in (take (c.loop-run.run-index + 1) c.args.runs.now) * 4096) n) (sym long);
      long = long ∙ i.long;
      bytes = λ told bytes enough stand. take-put_mid c.loop-run.done _ c.loop-run.into c.read_run.new.into _ (omega (arith, got)) (omega (arith, i.done))
          ∙ read_more c.args.runs.now c.loop-run.run-index _ c.loop-run-test.true c.loop-run.done c.room_of.result (length c.loop-run.into) c.min-count.result i.done c.room_of.ensures c.min-count.ensures
          _ bytes c.loop-run.into c.read_run.new.into refl (omega (arith, enough, long)) stand (i.bytes told bytes (omega (arith, enough, long)) stand) got (stood_before _ _ 1 _ _ (i.unchanged told) (c.in_ok-read_run.ensures.bytes told));
      unchanged = λ told. read_then_read _ _ _ (i.unchanged told) (c.read_run.ensures.unchanged told);
      later = omega (arith, i.later, c.read_run.ensures.counted.later);
      journal = c.read_run.ensures.counted.journal ∙ i.journal;
      last = c.in_ok-read_run.ensures.counted.last ∙ i.last;
    }
