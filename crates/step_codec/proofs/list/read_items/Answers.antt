use Rattle.std.proofs.lemmas.Result.{err_from_is_err_and}
use Rattle.step_codec.specs.Forms.{items_at}
use Rattle.step_codec.proofs.Items.{goes_on, ends, is_done}
use Rattle.step_codec.proofs.list.read_items.Goals as goal

pub returns-in_err-item : goal.returns-in_err-item
returns-in_err-item g c =
    let p = err_from_is_err_and c.from_residual.result c.from_residual.ensures.1 in
    rw (p.1, p.2) (ends c.in_err-item.field-0.0 g.F.Field.form c.loop.list c.args.count c.loop.counter c.loop.bytes (items_at g.F.Field.form c.args.count c.args.bytes.now) c.loop-test.true c.in_err-item.ensures c.loop.invariant)

pub loop-preserved : goal.loop-preserved
loop-preserved g c = rw c.in_ok-push.ensures.ok (goes_on g.F.Field.form c.loop.list c.args.count c.loop.counter c.loop.bytes c.in_ok-item.item c.read.new.bytes (items_at g.F.Field.form c.args.count c.args.bytes.now) c.loop-test.true c.in_ok-item.ensures c.loop.invariant)

pub returns : goal.returns
returns g c = is_done g.F.Field.form c.loop.list c.args.count c.loop.counter c.loop.bytes (items_at g.F.Field.form c.args.count c.args.bytes.now) c.loop-test.false c.loop.invariant
