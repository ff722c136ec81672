use Rattle.std.proofs.Common.{length}
use Rattle.std.specs.Int.{w32}
use Rattle.std.proofs.lemmas.Result.{err_from_is_err_and}
use Rattle.step_codec.specs.Forms.{number_bytes}
use Rattle.step_codec.proofs.Adding.{items_stop}
use Rattle.step_codec.proofs.list.write_list.Goals as goal

pub returns-in_err-write : goal.returns-in_err-write
returns-in_err-write g c =
    let p = err_from_is_err_and c.from_residual-in_err-write.result c.from_residual-in_err-write.ensures.1 in
    rw p.1 (items_stop g.F.Field.form.written c.args.list.now c.loop-item.item-index c.item-item.result c.args.into.now c.loop-item.into c.write.new.into c.in_err-write.field-0.0 p.0 (number_bytes w32 (length c.args.list.now)) c.loop-item-test.true c.item-item.is c.loop-item.invariant c.in_err-write.ensures)
