use Rattle.std.proofs.Common.{◌++◌, length, take}
use Rattle.std.specs.List.{flat_map}
use Rattle.std.specs.Int.{w32}
use Rattle.step_codec.specs.Forms.{number_bytes}
use Rattle.step_codec.specs.Writing.{Adds}
use Rattle.step_codec.proofs.Adding.{so_far}
use Rattle.step_codec.proofs.list.write_list.Given as goal

abbrev pub invariant-loop-item : goal.invariant-loop-item
invariant-loop-item g l = Adds l.fn.into l.into so_far (number_bytes w32 (length l.list) ++ flat_map g.F.Field.form.written (take l.item-index l.list))
