use Rattle.std.proofs.Common.{◌≡◌, ◌-◌}
use Rattle.step_codec.specs.Forms.{items_at}
use Rattle.step_codec.proofs.Items.{with_front}
use Rattle.step_codec.proofs.list.read_items.Given as goal

abbrev pub invariant-loop : goal.invariant-loop
invariant-loop g l = with_front l.list (items_at g.F.Field.form (l.count - l.counter) l.bytes) ≡ items_at g.F.Field.form l.count l.fn.bytes
