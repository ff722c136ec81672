use Rattle.std.proofs.Common.{sym}
use Rattle.bank.proofs.Overlays.{overlaid}
use Rattle.bank.proofs.call.Call.overlay.Goals as goal

pub returns-then-from-end : goal.returns-then-from-end
returns-then-from-end c =
    let bytes = c.as_slice-bytes.ensures in
    overlaid c.args.self.now.place c.args.place c.max-from.result c.min-end.result c.args.self.now.bytes c.args.piece.now c.copy_from_slice.new.self
    c.requires c.max-from.ensures (cc) c.if-from-end.true (cc) _ (sym c.if-is_write_of.ensures)
