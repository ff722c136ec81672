use Rattle.std.proofs.Common.{◌≡◌, take}
use Rattle.daemon_cmds.proofs.recycler_lines.copies_of.Given as goal

abbrev pub invariant-loop-field : goal.invariant-loop-field
invariant-loop-field l = l.copies ≡ take l.field-index l.fields
