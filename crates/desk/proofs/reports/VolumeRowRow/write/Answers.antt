use Rattle.desk.proofs.reports.VolumeRowRow.write.Goals as goal

pub returns : goal.returns
returns c = rw (← c.as_slice.ensures, ← c.as_slice-2.ensures, ← c.as_slice-3.ensures, ← c.as_slice-4.ensures, ← c.key_text.ensures, ← c.flags_text-flags.ensures) c.write_line.ensures
