use Rattle.desk.proofs.reply.write_label.Goals as goal

pub returns : goal.returns
returns c = rw (← c.vsn_text-name.ensures) c.write_line.ensures
