use Rattle.desk.proofs.reply.write_claimed.Goals as goal

pub returns : goal.returns
returns c = rw (← c.daemon_text-name.ensures) c.write_line.ensures
