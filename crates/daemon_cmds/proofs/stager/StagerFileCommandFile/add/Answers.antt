use Rattle.daemon_cmds.proofs.StagerKnown.{more}
use Rattle.daemon_cmds.proofs.stager.StagerFileCommandFile.add.Goals as goal

pub returns : goal.returns
returns c = λ said tells. more c.args.self.now.site.now said c.args.known.now c.add_reading.new.known c.args.reading c.add_reading.ensures tells
