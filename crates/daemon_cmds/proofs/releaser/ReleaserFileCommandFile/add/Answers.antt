use Rattle.daemon_cmds.proofs.Carried.{carried}
use Rattle.daemon_cmds.proofs.ReleaserKnown.{more}
use Rattle.daemon_cmds.proofs.releaser.ReleaserFileCommandFile.add.Goals as goal

pub returns : goal.returns
returns c = carried c.add_reading.result (λ is said knows. more c.args.self.now.site.now said c.args.known.now c.add_reading.new.known c.args.reading is knows) c.add_reading.ensures
