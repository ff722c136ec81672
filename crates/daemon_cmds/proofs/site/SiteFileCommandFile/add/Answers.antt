use Rattle.daemon_cmds.proofs.Carried.{carried}
use Rattle.daemon_cmds.proofs.SiteKnown.{more}
use Rattle.daemon_cmds.proofs.site.SiteFileCommandFile.add.Goals as goal

pub returns : goal.returns
returns c = carried c.add_reading.result (λ is said knows. more said c.args.known.now c.add_reading.new.known c.args.reading is knows) c.add_reading.ensures
