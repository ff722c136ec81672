use Rattle.daemon_cmds.proofs.Carried.{carried}
use Rattle.daemon_cmds.proofs.RecyclerKnown.{more}
use Rattle.daemon_cmds.proofs.recycler.RecyclerFileCommandFile.add.Goals as goal

pub returns : goal.returns
returns c = carried c.add_reading.result (λ is said tells. more c.args.self.now.site.now said c.args.known.now c.add_reading.new.known c.args.reading is tells) c.add_reading.ensures
