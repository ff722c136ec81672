use Rattle.daemon_cmds.proofs.RecyclerKnown.{each_is_recycled}
use Rattle.daemon_cmds.proofs.recycler.read_recycler.Goals as goal

pub returns-clause-each_library : goal.returns-clause-each_library
returns-clause-each_library c = each_is_recycled c.args.site.now c.args.text.now c.read_file.result c.read_file.ensures
