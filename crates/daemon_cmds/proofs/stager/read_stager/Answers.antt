use Rattle.daemon_cmds.proofs.StagerKnown.{each_has_drives}
use Rattle.daemon_cmds.proofs.stager.read_stager.Goals as goal

pub returns-clause-each_library : goal.returns-clause-each_library
returns-clause-each_library c = each_has_drives c.args.site.now c.args.text.now c.read_file.result c.read_file.ensures
