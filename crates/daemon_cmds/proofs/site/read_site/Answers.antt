use Rattle.daemon_cmds.proofs.KnownLibraries.{each_volume_has_its_library}
use Rattle.daemon_cmds.proofs.site.read_site.Goals as goal

pub returns-in_ok-with_defaults-in-Ok-clause-known_libraries : goal.returns-in_ok-with_defaults-in-Ok-clause-known_libraries
returns-in_ok-with_defaults-in-Ok-clause-known_libraries c =
    each_volume_has_its_library c.args.text.now c.in-Ok.known c.in_ok-with_defaults-in-Ok.field-0 c.in-Ok.ensures c.in_ok-with_defaults-in-Ok.ensures
