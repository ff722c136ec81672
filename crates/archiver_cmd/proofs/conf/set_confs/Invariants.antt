use Rattle.std.proofs.Common.{◌≡◌, take, map}
use Rattle.archiver_cmd.specs.Conf.{set_conf}
use Rattle.archiver_cmd.proofs.conf.set_confs.Given as goal

abbrev pub invariant-loop-name : goal.invariant-loop-name
invariant-loop-name l = l.sets ≡ map (set_conf l.copies) (take l.name-index l.names)
