use Rattle.std.proofs.Common.{map, sym, ap, ◌∙◌, take, arith}
use Rattle.archiver_cmd.specs.Conf.{group_of, names_of}
use Rattle.archiver_cmd.proofs.Groups.{names_more}
use Rattle.archiver_cmd.proofs.conf.groups_of.Goals as goal

pub loop-line-preserved : goal.loop-line-preserved
loop-line-preserved c =
    c.in_ok-add_group.ensures (names_of (take c.loop-line.line-index c.args.lines.now)) c.loop-line.invariant
    ∙ ap (map (group_of c.args.lines.now)) (sym (names_more c.args.lines.now c.loop-line.line-index c.line-item.result (omega arith) c.line-item.is))
