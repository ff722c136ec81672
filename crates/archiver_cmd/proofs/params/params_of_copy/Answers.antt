use Rattle.std.proofs.Common.{refl, ◌∙◌}
use Rattle.archiver_cmd.proofs.ParamsTold.{each_looked_up}
use Rattle.archiver_cmd.proofs.params.params_of_copy.Goals as goal

pub returns : goal.returns
returns c = each_looked_up c.args.lines.now c.args.set.now c.args.copy c.over-2.result (c.over-2.ensures ∙ rw (c.over.ensures, c.params_named-own.ensures, c.params_named-by_copy.ensures, c.params_named-by_all.ensures) refl)
