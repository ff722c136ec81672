use Rattle.std.proofs.Common.{List, subst}
use Rattle.site_text.specs.Fields.{Field, Gives}
use Rattle.daemon_cmds.specs.ReleaserSteps.{line_by_words}
use Rattle.daemon_cmds.proofs.ReleaserKnown.{line_read}
use Rattle.daemon_cmds.proofs.releaser.ReleaserFileCommandFile.read_line.Goals as goal

pub returns : goal.returns
returns c = λ said knows. line_read c.args.self.now.site.now said c.args.known.now c.args.line.now c.read_releaser_line.result knows
    (subst (λ (fields : List Field). Gives (λ r. r) c.read_releaser_line.result (line_by_words c.args.known.now.part c.args.known.now.given fields)) c.as_slice.ensures c.read_releaser_line.ensures)
