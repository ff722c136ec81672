use Rattle.std.proofs.Common.{List, subst}
use Rattle.site_text.specs.Fields.{Field, Gives}
use Rattle.daemon_cmds.specs.SiteSteps.{line_by_words}
use Rattle.daemon_cmds.proofs.SiteKnown.{line_read}
use Rattle.daemon_cmds.proofs.site.SiteFileCommandFile.read_line.Goals as goal

pub returns : goal.returns
returns c = λ said knows. line_read said c.args.known.now c.args.line.now c.read_site_line.result knows
    (subst (λ (fields : List Field). Gives (λ r. r) c.read_site_line.result (line_by_words c.args.known.now fields)) c.as_slice.ensures c.read_site_line.ensures)
