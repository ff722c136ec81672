use Rattle.std.proofs.Common.{List, ℕ, subst}
use Rattle.daemon_cmds.specs.ReleaserRules.{ReleaserLineSays, ReleaserLineWrong}
use Rattle.daemon_cmds.specs.ReleaserTold.{TellsReleaser}
use Rattle.site_text.specs.FileRules.{FileAnswers, no_section}
use Rattle.configuration.proofs.AllFiles.{releaser_told}
use Rattle.configuration.proofs.read.releaser_of.Goals as goal

pub returns : goal.returns
returns c =
    rw c.in_file.ensures (releaser_told c.args.site.now c.args.texts.now.releaser c.read_releaser.result
    (subst (λ (text : List ℕ). FileAnswers ReleaserLineSays ReleaserLineWrong no_section (TellsReleaser c.args.site.now) text c.read_releaser.result) c.as_slice.ensures c.read_releaser.ensures))
