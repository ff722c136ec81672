use Rattle.std.proofs.Common.{ap, ◌∙◌}
use Rattle.std.specs.Result.{result_unwrap_or}
use Rattle.std.proofs.lemmas.Result.{Ok-from_Ok_iff}
use Rattle.configuration.proofs.Laws.{says-blocks}
use Rattle.configuration.proofs.AllFiles.{few_blocks}
use Rattle.configuration.proofs.read.Configuration.blocks.Goals as goal

pub returns : goal.returns
returns c texts says =
    let counted = Ok-from_Ok_iff c.try_from.result _ _ c.try_from.ensures (few_blocks texts c.args.self.now says) in
    c.unwrap_or.ensures ∙ ap (λ (r : _). result_unwrap_or r 4294967295) counted ∙ says-blocks texts c.args.self.now says
