use Rattle.configuration.proofs.Laws.{read-says, say-read, refused-wrong, wrong-refused, one-meaning, says-blocks, blocks-range}
use Rattle.configuration.proofs.Computed.{says-computed, computed-says, computed-blocks}
use Rattle.configuration.proofs.meaning.texts_say_one_thing.Goals as goal

pub returns-clause-said : goal.returns-clause-said
returns-clause-said c texts = (read-says texts, λ all. say-read texts all.0 all.1)

pub returns-clause-wrong : goal.returns-clause-wrong
returns-clause-wrong c texts refusal = (refused-wrong texts refusal, wrong-refused texts refusal)

pub returns-clause-one_meaning : goal.returns-clause-one_meaning
returns-clause-one_meaning c = one-meaning

pub returns-clause-one_configuration : goal.returns-clause-one_configuration
returns-clause-one_configuration c = says-computed

pub returns-clause-computed : goal.returns-clause-computed
returns-clause-computed c = computed-says

pub returns-clause-computed_cache : goal.returns-clause-computed_cache
returns-clause-computed_cache c = computed-blocks

pub returns-clause-cache : goal.returns-clause-cache
returns-clause-cache c = says-blocks

pub returns-clause-small : goal.returns-clause-small
returns-clause-small c = blocks-range
