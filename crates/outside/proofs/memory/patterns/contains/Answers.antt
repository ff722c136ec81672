use Rattle.std.proofs.Common.{sym, ◌∙◌}
use Rattle.outside.proofs.InMemory.{contains_front}
use Rattle.outside.proofs.memory.patterns.contains.Goals as goal

pub returns-then-starts_with : goal.returns-then-starts_with
returns-then-starts_with c = sym (c.loop-rest.invariant ∙ contains_front c.loop-rest.rest.now c.args.text.now (sym c.starts_with.ensures.value ∙ c.if-starts_with.true))
