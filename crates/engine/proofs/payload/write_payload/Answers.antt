use Rattle.std.proofs.Common.{List, ℕ, sym, subst, ◌∙◌, ap, ◌++◌}
use Rattle.journal.specs.Records.{IsPayload}
use Rattle.journal.proofs.RecordLaws.{ok_then}
use Rattle.step_codec.specs.Written.{written}
use Rattle.site_history.proofs.StepRanges.{short-payload}
use Rattle.engine.proofs.payload.write_payload.Goals as goal

pub returns-clause-bounded : goal.returns-clause-bounded
returns-clause-bounded c = ok_then c.encode_step.result _ _
    (λ is. subst (λ (l : List ℕ). IsPayload l) (sym (is ∙ ap (λ (l : List ℕ). l ++ written c.args.step.now) c.clear.ensures.items)) (short-payload c.args.step.now c.requires.short))
    c.encode_step.ensures.ok
