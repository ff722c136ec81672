use Rattle.std.proofs.Common.{ℕ, List, ◌+◌, ◌%◌, ◌++◌, [], ◌∷◌, ◌∙◌, ap, sym}
use Rattle.desk.proofs.MadeBytes.{one_more_made}
use Rattle.desk.proofs.made.made.Goals as goal

pub loop-i-preserved : goal.loop-i-preserved
loop-i-preserved c =
    c.in_ok-push.ensures.items ∙ ap (λ (made : List ℕ). made ++ ((c.loop-i.i + c.args.seed) % 256) ∷ []) c.loop-i.invariant ∙ sym (one_more_made c.args.seed c.loop-i.i)
