use Rattle.std.proofs.Common.{◌++◌, ◌∷◌, [], refl, sym, ap, ◌∙◌, List, ℕ}
use Rattle.std.specs.Prelude.{filter, not}
use Rattle.site_text.specs.Lines.{fields_of, is_empty}
use Rattle.site_text.proofs.Cuts.{next_part, last_part}
use Rattle.site_text.proofs.fields.cut_fields.Goals as goal

pub loop-at-init : goal.loop-at-init
unfolding fields_of
loop-at-init c = rw c.new-found.ensures refl

pub loop-at-preserved : goal.loop-at-preserved
loop-at-preserved c = rw c.cut_at.ensures.behind (next_part c.loop-at.found _ c.loop-at.rest.now _ _ (sym c.in-Some.ensures.place) (c.in_ok-push_part.ensures ∙ ap (λ (t : List ℕ). c.loop-at.found ++ filter (λ f. not (is_empty f)) (t ∷ [])) c.cut_at.ensures.before) c.loop-at.invariant)

pub returns : goal.returns
returns c = last_part c.loop-at.found _ c.loop-at.rest.now _ (sym c.in_default.ensures.place) c.in_ok-push_part-2.ensures c.loop-at.invariant
