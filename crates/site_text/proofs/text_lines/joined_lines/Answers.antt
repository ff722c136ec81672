use Rattle.std.proofs.Common.{◌≡◌, sym, ap, ◌∙◌, ◌++◌, ◌∷◌, [], List, ℕ, subst}
use Rattle.std.proofs.lemmas.List.{nil_from_length}
use Rattle.std.proofs.lemmas.Bool.{eqb-true, le-ltb}
use Rattle.std.specs.List.{before_first}
use Rattle.site_text.specs.Lines.{with_fields, is_hash}
use Rattle.site_text.proofs.Joins.{begins, goes, stops, ended, Joining}
use Rattle.site_text.proofs.text_lines.joined_lines.Goals as goal

pub loop-rest-init : goal.loop-rest-init
loop-rest-init c = rw (c.new-found.ensures, c.new-before.ensures) (begins c.args.text.now)

pub loop-rest-preserved-in-Continue-1 : goal.loop-rest-preserved-in-Continue-1
loop-rest-preserved-in-Continue-1 c =
    rw c.in_ok-extend.ensures.ok (goes _ _ _ _ _ _ _ _ c.loop-rest.invariant c.next_line.ensures.line c.next_line.ensures.shorter (sym c.is_continued.ensures.value ∙ c.if-is_continued.true))

pub loop-rest-preserved : goal.loop-rest-preserved
loop-rest-preserved c =
    let text-is : c.as_slice.result.now ≡ c.loop-rest.before ++ before_first is_hash c.next_line.result.0.now = c.as_slice.ensures ∙ c.in_ok-extend-2.ensures.ok ∙ ap (λ (t : List ℕ). c.loop-rest.before ++ t) c.without_comment.ensures in
    let found-is = c.in_ok-push_line.ensures ∙ ap (λ (t : List ℕ). c.loop-rest.found ++ with_fields ((c.loop-rest.first, t) ∷ [])) text-is in
    rw c.new-before-else-is_continued.ensures (stops _ _ _ _ _ _ _ _ _ c.loop-rest.invariant c.next_line.ensures.line c.next_line.ensures.shorter (sym c.is_continued.ensures.value ∙ c.if-is_continued.false) found-is)

pub returns : goal.returns
returns c =
    let none : c.loop-rest.rest.now ≡ [] = nil_from_length c.loop-rest.rest.now (eqb-true _ _ (sym c.is_empty.ensures ∙ c.loop-rest-test.false)) in
    let e = ended _ _ _ _ _ (subst (Joining c.args.text.now c.loop-rest.found c.loop-rest.first c.loop-rest.number c.loop-rest.before) none c.loop-rest.invariant) in
    (sym e.1 ∙ le-ltb _ _ c.if-first-number.false, e.0)
