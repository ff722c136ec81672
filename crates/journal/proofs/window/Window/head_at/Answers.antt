use Rattle.std.proofs.Common.{ℕ, List, length, sym, ◌∙◌, ap, subst, arith}
use Rattle.bank.specs.Content.{Stands}
use Rattle.journal.proofs.Reading.{part_stands, length-part, head_told}
use Rattle.journal.proofs.window.Window.head_at.Goals as goal

pub returns-clause-head : goal.returns-clause-head
returns-clause-head g c = λ told over.
    let content = (g.B.Bank.view c.args.bank.now).content 0 in
    let found = c.in_ok-offset.ensures in
    let whole = c.cover.new.self.whole in
    head_told content c.args.place c.slice.result.now c.length_in.result
    (ap length c.slice.ensures ∙ length-part c.in_ok-offset.offset 5 c.cover.new.self.bytes.items (omega (arith, found.within, whole)))
    (subst (λ (l : List ℕ). Stands content c.args.place l) (sym c.slice.ensures)
    (part_stands content c.cover.new.self.start c.args.place c.in_ok-offset.offset 5 c.cover.new.self.bytes.items (found.over told over) found.place (omega (arith, found.within, whole))))
    c.length_in.ensures
