use Rattle.std.proofs.Common.{◌≡◌, false, sym, ◌∙◌, ap, subst, List, ℕ}
use Rattle.desk.specs.Asks.{is_skipped, asked_of, Answers}
use Rattle.session.proofs.Hearings.{asks, too_long}
use Rattle.session.proofs.lines.hear_line.Goals as goal

pub returns-else-is_skipped-clause-hears : goal.returns-else-is_skipped-clause-hears
returns-else-is_skipped-clause-hears g c =
    let line = c.next_line.new.reader.line in
    let no_skip : is_skipped line ≡ false = ap is_skipped (sym c.line-line.ensures) ∙ sym c.is_skipped.ensures ∙ c.if-is_skipped.false in
    let read : Answers c.read_line.result (asked_of line) = subst (λ (l : List ℕ). Answers c.read_line.result (asked_of l)) c.line-line.ensures c.read_line.ensures in
    asks _ _ _ _ _ line c.read_line.result no_skip read c.in-Line.ensures.read

pub returns-in-TooLong-clause-hears : goal.returns-in-TooLong-clause-hears
returns-in-TooLong-clause-hears g c = too_long _ _ _ _ _ c.in-TooLong.ensures.read
