use Rattle.std.proofs.Common.{length, sym, arith}
use Rattle.std.proofs.lemmas.List.{take_rest, drop_all}
use Rattle.site_text.proofs.Cuts.{lines_some, lines_none}
use Rattle.site_text.proofs.text_lines.next_line.Goals as goal

pub returns-in-Some-clause-line : goal.returns-in-Some-clause-line
returns-in-Some-clause-line c = rw (c.without_return.ensures, c.cut_at.ensures.before, c.cut_at.ensures.behind) (lines_some c.args.text.now c.in-Some.end (sym c.in-Some.ensures.place))

pub returns-in-None-clause-line : goal.returns-in-None-clause-line
returns-in-None-clause-line c = rw (take_rest c.args.text.now (length c.args.text.now), drop_all (length c.args.text.now) c.args.text.now (omega arith)) (lines_none c.args.text.now (omega arith) (sym c.in-None.ensures.place))
