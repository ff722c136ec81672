use Rattle.std.proofs.Common.{◌≡◌, ◌++◌, take, map}
use Rattle.desk.specs.Texts.{ended}
use Rattle.desk.proofs.reports.write_rows.Given as goal

abbrev pub invariant-loop-row : goal.invariant-loop-row
invariant-loop-row g l = l.out ≡ l.initial.out ++ ended (map g.R.Row.line (take l.row-index l.rows))
