use Rattle.std.proofs.Common.{◌≡◌, ◌≤◌, ◌+◌, length}
use Rattle.input.proofs.LineLaws.{SoFar}
use Rattle.input.proofs.line.next_line.Given as goal

abbrev pub invariant-loop-reader : goal.invariant-loop-reader
invariant-loop-reader g l = record {
  so_far : SoFar (g.S.Source.left l.fn.source) (g.S.Source.left l.source) l.fn.reader l.reader l.long;
  later : g.S.Source.faults l.fn.source ≤ g.S.Source.faults l.source;
  beside : g.S.Source.beside l.source ≡ g.S.Source.beside l.fn.source;
}

abbrev pub decreases-loop-reader : goal.decreases-loop-reader
decreases-loop-reader g l = l.reader.budget + length l.reader.held
