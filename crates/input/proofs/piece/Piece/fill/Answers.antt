use Rattle.std.proofs.Common.{List, ℕ, subst, sym, arith}
use Rattle.std.specs.Io.KnownBytes.{Consumes}
use Rattle.input.proofs.Pieces.{from_start, length-from_start}
use Rattle.input.proofs.piece.Piece.fill.Goals as goal

pub returns-clause-len : goal.returns-clause-len
returns-clause-len g c = length-from_start c.read_into.new.buffer.items c.in_ok-count.count (omega (arith, c.in_ok-count.ensures.within, c.in_ok-count.ensures.len, c.read_into.new.buffer.ok.0))

pub returns-clause-bytes : goal.returns-clause-bytes
returns-clause-bytes g c = subst (λ (l : List ℕ). Consumes (g.S.Source.left c.args.source.now) (g.S.Source.left c.read_into.new.source) l) (sym (from_start c.read_into.new.buffer.items c.in_ok-count.count)) c.in_ok-count.ensures.bytes
