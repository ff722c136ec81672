use Rattle.std.proofs.Common.{◌≡◌, length, sym, ◌∙◌, ap, arith}
use Rattle.input.specs.Lines.{without_return}
use Rattle.input.proofs.Pieces.{dropped, not_dropped, last_is}
use Rattle.input.proofs.line_buffer.LineBuffer.drop_return.Goals as goal

pub returns-then-index-eq13 : goal.returns-then-index-eq13
returns-then-index-eq13 c =
    let n : c.len-length.result ≡ length c.self.inside.bytes.items = c.len-length.ensures ∙ c.self.inside.bytes.ok.0 in
    c.truncate.ensures.items ∙ dropped c.self.inside.bytes.items c.len-length.result n (omega (arith, n)) (sym (last_is _ _ _ n (omega (arith, n)) c.index.ensures) ∙ c.if-index-eq13.true) ∙ ap without_return c.self.view_is

pub returns-else-index-eq13 : goal.returns-else-index-eq13
returns-else-index-eq13 c =
    let n : c.len-length.result ≡ length c.self.inside.bytes.items = c.len-length.ensures ∙ c.self.inside.bytes.ok.0 in
    sym c.self.view_is ∙ not_dropped c.self.inside.bytes.items (omega (arith, n)) (λ e. c.if-index-eq13.false (last_is _ _ _ n (omega (arith, n)) c.index.ensures ∙ e)) ∙ ap without_return c.self.view_is
