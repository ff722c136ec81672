use Rattle.std.proofs.Common.{arith}
use Rattle.site_text.proofs.FileLaws.{goes_on, refuses}
use Rattle.site_text.proofs.files.read_lines.Goals as goal

pub returns-in-Err : goal.returns-in-Err
returns-in-Err g c =
    let s = c.loop-line.invariant in
    let wrong = g.met.F.CommandFile.refuses_what_is_wrong c.args.file.now s.said c.line-item.result in
    rw c.at_line.ensures (refuses (g.F.CommandFile.line_says c.args.file.now) (g.F.CommandFile.line_wrong c.args.file.now) (g.F.CommandFile.open_section c.args.file.now) (g.F.CommandFile.tells c.args.file.now) c.args.lines.now c.loop-line.line-index c.loop-line.known c.line-item.result c.in-Err.error
    (g.F.CommandFile.line_of c.args.file.now s.said c.line-item.result) s (omega arith) c.line-item.is (c.in-Err.ensures s.said s.tells) (λ fault is. (wrong fault).0 is))

pub loop-line-preserved : goal.loop-line-preserved
loop-line-preserved g c =
    let s = c.loop-line.invariant in
    let said = g.met.F.CommandFile.reads_what_is_said c.args.file.now s.said c.line-item.result c.in-Ok-read_line.reading in
    goes_on (g.F.CommandFile.line_says c.args.file.now) (g.F.CommandFile.tells c.args.file.now) c.args.lines.now c.loop-line.line-index c.loop-line.known c.add.new.known c.line-item.result c.in-Ok-read_line.reading
    s (omega arith) c.line-item.is (said.0 (c.in-Ok-read_line.ensures s.said s.tells)) (c.in-Ok-add.ensures s.said s.tells)
