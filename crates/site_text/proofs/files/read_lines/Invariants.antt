use Rattle.site_text.proofs.FileLaws.{Standing}
use Rattle.site_text.proofs.files.read_lines.Given as goal

-- what the lines so far said and told
abbrev pub invariant-loop-line : goal.invariant-loop-line
invariant-loop-line g l = Standing (g.F.CommandFile.line_says l.file) (g.F.CommandFile.tells l.file) l.lines l.line-index l.known
