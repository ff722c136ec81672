use Rattle.std.proofs.Common.{◌≡◌, ◌++◌, take, map}
use Rattle.archiver_lines.specs.SectionRules.{expr_of}
use Rattle.archiver_lines.proofs.section_lines.put_line.Given as goal

abbrev pub invariant-loop-text : goal.invariant-loop-text
invariant-loop-text l = l.found ≡ l.fn.found ++ map (expr_of l.line.media l.line.line) (take l.text-index l.line.texts)
