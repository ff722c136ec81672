-- What a call that reads the next line did.
use Rattle.std.specs.Prelude.{◌≡◌, ℕ, List, Option}
use Rattle.input.specs.declared.line.LineRead.{LineRead}
use Rattle.input.specs.declared.line.LineRead.TheVariants.{Line, TooLong, Ended, SourceFault, OverBudget}
use Rattle.input.specs.Lines.{RawLine, Kept, Long, raw_lines}
use Rattle.input.specs.Reading.{Reading, ReadsItem, MeetsEnd, StopsAtFault, StopsOverBudget}

-- what the answer of a call that reads a line says
abbrev pub ReadsLine : Option (List ℕ) → Option (List ℕ) → Reading → Reading → LineRead → Type 0
ReadsLine before now old new Line = ReadsItem raw_lines before now old new (Kept new.line)
ReadsLine before now old new TooLong = ReadsItem raw_lines before now old new Long
ReadsLine before now old new Ended = MeetsEnd raw_lines before now old new
ReadsLine before now old new SourceFault = StopsAtFault raw_lines before now old new
ReadsLine before now old new OverBudget = StopsOverBudget raw_lines before now old new

-- an answer that tells of this line, which stands in the line buffer if it is kept
abbrev pub TellsLine : LineRead → List ℕ → RawLine → Type 0
TellsLine Line bytes line = line ≡ Kept bytes
TellsLine TooLong bytes line = line ≡ Long
TellsLine Ended bytes line = ⊥
TellsLine SourceFault bytes line = ⊥
TellsLine OverBudget bytes line = ⊥
