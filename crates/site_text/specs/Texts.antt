-- What a text is, and what a function that reads its lines answers.
use Rattle.std.specs.Prelude.{◌≡◌, ℕ, List, length, Result, Ok, Err, true, false}
use Rattle.std.specs.Str.{IsUtf8}
use Rattle.std.specs.Str.Lossy.{utf8_valid_len}
use Rattle.site_text.specs.declared.line.Line.{Line}
use Rattle.site_text.specs.declared.refusal.TextRefusal.{TextRefusal}
use Rattle.site_text.specs.declared.refusal.TextRefusal.TheVariants.{NotUtf8, EndsContinued, NoMemory}
use Rattle.site_text.specs.Lines.{physical_lines, ends_continued, lines_of}

-- The lines of what is UTF-8: there are none only where it ends in a line that goes on.
abbrev pub AreJoinedLines : List ℕ → Result (List Line) TextRefusal → Type 0
AreJoinedLines text (Ok ls) = (ends_continued (physical_lines text) ≡ false) × (ls ≡ lines_of text)
AreJoinedLines text (Err (EndsContinued number)) = (ends_continued (physical_lines text) ≡ true) × (number ≡ length (physical_lines text))
AreJoinedLines text (Err NoMemory) = Unit {0}
AreJoinedLines text (Err refusal) = ⊥

-- The lines of a text, or why it has none: where it is UTF-8 no longer, or else that its last line goes on.
abbrev pub AreLines : List ℕ → Result (List Line) TextRefusal → Type 0
AreLines text (Ok ls) = IsUtf8 text × AreJoinedLines text (Ok ls)
AreLines text (Err (NotUtf8 place)) = ¬ (IsUtf8 text) × (place ≡ utf8_valid_len text)
AreLines text (Err (EndsContinued number)) = IsUtf8 text × AreJoinedLines text (Err (EndsContinued number))
AreLines text (Err NoMemory) = Unit {0}
AreLines text (Err refusal) = ⊥
