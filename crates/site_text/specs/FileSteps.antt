-- Reading a command file in steps: its lines one after the other.
use Rattle.std.specs.Prelude.{ℕ, List, [], ◌∷◌, ◌++◌, length, Option, Some, None, Result, Ok, Err, if◌then◌else◌, not}
use Rattle.std.specs.Str.{is_utf8}
use Rattle.std.specs.Str.Lossy.{utf8_valid_len}
use Rattle.site_text.specs.declared.line.Line.{Line}
use Rattle.site_text.specs.declared.fault.ConfFault.TheVariants as faults
use Rattle.site_text.specs.declared.fault.ConfRefusal.{ConfRefusal}
use Rattle.site_text.specs.Lines.{physical_lines, line_of_byte, ends_continued, lines_of}
use Rattle.site_text.specs.Fields.{Read}

-- what a line says, behind lines that said those before it
abbrev pub LineReader : Type 0 → Type 0
LineReader R = List R → Line → Read R

-- what is read of a line, at its number, and what comes behind it
abbrev pub at_line : {R A : Type 0} → ℕ → Read R → (R → Result A ConfRefusal) → Result A ConfRefusal
at_line number (Ok reading) go = go reading
at_line number (Err fault) go = Err (record { line = number; fault = fault })

-- lines one after the other, each by the readings of those before it
abbrev pub read_lines : {R : Type 0} → LineReader R → List R → List Line → Result (List R) ConfRefusal
read_lines line before [] = Ok before
read_lines line before (l ∷ ls) = at_line l.number (line before l) (λ reading. read_lines line (before ++ reading ∷ []) ls)

-- a section that is open at the end is refused
abbrev pub unless_open : {R : Type 0} → List R → Option ℕ → Result (List R) ConfRefusal
unless_open said None = Ok said
unless_open said (Some line) = Err (record { line = line; fault = faults.SectionNotClosed })

abbrev pub closed_reading : {R : Type 0} → (List R → Option ℕ) → Result (List R) ConfRefusal → Result (List R) ConfRefusal
closed_reading open_section (Ok said) = unless_open said (open_section said)
closed_reading open_section (Err refusal) = Err refusal

-- What a text says, or its refusal: `SaysOneThing` says that this is the one that the relations have.
unfoldable pub file_reading : {R : Type 0} → LineReader R → (List R → Option ℕ) → List ℕ → Result (List R) ConfRefusal
file_reading line open_section text =
    if not (is_utf8 text) then Err (record { line = line_of_byte (utf8_valid_len text) text; fault = faults.NotText })
    else if ends_continued (physical_lines text) then Err (record { line = length (physical_lines text); fault = faults.NotText })
    else closed_reading open_section (read_lines line [] (lines_of text))
