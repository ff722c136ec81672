-- Command files: what their lines say one after the other, and which line is the first wrong one.
use Rattle.std.specs.Prelude.{◌≡◌, ℕ, List, [], ◌∷◌, ◌++◌, length, Option, Some, None, Result, Ok, Err, true, false, ◌⊎◌}
use Rattle.std.specs.Str.{IsUtf8}
use Rattle.std.specs.Str.Lossy.{utf8_valid_len}
use Rattle.site_text.specs.declared.line.Line.{Line}
use Rattle.site_text.specs.declared.fault.ConfFault.{ConfFault}
use Rattle.site_text.specs.declared.fault.ConfFault.TheVariants as faults
use Rattle.site_text.specs.declared.fault.ConfRefusal.{ConfRefusal}
use Rattle.site_text.specs.declared.fault.ConfError.{ConfError}
use Rattle.site_text.specs.declared.fault.ConfError.TheVariants.{Refused, NoMemory}
use Rattle.site_text.specs.Lines.{physical_lines, line_of_byte, ends_continued, lines_of}

-- ---- what lines say

-- Lines that stand behind lines that said `before` say these readings, one each, in the order of the file. What a line says hangs on
-- what the lines before it said.
abbrev pub LinesSayBehind : {R : Type 0} → (List R → Line → R → Type 0) → List R → List Line → List R → Type 0
LinesSayBehind LineSays before [] [] = Unit {0}
LinesSayBehind LineSays before [] (r ∷ said) = ⊥
LinesSayBehind LineSays before (line ∷ lines) [] = ⊥
LinesSayBehind LineSays before (line ∷ lines) (r ∷ said) = LineSays before line r × LinesSayBehind LineSays (before ++ r ∷ []) lines said

abbrev pub LinesSay : {R : Type 0} → (List R → Line → R → Type 0) → List Line → List R → Type 0
LinesSay LineSays lines said = LinesSayBehind LineSays [] lines said

-- In a file that has no sections none is ever open.
abbrev pub no_section : {R : Type 0} → List R → Option ℕ
no_section said = None

-- ---- a text that is refused as a whole

-- this physical line is where it is no text: it is not UTF-8 from there on, or else its last line goes on
abbrev pub NotTextAt : List ℕ → ℕ → Type 0
NotTextAt text line = (¬ (IsUtf8 text) × (line ≡ line_of_byte (utf8_valid_len text) text))
    ⊎ (IsUtf8 text × (ends_continued (physical_lines text) ≡ true) × (line ≡ length (physical_lines text)))

pub record IsText (text : List ℕ) : Type 0 where
  pub utf8 : IsUtf8 text
  pub ended : ends_continued (physical_lines text) ≡ false

-- ---- what a text says, and what is wrong with it

-- The text says these readings, and no section is open at its end.
pub record FileSays {R : Type 0} (LineSays : List R → Line → R → Type 0) (open_section : List R → Option ℕ) (text : List ℕ) (said : List R) : Type 0 where
  pub is_text : IsText text
  pub lines_say : LinesSay LineSays (lines_of text) said
  pub closed : open_section said ≡ None

-- The lines before one say these readings, and that one is wrong.
pub record FirstWrongLine {R : Type 0} (LineSays : List R → Line → R → Type 0) (LineWrong : List R → Line → ConfFault → Type 0) (lines : List Line) (refusal : ConfRefusal) : Type 0 where
  pub front : List Line
  pub line : Line
  pub rest : List Line
  pub cut : lines ≡ front ++ line ∷ rest
  pub said : List R
  pub front_says : LinesSay LineSays front said
  pub wrong : LineWrong said line refusal.fault
  pub at : refusal.line ≡ line.number

-- All lines say these readings, and the section that began on this line is not closed.
pub record SectionOpen {R : Type 0} (LineSays : List R → Line → R → Type 0) (open_section : List R → Option ℕ) (lines : List Line) (refusal : ConfRefusal) : Type 0 where
  pub said : List R
  pub lines_say : LinesSay LineSays lines said
  pub open_at : open_section said ≡ Some refusal.line
  pub fault : refusal.fault ≡ faults.SectionNotClosed

-- It is no text; or it is, and its first wrong line is refused; or no line is wrong, and a section is not closed.
abbrev pub FileWrong : {R : Type 0} → (List R → Line → R → Type 0) → (List R → Line → ConfFault → Type 0) → (List R → Option ℕ) → List ℕ → ConfRefusal → Type 0
FileWrong LineSays LineWrong open_section text refusal = (NotTextAt text refusal.line × (refusal.fault ≡ faults.NotText))
    ⊎ (IsText text × FirstWrongLine LineSays LineWrong (lines_of text) refusal)
    ⊎ (IsText text × SectionOpen LineSays open_section (lines_of text) refusal)

-- What a reader of a file answers: what the text says, told as a configuration; or what is wrong with it; or memory ran out.
abbrev pub FileAnswers : {R C : Type 0} → (List R → Line → R → Type 0) → (List R → Line → ConfFault → Type 0) → (List R → Option ℕ) → (List R → C → Type 0) → List ℕ → Result C ConfError → Type 0
FileAnswers {R} {C} LineSays LineWrong open_section Tells text (Ok conf) = (said : List R) × FileSays LineSays open_section text said × Tells said conf
FileAnswers LineSays LineWrong open_section Tells text (Err (Refused refusal)) = FileWrong LineSays LineWrong open_section text refusal
FileAnswers LineSays LineWrong open_section Tells text (Err NoMemory) = Unit {0}

-- ---- parts of that answer

-- the lines of a text, or where it is no text
abbrev pub FileLinesAnswer : List ℕ → Result (List Line) ConfError → Type 0
FileLinesAnswer text (Ok lines) = IsText text × (lines ≡ lines_of text)
FileLinesAnswer text (Err (Refused refusal)) = NotTextAt text refusal.line × (refusal.fault ≡ faults.NotText)
FileLinesAnswer text (Err NoMemory) = Unit {0}

-- what lines say, or what is wrong with them
abbrev pub LinesAnswer : {R C : Type 0} → (List R → Line → R → Type 0) → (List R → Line → ConfFault → Type 0) → (List R → Option ℕ) → (List R → C → Type 0) → List Line → Result C ConfError → Type 0
LinesAnswer {R} {C} LineSays LineWrong open_section Tells lines (Ok conf) = (said : List R) × LinesSay LineSays lines said × (open_section said ≡ None) × Tells said conf
LinesAnswer LineSays LineWrong open_section Tells lines (Err (Refused refusal)) = FirstWrongLine LineSays LineWrong lines refusal ⊎ SectionOpen LineSays open_section lines refusal
LinesAnswer LineSays LineWrong open_section Tells lines (Err NoMemory) = Unit {0}
