-- The lines of a command file. A text is cut into physical lines at its line feeds; a line that goes on is joined with
-- the next one; what stands behind a `#` goes; each line is cut into fields at blanks and tabs; lines without fields go.
use Rattle.std.specs.Prelude.{ℕ, suc, List, [], ◌∷◌, ◌++◌, length, filter, Bool, false, ◌==◌, ◌&&◌, ◌||◌, not, if◌then◌else◌, take, ◌+◌, ◌-◌, nat_eq, count_by}
use Rattle.std.specs.List.{slice_split, before_first, list_any, ends_with}
use Rattle.std.specs.Str.{byte}
use Rattle.std.specs.Str.Lines.{lines}
use Rattle.site_text.specs.declared.line.Line.{Line}

-- ---- bytes that no text here shows

abbrev pub tab : ℕ
tab = 9

abbrev pub line_feed : ℕ
line_feed = 10

abbrev pub backslash : ℕ
backslash = 92

-- ---- physical lines

-- Cut at each line feed, which ends a line and begins none. A carriage return just before it goes too.
abbrev pub physical_lines : List ℕ → List (List ℕ)
physical_lines text = lines text

-- the number of the physical line on which a byte stands
abbrev pub line_of_byte : ℕ → List ℕ → ℕ
line_of_byte place text = 1 + count_by (λ b. b == line_feed) (take place text)

abbrev pub is_hash : ℕ → Bool
is_hash b = b == byte "#"

-- It has no comment, and its last character is `\`.
unfoldable pub is_continued : List ℕ → Bool
is_continued line = not (list_any is_hash line) && ends_with nat_eq line (backslash ∷ [])

-- the last physical line goes on
unfoldable pub ends_continued : List (List ℕ) → Bool
ends_continued [] = false
ends_continued (line ∷ []) = is_continued line
ends_continued (line ∷ next ∷ more) = ends_continued (next ∷ more)

-- ---- joined lines

-- a line's text, with the number of its first physical line
abbrev pub NumberedText : Type 0
NumberedText = ℕ × List ℕ

abbrev pub without_last : List ℕ → List ℕ
without_last bytes = take (length bytes - 1) bytes

-- The first line of these begins with that text, and has its number.
unfoldable pub put_before : NumberedText → List NumberedText → List NumberedText
put_before first [] = []
put_before first (line ∷ more) = (first.0, first.1 ++ line.1) ∷ more

-- The lines from the physical line with this number on. One that goes on loses its `\` and stands before the next.
unfoldable pub joined : ℕ → List (List ℕ) → List NumberedText
joined number [] = []
joined number (line ∷ more) = if is_continued line
    then put_before (number, without_last line) (joined (suc number) more)
    else (number, before_first is_hash line) ∷ joined (suc number) more

-- ---- fields

abbrev pub is_blank : ℕ → Bool
is_blank b = b == byte " " || b == tab

abbrev pub is_empty : {A : Type 0} → List A → Bool
is_empty items = length items == 0

unfoldable pub fields_of : List ℕ → List (List ℕ)
fields_of text = filter (λ field. not (is_empty field)) (slice_split is_blank text)

-- each line with its fields, but for those without any
unfoldable pub with_fields : List NumberedText → List Line
with_fields [] = []
with_fields (line ∷ more) = if is_empty (fields_of line.1)
    then with_fields more
    else record { number = line.0; fields = fields_of line.1 } ∷ with_fields more

unfoldable pub lines_of : List ℕ → List Line
lines_of text = with_fields (joined 1 (physical_lines text))
