-- The lines of a text.
use Rattle.std.specs.Prelude.{ℕ, List, [], ◌∷◌, ◌++◌, length, Bool, true, false, cond, nat_le, nat_eq}
use Rattle.base.specs.declared.limits.TheConstants.{LINE_MAX}

-- a line without its end, or one of over 4,096 bytes
pub data RawLine : Type 0 where
  Kept : List ℕ → RawLine
  Long : RawLine

-- a line of at most 4,096 bytes is kept
abbrev pub line_of : List ℕ → RawLine
line_of line = cond (nat_le (length line) LINE_MAX) (Kept line) Long

-- without the carriage return at its end
abbrev pub without_return : List ℕ → List ℕ
without_return [] = []
without_return (b ∷ []) = cond (nat_eq b 13) [] (b ∷ [])
without_return (b ∷ (c ∷ bytes)) = b ∷ without_return (c ∷ bytes)

-- the lines after the first bytes of one: each that a line feed ends, and at the end of the text the last one, if it is not empty
abbrev pub lines_after : List ℕ → List ℕ → Bool → List RawLine
lines_after front [] false = []
lines_after [] [] true = []
lines_after (b ∷ front) [] true = line_of (b ∷ front) ∷ []
lines_after front (b ∷ bytes) ended = cond (nat_eq b 10)
    (line_of (without_return front) ∷ lines_after [] bytes ended)
    (lines_after (front ++ b ∷ []) bytes ended)

-- the lines of a text whose end was met or not
abbrev pub raw_lines : List ℕ → Bool → List RawLine
raw_lines bytes ended = lines_after [] bytes ended
