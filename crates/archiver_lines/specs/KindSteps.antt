-- The kind of a line, in steps.
use Rattle.std.specs.Prelude.{List, [], ◌∷◌, length, Option, Some, None, ◌==◌, ◌&&◌, if◌then◌else◌}
use Rattle.std.specs.Str.{bytes_eq}
use Rattle.site_text.specs.Fields.{Field}
use Rattle.archiver_lines.specs.declared.kinds.LineKind.{LineKind}
use Rattle.archiver_lines.specs.declared.kinds.LineKind.TheVariants as kinds
use Rattle.archiver_lines.specs.declared.reading.Section.{Section}
use Rattle.site_text.specs.Words.{named}
use Rattle.site_text.specs.ValueLines.{value_line}
use Rattle.archiver_lines.specs.declared.reading.Opened.{Opened}
use Rattle.archiver_lines.specs.KindRules.{words, end_word, plain_kind}

abbrev pub inside_kind : Section → Field → List Field → LineKind
inside_kind section field fields = if length fields == 0 && bytes_eq field (end_word section) then kinds.Ends else kinds.Within section

-- the one field of a line
abbrev pub word_kind : Field → LineKind
word_kind field = by_word (named words field)
  where
    by_word : Option LineKind → LineKind
    by_word (Some kind) = kind
    by_word None = plain_kind field

abbrev pub outside_kind : List Field → Field → List Field → LineKind
outside_kind line field fields = by_value (value_line line)
  where
    by_value : Option (Field × List Field) → LineKind
    by_value (Some value) = kinds.Value
    by_value None = if length fields == 0 then word_kind field else plain_kind field

-- the kind of a line, where this section is open or none is
unfoldable pub kind_of : Option Opened → List Field → LineKind
kind_of opened [] = kinds.Empty
kind_of (Some begun) (field ∷ fields) = inside_kind begun.section field fields
kind_of None (field ∷ fields) = outside_kind (field ∷ fields) field fields
