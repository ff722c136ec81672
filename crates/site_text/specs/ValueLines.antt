-- Value lines: `NAME = VALUE..`, with or without blanks at the `=`.
use Rattle.std.specs.Prelude.{ℕ, List, [], ◌∷◌, Option, Some, None, Bool, ◌==◌, if◌then◌else◌, slice_index, drop}
use Rattle.std.specs.List.{list_any, before_first, after_first}
use Rattle.std.specs.Str.{byte}
use Rattle.site_text.specs.Fields.{Field, put_field}

abbrev pub is_equals : ℕ → Bool
is_equals b = b == byte "="

-- what stands before the first `=` of a text and behind it, if there is one
abbrev pub around_equals : List ℕ → Option (Field × Field)
around_equals text = if list_any is_equals text then Some (before_first is_equals text, after_first is_equals text) else None

-- where the second field begins with `=`: the first is the name
abbrev pub value_line_at_second : Field → List Field → Option (Field × List Field)
value_line_at_second name [] = None
value_line_at_second name (field ∷ fields) = if is_equals (slice_index field 0) then Some (name, put_field (drop 1 field) fields) else None

-- Its first field has a `=`, or its second begins with one. Its name is what stands before the first `=`, and its values are the
-- fields of what follows.
unfoldable pub value_line : List Field → Option (Field × List Field)
value_line [] = None
value_line (field ∷ fields) = by_first (around_equals field)
  where
    by_first : Option (Field × Field) → Option (Field × List Field)
    by_first (Some parts) = Some (parts.0, put_field parts.1 fields)
    by_first None = value_line_at_second field fields
