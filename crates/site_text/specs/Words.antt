-- Words and what they stand for.
use Rattle.std.specs.Prelude.{List, [], ◌∷◌, map, Option, Some, None, Bool, ◌==◌, if◌then◌else◌, slice_index}
use Rattle.std.specs.Str.{byte, bytes_eq}
use Rattle.site_text.specs.declared.fault.ConfFault.{ConfFault}
use Rattle.site_text.specs.declared.fault.ConfFault.TheVariants.{UnknownDirective, ExtraField, BadValue}
use Rattle.site_text.specs.Fields.{Field, Read, wanted}

-- what a word stands for in a table
abbrev pub named : {D : Type 0} → List (Field × D) → Field → Option D
named [] word = None
named (entry ∷ entries) word = if bytes_eq word entry.0 then Some entry.1 else named entries word

-- a table in which each word stands for what it stood for means
abbrev pub standing_for : {D E : Type 0} → (D → E) → List (Field × D) → List (Field × E)
standing_for meaning table = map (λ entry. (entry.0, meaning entry.1)) table

-- it begins with `-`
abbrev pub is_option : Field → Bool
is_option field = slice_index field 0 == byte "-"

-- what is wrong with a field that is none of the options that may stand there
abbrev pub no_option : Field → ConfFault
no_option field = if is_option field then UnknownDirective else ExtraField

-- the option of a field
abbrev pub option_named : {D : Type 0} → List (Field × D) → Field → Read D
option_named table field = wanted (named table field) (no_option field)

-- the value of a field that is one of some words
abbrev pub word_value : {D : Type 0} → List (Field × D) → Field → Read D
word_value table field = wanted (named table field) BadValue
