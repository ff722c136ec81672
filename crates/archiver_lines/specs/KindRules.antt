-- Which kind of line a line is.
use Rattle.std.specs.Prelude.{◌≡◌, ◌≢◌, ◌⊎◌, List, [], ◌∷◌, codes, Option, Some, None, if◌then◌else◌, slice_index}
use Rattle.site_text.specs.Fields.{Field}
use Rattle.archiver_lines.specs.declared.kinds.LineKind.{LineKind}
use Rattle.archiver_lines.specs.declared.kinds.LineKind.TheVariants as kinds
use Rattle.archiver_lines.specs.declared.reading.Section.{Section}
use Rattle.archiver_lines.specs.declared.reading.Section.TheVariants.{Params, VsnPools, Vsns}
use Rattle.site_text.specs.Words.{named}
use Rattle.site_text.specs.Values.{is_digit}
use Rattle.site_text.specs.ValueLines.{value_line}
use Rattle.archiver_lines.specs.declared.reading.Opened.{Opened}

-- the words that begin a section as the one field of a line, and those that are no directive as such
abbrev pub words : List (Field × LineKind)
words =
    (codes "params", kinds.Begins Params)
    ∷ (codes "vsnpools", kinds.Begins VsnPools)
    ∷ (codes "vsns", kinds.Begins Vsns)
    ∷ (codes "endparams", kinds.NoDirective)
    ∷ (codes "endvsnpools", kinds.NoDirective)
    ∷ (codes "endvsns", kinds.NoDirective)
    ∷ (codes "wait", kinds.NoDirective)
    ∷ []

-- the word that ends a section
abbrev pub end_word : Section → Field
end_word Params = codes "endparams"
end_word VsnPools = codes "endvsnpools"
end_word Vsns = codes "endvsns"

-- In a section each line is of that section, up to its end word, which stands alone.
abbrev pub IsInside : Section → List Field → LineKind → Type 0
IsInside section fields kind =
    ((fields ≡ end_word section ∷ []) × (kind ≡ kinds.Ends))
    ⊎ ((fields ≢ end_word section ∷ []) × (kind ≡ kinds.Within section))

-- It is `NAME = VALUE ..`.
abbrev pub IsValueLine : List Field → Type 0
IsValueLine fields = value_line fields ≢ None

-- Its one field is a word that stands for this kind.
abbrev pub IsWord : List Field → LineKind → Type 0
IsWord fields kind = (word : Field) × (fields ≡ word ∷ []) × (named words word ≡ Some kind)

-- It is a copy line where it begins with a digit, and an assignment where it does not.
abbrev pub plain_kind : Field → LineKind
plain_kind field = if is_digit (slice_index field 0) then kinds.Copy else kinds.Assignment

-- Where no section is open, a line is a value line, or a word of the table, or it goes by its first byte.
abbrev pub IsOutside : List Field → LineKind → Type 0
IsOutside fields kind =
    (IsValueLine fields × (kind ≡ kinds.Value))
    ⊎ ((value_line fields ≡ None) × IsWord fields kind)
    ⊎ ((value_line fields ≡ None) × ((word : Field) → fields ≡ word ∷ [] → named words word ≡ None)
    × ((first : Field) × (others : List Field) × (fields ≡ first ∷ others) × (kind ≡ plain_kind first)))

-- The line is of this kind, where this section is open or none is.
abbrev pub IsOfKind : Option Opened → List Field → LineKind → Type 0
IsOfKind opened [] kind = kind ≡ kinds.Empty
IsOfKind (Some begun) (field ∷ fields) kind = IsInside begun.section (field ∷ fields) kind
IsOfKind None (field ∷ fields) kind = IsOutside (field ∷ fields) kind
