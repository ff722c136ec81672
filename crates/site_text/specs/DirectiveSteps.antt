-- Reading a line that begins with a directive in steps, from the left.
use Rattle.std.specs.Prelude.{List, [], ◌∷◌, length, Option, Some, None, Ok, Err, ◌==◌, if◌then◌else◌}
use Rattle.site_text.specs.declared.fault.ConfFault.TheVariants.{UnknownDirective, MissingField}
use Rattle.site_text.specs.Fields.{Field, Read, ◌>>=◌, wanted}
use Rattle.site_text.specs.Words.{named}
use Rattle.site_text.specs.ValueLines.{value_line}
use Rattle.site_text.specs.Forms.{Form}
use Rattle.site_text.specs.FormSteps.{read_form}
use Rattle.site_text.specs.Directives.{FormTable}

-- how names and words are looked up
abbrev pub Lookup : Type 0 → Type 0
Lookup R = Field → Option (Form R)

-- the form of a line, and the fields that are to be of that form
unfoldable pub form_by : {R : Type 0} → Lookup R → Lookup R → List Field → Read (Form R × List Field)
form_by names words [] = Err MissingField
form_by {R} names words (field ∷ fields) = by_line (value_line (field ∷ fields))
  where
    by_line : Option (Field × List Field) → Read (Form R × List Field)
    by_line None = wanted (words field) UnknownDirective >>= λ form. Ok (form, fields)
    by_line (Some line) = if length line.0 == 0 then Err MissingField else (wanted (names line.0) UnknownDirective >>= λ form. Ok (form, line.1))

-- reading a line by two lookups, as the code does by words of its own
abbrev pub read_by : {R : Type 0} → Lookup R → Lookup R → List Field → Read R
read_by names words fields = form_by names words fields >>= λ x. read_form x.0 x.1

-- reading a line by the tables of names and words
abbrev pub read_directive : {R : Type 0} → FormTable R → FormTable R → List Field → Read R
read_directive names words fields = read_by (named names) (named words) fields
