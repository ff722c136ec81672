-- Lines that begin with a directive: a value line by its name, another line by its first word.
use Rattle.std.specs.Prelude.{◌≡◌, ◌≢◌, List, [], ◌∷◌, Some, None, ◌⊎◌}
use Rattle.site_text.specs.declared.fault.ConfFault.{ConfFault}
use Rattle.site_text.specs.declared.fault.ConfFault.TheVariants.{UnknownDirective, MissingField}
use Rattle.site_text.specs.Fields.{Field}
use Rattle.site_text.specs.Words.{named}
use Rattle.site_text.specs.ValueLines.{value_line}
use Rattle.site_text.specs.Forms.{Form}
use Rattle.site_text.specs.FormRules.{FormSays, FormWrong}
use Rattle.site_text.specs.Directives.{FormTable}

-- The line is `NAME = VALUES` of a name of the first table, or `WORD VALUES` of a word of the second, with this form for the values.
abbrev pub Begins : {R : Type 0} → FormTable R → FormTable R → List Field → Form R → List Field → Type 0
Begins names words fields form values =
    ((name : Field) × (value_line fields ≡ Some (name, values)) × (name ≢ []) × (named names name ≡ Some form))
    ⊎ ((word : Field) × (value_line fields ≡ None) × (fields ≡ word ∷ values) × (named words word ≡ Some form))

-- No directive begins the line: it has no field, or nothing stands before its `=`; or its name, or its word, is not in the table.
abbrev pub BeginsWrong : {R : Type 0} → FormTable R → FormTable R → List Field → ConfFault → Type 0
BeginsWrong names words fields MissingField =
    (fields ≡ []) ⊎ ((values : List Field) × (value_line fields ≡ Some ([], values)))
BeginsWrong names words fields UnknownDirective =
    ((name : Field) × (values : List Field) × (value_line fields ≡ Some (name, values)) × (name ≢ []) × (named names name ≡ None))
    ⊎ ((word : Field) × (values : List Field) × (value_line fields ≡ None) × (fields ≡ word ∷ values) × (named words word ≡ None))
BeginsWrong names words fields fault = ⊥

-- The line begins with a directive, and the fields that follow it say this by its form.
pub record DirectiveSays {R : Type 0} (names words : FormTable R) (fields : List Field) (said : R) : Type 0 where
  pub form : Form R
  pub values : List Field
  pub begins : Begins names words fields form values
  pub says : FormSays form values said

-- The line begins with no directive, or what follows it is not of its form.
abbrev pub DirectiveWrong : {R : Type 0} → FormTable R → FormTable R → List Field → ConfFault → Type 0
DirectiveWrong {R} names words fields fault = BeginsWrong names words fields fault
    ⊎ ((form : Form R) × (values : List Field) × Begins names words fields form values × FormWrong form values fault)
