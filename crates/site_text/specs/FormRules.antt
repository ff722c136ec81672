-- What fields of a form say, and what is wrong with fields that are not of it.
use Rattle.std.specs.Prelude.{◌≡◌, ◌⊎◌, List, [], ◌∷◌, Ok, Err}
use Rattle.site_text.specs.declared.fault.ConfFault.{ConfFault}
use Rattle.site_text.specs.declared.fault.ConfFault.TheVariants.{MissingField, ExtraField}
use Rattle.site_text.specs.Fields.{Field}
use Rattle.site_text.specs.Forms.{Value, Form, End, AnyMore, Next}

-- The fields are of the form and say this: each says a value of its kind, and there are as many as the form wants.
abbrev pub FormSays : {R : Type 0} → Form R → List Field → R → Type 0
FormSays (End says) [] said = said ≡ says
FormSays (End says) (field ∷ fields) said = ⊥
FormSays (AnyMore says) fields said = said ≡ says fields
FormSays (Next sort kind behind) [] said = ⊥
FormSays (Next sort kind behind) (field ∷ fields) said = (value : Value sort) × (kind field ≡ Ok value) × FormSays (behind value) fields said

-- The first of the fields is wrong: it is not of its kind, or stands where none may, or is missing. Or it says a value, and the
-- fields behind it are wrong.
abbrev pub FormWrong : {R : Type 0} → Form R → List Field → ConfFault → Type 0
FormWrong (End says) [] fault = ⊥
FormWrong (End says) (field ∷ fields) fault = fault ≡ ExtraField
FormWrong (AnyMore says) fields fault = ⊥
FormWrong (Next sort kind behind) [] fault = fault ≡ MissingField
FormWrong (Next sort kind behind) (field ∷ fields) fault =
    (kind field ≡ Err fault) ⊎ ((value : Value sort) × (kind field ≡ Ok value) × FormWrong (behind value) fields fault)
