-- Forms of fields: what must stand at each place, and what the fields say together.
use Rattle.std.specs.Prelude.{ℕ, List}
use Rattle.site_text.specs.Fields.{Field, Read}
use Rattle.site_text.specs.Values.{any_value}

-- what a field may have to say: a number, a text, or a list of numbers
pub data Sort : Type 0 where
  Number : Sort
  Text : Sort
  Numbers : Sort

abbrev pub Value : Sort → Type 0
Value Number = ℕ
Value Text = Field
Value Numbers = List ℕ

-- A form: no field follows, and the line says this; or any fields may follow, and it says this of them; or a field of a kind must
-- follow, and what it says gives the form of the fields behind it.
pub data Form (R : Type 0) : Type 0 where
  End : R → Form R
  AnyMore : (List Field → R) → Form R
  Next : (sort : Sort) → (Field → Read (Value sort)) → (Value sort → Form R) → Form R

-- ---- forms by the kinds of their fields

abbrev pub number : {R : Type 0} → (Field → Read ℕ) → (ℕ → Form R) → Form R
number kind behind = Next Number kind behind

abbrev pub text : {R : Type 0} → (Field → Read Field) → (Field → Form R) → Form R
text kind behind = Next Text kind behind

abbrev pub numbers : {R : Type 0} → (Field → Read (List ℕ)) → (List ℕ → Form R) → Form R
numbers kind behind = Next Numbers kind behind

-- one field, of which the line says this
abbrev pub one_number : {R : Type 0} → (Field → Read ℕ) → (ℕ → R) → Form R
one_number kind says = number kind (λ n. End (says n))

abbrev pub one_text : {R : Type 0} → (Field → Read Field) → (Field → R) → Form R
one_text kind says = text kind (λ t. End (says t))

abbrev pub one_list : {R : Type 0} → (Field → Read (List ℕ)) → (List ℕ → R) → Form R
one_list kind says = numbers kind (λ ns. End (says ns))

-- one or more fields of any kind, of which none is kept
abbrev pub ignored_form : {R : Type 0} → R → Form R
ignored_form said = text any_value (λ first. AnyMore (λ others. said))
