-- Reading options in steps, from the left.
use Rattle.std.specs.Prelude.{List, [], ◌∷◌, ◌++◌, Ok, Err, if◌then◌else◌}
use Rattle.site_text.specs.declared.fault.ConfFault.TheVariants.{MissingField, Conflict}
use Rattle.site_text.specs.declared.options.TableOption.{TableOption}
use Rattle.site_text.specs.declared.options.TableOption.TheVariants as in_table
use Rattle.site_text.specs.Fields.{Field, Read, ◌>>=◌, next_field}
use Rattle.site_text.specs.Options.{Options, OptionForm, Alone, WithValue}

abbrev pub with_given : {V : Type 0} → Options V → List V → V → Read (List V)
with_given options before v = if options.excludes before v then Err Conflict else Ok (before ++ v ∷ [])

-- what an option gives, with its value among the fields behind it
unfoldable pub given_by : {V : Type 0} → OptionForm V → List Field → Read (V × List Field)
given_by (Alone v) fields = Ok (v, fields)
given_by (WithValue kind) fields = next_field fields >>= λ next. kind next.0 >>= λ v. Ok (v, next.1)

unfoldable pub given_at : {V : Type 0} → Options V → Field → List Field → Read (V × List Field)
given_at options field fields = options.option field >>= λ form. given_by form fields

-- how to go on, by whether an option stands alone
abbrev pub by_form : {V A : Type 0} → OptionForm V → (V → A) → ((Field → Read V) → A) → A
by_form (Alone v) alone valued = alone v
by_form (WithValue kind) alone valued = valued kind

unfoldable pub options_of : {V : Type 0} → Options V → List V → List Field → Read (List V)
options_of options before [] = Ok before
options_of options before (field ∷ []) = options.option field >>= λ form. by_form form (λ v. with_given options before v) (λ kind. Err MissingField)
options_of options before (field ∷ next ∷ fields) = options.option field >>= λ form. by_form form
    (λ v. with_given options before v >>= λ now. options_of options now (next ∷ fields))
    (λ kind. kind next >>= λ v. with_given options before v >>= λ now. options_of options now fields)

-- the option that the code found in a table: of one that takes a value it has a word
abbrev pub form_found : {G W : Type 0} → (W → Field → Read G) → TableOption G W → OptionForm G
form_found value (in_table.Alone given) = Alone given
form_found value (in_table.WithValue word) = WithValue (value word)
