-- Reading the fields of a form in steps, from the left.
use Rattle.std.specs.Prelude.{List, Ok}
use Rattle.site_text.specs.Fields.{Field, Read, ◌>>=◌, next_field, no_field}
use Rattle.site_text.specs.Forms.{Form, End, AnyMore, Next}

abbrev pub read_form : {R : Type 0} → Form R → List Field → Read R
read_form (End says) fields = no_field fields >>= λ end. Ok says
read_form (AnyMore says) fields = Ok (says fields)
read_form (Next sort kind behind) fields = next_field fields >>= λ next. kind next.0 >>= λ value. read_form (behind value) next.1
