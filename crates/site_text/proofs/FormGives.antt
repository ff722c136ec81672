-- What holds of all that fields of a form can say.
use Rattle.std.proofs.Common.{◌≡◌, List, [], ◌∷◌, Some, Ok, Bool, true, false, cond, sym, subst, inl, inr}
use Rattle.std.specs.Str.{bytes_eq}
use Rattle.site_text.specs.Fields.{Field}
use Rattle.site_text.specs.Words.{named}
use Rattle.site_text.specs.Forms.{Value, Form, End, AnyMore, Next}
use Rattle.site_text.specs.FormRules.{FormSays}
use Rattle.site_text.specs.Directives.{FormTable, no_words}
use Rattle.site_text.specs.DirectiveRules.{Begins, DirectiveSays}

-- whatever fields of this form say, this holds of it
abbrev pub AlwaysSays : {R : Type 0} → (R → Type 0) → Form R → Type 0
AlwaysSays P (End says) = P says
AlwaysSays P (AnyMore says) = (fields : List Field) → P (says fields)
AlwaysSays P (Next sort kind behind) = (field : Field) (value : Value sort) → kind field ≡ Ok value → AlwaysSays P (behind value)

pub form_gives : {R : Type 0} (P : R → Type 0) (form : Form R) (fields : List Field) (said : R) → AlwaysSays P form → FormSays form fields said → P said
form_gives P (End says) [] said always is = subst P (sym is) always
form_gives P (End says) (f ∷ fs) said always is = absurd is
form_gives P (AnyMore says) fields said always is = subst P (sym is) (always fields)
form_gives P (Next sort kind behind) [] said always is = absurd is
form_gives P (Next sort kind behind) (f ∷ fs) said always (value, is, says) = form_gives P (behind value) fs said (always f value is) says

-- the same of each form of a table
abbrev pub AllSay : {R : Type 0} → (R → Type 0) → FormTable R → Type 0
AllSay P [] = Unit {0}
AllSay P (entry ∷ entries) = AlwaysSays P entry.1 × AllSay P entries

entry_found : {R : Type 0} (P : R → Type 0) (entry : Field × Form R) (entries : FormTable R) (word : Field) (form : Form R) (b : Bool) → AlwaysSays P entry.1 → (named entries word ≡ Some form → AlwaysSays P form)
    → cond b (Some entry.1) (named entries word) ≡ Some form → AlwaysSays P form
entry_found P entry entries word form true first others is = let same : entry.1 ≡ form = cc in subst (AlwaysSays P) same first
entry_found P entry entries word form false first others is = others is

table_gives : {R : Type 0} (P : R → Type 0) (table : FormTable R) (word : Field) (form : Form R) → AllSay P table → named table word ≡ Some form → AlwaysSays P form
table_gives P [] word form all is = absurd cc
table_gives P (entry ∷ entries) word form (first, others) is = entry_found P entry entries word form (bytes_eq word entry.0) first (table_gives P entries word form others) is

begun_gives : {R : Type 0} (P : R → Type 0) (names : FormTable R) (fields : List Field) (form : Form R) (values : List Field) → AllSay P names → Begins names no_words fields form values → AlwaysSays P form
begun_gives P names fields form values all (inl (name, line, there, is)) = table_gives P names name form all is
begun_gives P names fields form values all (inr (word, line, shape, is)) = absurd cc

-- whatever a line says that begins with a name of this table
pub directive_gives : {R : Type 0} (P : R → Type 0) (names : FormTable R) (fields : List Field) (said : R) → AllSay P names → DirectiveSays names no_words fields said → P said
directive_gives P names fields said all says = form_gives P says.form says.values said (begun_gives P names fields says.form says.values all says.begins) says.says
