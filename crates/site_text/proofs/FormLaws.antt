-- What is read from the left by a form is what the form means, both ways.
use Rattle.std.proofs.Common.{◌≡◌, ◌≢◌, ◌==◌, false, length, ℕ, List, [], ◌∷◌, Option, Some, None, Ok, Err, refl, sym, ap, subst, ◌∙◌, inl, inr}
use Rattle.std.proofs.Math.Dec.{eqb-suc-zero}
use Rattle.site_text.specs.declared.fault.ConfFault.{ConfFault}
use Rattle.site_text.specs.declared.fault.ConfFault.TheVariants.{UnknownDirective, MissingField}
use Rattle.site_text.specs.Fields.{Field, Read, ◌>>=◌, wanted, next_field, no_field}
use Rattle.site_text.specs.Words.{named}
use Rattle.site_text.specs.ValueLines.{value_line}
use Rattle.site_text.specs.Forms.{Sort, Value, Form, End, AnyMore, Next, ignored_form}
use Rattle.site_text.specs.FormRules.{FormSays, FormWrong}
use Rattle.site_text.specs.FormSteps.{read_form}
use Rattle.site_text.specs.Directives.{FormTable}
use Rattle.site_text.specs.DirectiveRules.{Begins, BeginsWrong, DirectiveSays, DirectiveWrong}
use Rattle.site_text.specs.DirectiveSteps.{Lookup, form_by, read_by, read_directive}

-- ---- from reading to meaning

abbrev Judges : {R : Type 0} → Form R → List Field → Read R → Type 0
Judges form fields (Ok said) = FormSays form fields said
Judges form fields (Err fault) = FormWrong form fields fault

-- behind a field that says a value
deeper : {R : Type 0} (sort : Sort) (kind : Field → Read (Value sort)) (behind : Value sort → Form R) (f : Field) (fs : List Field) (value : Value sort) (read : Read R) → kind f ≡ Ok value
    → Judges (behind value) fs read → Judges (Next sort kind behind) (f ∷ fs) read
deeper sort kind behind f fs value (Ok said) is says = (value, is, says)
deeper sort kind behind f fs value (Err fault) is wrong = inr (value, is, wrong)

at_field : {R : Type 0} (sort : Sort) (kind : Field → Read (Value sort)) (behind : Value sort → Form R) (f : Field) (fs : List Field) (read : Read (Value sort)) → kind f ≡ read
    → ((value : Value sort) → Judges (behind value) fs (read_form (behind value) fs)) → Judges (Next sort kind behind) (f ∷ fs) (read >>= λ value. read_form (behind value) fs)
at_field sort kind behind f fs (Ok value) is rest = deeper sort kind behind f fs value (read_form (behind value) fs) is (rest value)
at_field sort kind behind f fs (Err fault) is rest = inl is

judged : {R : Type 0} (form : Form R) (fields : List Field) → Judges form fields (read_form form fields)
unfolding next_field no_field
judged (End says) [] = refl
judged (End says) (f ∷ fs) = refl
judged (AnyMore says) fields = refl
judged (Next sort kind behind) [] = refl
judged (Next sort kind behind) (f ∷ fs) = at_field sort kind behind f fs (kind f) refl (λ value. judged (behind value) fs)

pub form_said : {R : Type 0} (form : Form R) (fields : List Field) (said : R) → read_form form fields ≡ Ok said → FormSays form fields said
form_said form fields said is = subst (Judges form fields) is (judged form fields)

pub form_wrong : {R : Type 0} (form : Form R) (fields : List Field) (fault : ConfFault) → read_form form fields ≡ Err fault → FormWrong form fields fault
form_wrong form fields fault is = subst (Judges form fields) is (judged form fields)

-- ---- from meaning to reading

pub form_read : {R : Type 0} (form : Form R) (fields : List Field) (said : R) → FormSays form fields said → read_form form fields ≡ Ok said
unfolding next_field no_field
form_read (End says) [] said is = rw is refl
form_read (End says) (f ∷ fs) said is = absurd is
form_read (AnyMore says) fields said is = rw is refl
form_read (Next sort kind behind) [] said is = absurd is
form_read (Next sort kind behind) (f ∷ fs) said (value, is, says) = rw is (form_read (behind value) fs said says)

pub form_refused : {R : Type 0} (form : Form R) (fields : List Field) (fault : ConfFault) → FormWrong form fields fault → read_form form fields ≡ Err fault
unfolding next_field no_field
form_refused (End says) [] fault wrong = absurd wrong
form_refused (End says) (f ∷ fs) fault wrong = rw wrong refl
form_refused (AnyMore says) fields fault wrong = absurd wrong
form_refused (Next sort kind behind) [] fault wrong = rw wrong refl
form_refused (Next sort kind behind) (f ∷ fs) fault (inl is) = rw is refl
form_refused (Next sort kind behind) (f ∷ fs) fault (inr (value, is, wrong)) = rw is (form_refused (behind value) fs fault wrong)

-- ---- how a line begins

no_line : value_line [] ≡ None
unfolding value_line
no_line = refl

abbrev begun : {R : Type 0} → List Field → Form R → Read (Form R × List Field)
begun fields form = Ok (form, fields)

at_word : {R : Type 0} (names words : FormTable R) (f : Field) (fs : List Field) → value_line (f ∷ fs) ≡ None
    → form_by (named names) (named words) (f ∷ fs) ≡ (wanted (named words f) UnknownDirective >>= begun fs)
unfolding form_by
at_word names words f fs line = rw line refl

at_nothing : {R : Type 0} (names words : FormTable R) (f : Field) (fs values : List Field) → value_line (f ∷ fs) ≡ Some ([], values)
    → form_by (named names) (named words) (f ∷ fs) ≡ Err MissingField
unfolding form_by
at_nothing names words f fs values line = rw line refl

at_name : {R : Type 0} (names words : FormTable R) (f : Field) (fs : List Field) (b : ℕ) (bs : List ℕ) (values : List Field) → value_line (f ∷ fs) ≡ Some (b ∷ bs, values)
    → form_by (named names) (named words) (f ∷ fs) ≡ (wanted (named names (b ∷ bs)) UnknownDirective >>= begun values)
unfolding form_by
at_name names words f fs b bs values line =
    let some : (length (b ∷ bs) == 0) ≡ false = eqb-suc-zero (length bs) in
    rw (line, some) refl

not_empty : (b : ℕ) (bs : List ℕ) → b ∷ bs ≢ []
not_empty b bs is = absurd cc

abbrev JudgesBegin : {R : Type 0} → FormTable R → FormTable R → List Field → Read (Form R × List Field) → Type 0
JudgesBegin names words fields (Ok x) = Begins names words fields x.0 x.1
JudgesBegin names words fields (Err fault) = BeginsWrong names words fields fault

word_begins : {R : Type 0} (names words : FormTable R) (f : Field) (fs : List Field) (entry : Option (Form R)) → value_line (f ∷ fs) ≡ None → named words f ≡ entry
    → JudgesBegin names words (f ∷ fs) (wanted entry UnknownDirective >>= begun fs)
word_begins names words f fs (Some form) line is = inr (f, line, refl, is)
word_begins names words f fs None line is = inr (f, fs, line, refl, is)

name_begins : {R : Type 0} (names words : FormTable R) (fields : List Field) (b : ℕ) (bs : List ℕ) (values : List Field) (entry : Option (Form R)) → value_line fields ≡ Some (b ∷ bs, values)
    → named names (b ∷ bs) ≡ entry → JudgesBegin names words fields (wanted entry UnknownDirective >>= begun values)
name_begins names words fields b bs values (Some form) line is = inl (b ∷ bs, line, not_empty b bs, is)
name_begins names words fields b bs values None line is = inl (b ∷ bs, values, line, not_empty b bs, is)

line_begins : {R : Type 0} (names words : FormTable R) (f : Field) (fs : List Field) (line : Option (Field × List Field)) → value_line (f ∷ fs) ≡ line
    → JudgesBegin names words (f ∷ fs) (form_by (named names) (named words) (f ∷ fs))
line_begins names words f fs None is =
    subst (JudgesBegin names words (f ∷ fs)) (sym (at_word names words f fs is)) (word_begins names words f fs (named words f) is refl)
line_begins names words f fs (Some ([], values)) is =
    subst (JudgesBegin names words (f ∷ fs)) (sym (at_nothing names words f fs values is)) (inr (values, is))
line_begins names words f fs (Some (b ∷ bs, values)) is =
    subst (JudgesBegin names words (f ∷ fs)) (sym (at_name names words f fs b bs values is))
    (name_begins names words (f ∷ fs) b bs values (named names (b ∷ bs)) is refl)

begins : {R : Type 0} (names words : FormTable R) (fields : List Field) → JudgesBegin names words fields (form_by (named names) (named words) fields)
unfolding form_by
begins names words [] = inl refl
begins names words (f ∷ fs) = line_begins names words f fs (value_line (f ∷ fs)) refl

-- and back
begun_read : {R : Type 0} (names words : FormTable R) (fields : List Field) (form : Form R) (values : List Field) → Begins names words fields form values
    → form_by (named names) (named words) fields ≡ Ok (form, values)
begun_read names words [] form values (inl (name, line, there, is)) = (let h = no_line in absurd cc)
begun_read names words [] form values (inr (word, line, shape, is)) = absurd cc
begun_read names words (f ∷ fs) form values (inl ([], line, there, is)) = absurd (there refl)
begun_read names words (f ∷ fs) form values (inl (b ∷ bs, line, there, is)) = at_name names words f fs b bs values line ∙ rw is refl
begun_read names words (f ∷ fs) form values (inr (word, line, shape, is)) =
    let first : f ≡ word = cc in
    let others : fs ≡ values = cc in
    at_word names words f fs line ∙ rw (first, is, others) refl

wrong_read : {R : Type 0} (names words : FormTable R) (fields : List Field) (fault : ConfFault) → BeginsWrong names words fields fault
    → form_by (named names) (named words) fields ≡ Err fault
unfolding form_by
wrong_read names words [] MissingField wrong = refl
wrong_read names words (f ∷ fs) MissingField (inl none) = absurd cc
wrong_read names words (f ∷ fs) MissingField (inr (values, line)) = at_nothing names words f fs values line
wrong_read names words [] UnknownDirective (inl (name, values, line, there, is)) = (let h = no_line in absurd cc)
wrong_read names words [] UnknownDirective (inr (word, values, line, shape, is)) = absurd cc
wrong_read names words (f ∷ fs) UnknownDirective (inl ([], values, line, there, is)) = absurd (there refl)
wrong_read names words (f ∷ fs) UnknownDirective (inl (b ∷ bs, values, line, there, is)) = at_name names words f fs b bs values line ∙ rw is refl
wrong_read names words (f ∷ fs) UnknownDirective (inr (word, values, line, shape, is)) =
    let first : f ≡ word = cc in
    at_word names words f fs line ∙ rw (first, is) refl
wrong_read names words fields fault wrong = absurd wrong

-- ---- lines that begin with a directive

abbrev JudgesDirective : {R : Type 0} → FormTable R → FormTable R → List Field → Read R → Type 0
JudgesDirective names words fields (Ok said) = DirectiveSays names words fields said
JudgesDirective names words fields (Err fault) = DirectiveWrong names words fields fault

behind_begin : {R : Type 0} (names words : FormTable R) (fields : List Field) (form : Form R) (values : List Field) (read : Read R) → Begins names words fields form values
    → Judges form values read → JudgesDirective names words fields read
behind_begin names words fields form values (Ok said) is says = record { form = form; values = values; begins = is; says = says }
behind_begin names words fields form values (Err fault) is wrong = inr (form, values, is, wrong)

from_begin : {R : Type 0} (names words : FormTable R) (fields : List Field) (read : Read (Form R × List Field)) → JudgesBegin names words fields read
    → JudgesDirective names words fields (read >>= λ x. read_form x.0 x.1)
from_begin names words fields (Ok x) is = behind_begin names words fields x.0 x.1 (read_form x.0 x.1) is (judged x.0 x.1)
from_begin names words fields (Err fault) wrong = inl wrong

directive : {R : Type 0} (names words : FormTable R) (fields : List Field) → JudgesDirective names words fields (read_directive names words fields)
directive names words fields = from_begin names words fields (form_by (named names) (named words) fields) (begins names words fields)

pub directive_said : {R : Type 0} (names words : FormTable R) (fields : List Field) (said : R) → read_directive names words fields ≡ Ok said → DirectiveSays names words fields said
directive_said names words fields said is = subst (JudgesDirective names words fields) is (directive names words fields)

pub directive_wrong : {R : Type 0} (names words : FormTable R) (fields : List Field) (fault : ConfFault) → read_directive names words fields ≡ Err fault → DirectiveWrong names words fields fault
directive_wrong names words fields fault is = subst (JudgesDirective names words fields) is (directive names words fields)

pub directive_read : {R : Type 0} (names words : FormTable R) (fields : List Field) (said : R) → DirectiveSays names words fields said → read_directive names words fields ≡ Ok said
directive_read names words fields said says =
    rw (begun_read names words fields says.form says.values says.begins) (form_read says.form says.values said says.says)

pub directive_refused : {R : Type 0} (names words : FormTable R) (fields : List Field) (fault : ConfFault) → DirectiveWrong names words fields fault → read_directive names words fields ≡ Err fault
directive_refused names words fields fault (inl wrong) = rw (wrong_read names words fields fault wrong) refl
directive_refused names words fields fault (inr (form, values, is, wrong)) = rw (begun_read names words fields form values is) (form_refused form values fault wrong)

-- ---- other ways to look names and words up

-- reading a line by lookups that find the same is the same
at_same_line : {R : Type 0} (names words names' words' : Lookup R) → ((name : Field) → names name ≡ names' name) → ((word : Field) → words word ≡ words' word)
    → (f : Field) (fs : List Field) (line : Option (Field × List Field)) → value_line (f ∷ fs) ≡ line → form_by names words (f ∷ fs) ≡ form_by names' words' (f ∷ fs)
unfolding form_by
at_same_line names words names' words' same_names same_words f fs None is = rw (is, same_words f) refl
at_same_line names words names' words' same_names same_words f fs (Some (name, values)) is = rw (is, same_names name) refl

at_same_form : {R : Type 0} (names words names' words' : Lookup R) → ((name : Field) → names name ≡ names' name) → ((word : Field) → words word ≡ words' word)
    → (fields : List Field) → form_by names words fields ≡ form_by names' words' fields
unfolding form_by
at_same_form names words names' words' same_names same_words [] = refl
at_same_form names words names' words' same_names same_words (f ∷ fs) = at_same_line names words names' words' same_names same_words f fs (value_line (f ∷ fs)) refl

abbrev read_from : {R : Type 0} → Read (Form R × List Field) → Read R
read_from read = read >>= λ x. read_form x.0 x.1

pub read_same : {R : Type 0} (names words names' words' : Lookup R) → ((name : Field) → names name ≡ names' name) → ((word : Field) → words word ≡ words' word)
    → (fields : List Field) → read_by names words fields ≡ read_by names' words' fields
read_same names words names' words' same_names same_words fields = ap read_from (at_same_form names words names' words' same_names same_words fields)

-- ---- fields of which none is kept

pub ignored_next : {R : Type 0} (said : R) (fields : List Field) (next : Field × List Field) → next_field fields ≡ Ok next → Ok said ≡ read_form (ignored_form said) fields
unfolding next_field
ignored_next said [] next is = absurd cc
ignored_next said (f ∷ fs) next is = refl
