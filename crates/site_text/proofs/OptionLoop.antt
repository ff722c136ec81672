-- Reading options one after the other, as a loop does.
use Rattle.std.proofs.Common.{◌≡◌, ◌<◌, ◌≤◌, List, [], ◌∷◌, length, Ok, Err, refl, sym, ap, ◌∙◌, arith}
use Rattle.site_text.specs.Fields.{Field, Read, ◌>>=◌, next_field, Fails}
use Rattle.site_text.specs.declared.fault.LineError.{LineError}
use Rattle.site_text.specs.declared.fault.LineError.TheVariants.{Fault, NoMemory}
use Rattle.site_text.specs.Options.{Options, OptionForm, Alone, WithValue}
use Rattle.site_text.specs.OptionSteps.{with_given, given_by, given_at, by_form, options_of}

abbrev paired : {V : Type 0} → List Field → V → Read (V × List Field)
paired fields v = Ok (v, fields)

abbrev rest_of : {V : Type 0} → Options V → List V → V × List Field → Read (List V)
rest_of options before x = with_given options before x.0 >>= λ now. options_of options now x.1

ends_there : {A : Type 0} (read : Read A) → read ≡ (read >>= λ now. Ok now)
ends_there (Ok x) = refl
ends_there (Err e) = refl

at_value : {V : Type 0} (options : Options V) (before : List V) (fields : List Field) (read : Read V)
    → (read >>= λ v. with_given options before v >>= λ now. options_of options now fields) ≡ (read >>= paired fields) >>= rest_of options before
at_value options before fields (Ok v) = refl
at_value options before fields (Err e) = refl

last_form : {V : Type 0} (options : Options V) (before : List V) (read : Read (OptionForm V)) → ((now : List V) → options_of options now [] ≡ Ok now)
    → (read >>= λ form. by_form form (λ v. with_given options before v) (λ kind. (next_field [] >>= λ next. kind next.0 >>= paired next.1) >>= rest_of options before)) ≡ (read >>= λ form. given_by form []) >>= rest_of options before
unfolding given_by next_field options_of
last_form options before (Ok (Alone v)) none = ends_there (with_given options before v)
last_form options before (Ok (WithValue kind)) none = refl
last_form options before (Err e) none = refl

next_form : {V : Type 0} (options : Options V) (before : List V) (g : Field) (fields : List Field) (read : Read (OptionForm V))
    → (read >>= λ form. by_form form (λ v. with_given options before v >>= λ now. options_of options now (g ∷ fields)) (λ kind. kind g >>= λ v. with_given options before v >>= λ now. options_of options now fields))
    ≡ (read >>= λ form. given_by form (g ∷ fields)) >>= rest_of options before
unfolding given_by next_field
next_form options before g fields (Ok (Alone v)) = refl
next_form options before g fields (Ok (WithValue kind)) = at_value options before fields (kind g)
next_form options before g fields (Err e) = refl

pub steps : {V : Type 0} (options : Options V) (before : List V) (f : Field) (fields : List Field) → options_of options before (f ∷ fields) ≡ given_at options f fields >>= rest_of options before
unfolding options_of given_at next_field
steps options before f [] = last_form options before (options.option f) (λ now. refl)
steps options before f (g ∷ fields) = next_form options before g fields (options.option f)

value_shorter : {V : Type 0} (x : V × List Field) (g : Field) (gs : List Field) (read : Read V) → (read >>= paired gs) ≡ Ok x → length x.1 ≤ length (g ∷ gs)
value_shorter x g gs (Ok v) is = let e : gs ≡ x.1 = cc in omega (arith, ap length e)
value_shorter x g gs (Err e) is = absurd cc

form_shorter : {V : Type 0} (x : V × List Field) (fields : List Field) (form : OptionForm V) → given_by form fields ≡ Ok x → length x.1 ≤ length fields
unfolding given_by next_field
form_shorter x fields (Alone v) is = let e : fields ≡ x.1 = cc in omega (arith, ap length e)
form_shorter x [] (WithValue kind) is = absurd cc
form_shorter x (g ∷ gs) (WithValue kind) is = value_shorter x g gs (kind g) is

option_shorter : {V : Type 0} (x : V × List Field) (fields : List Field) (read : Read (OptionForm V)) → (read >>= λ form. given_by form fields) ≡ Ok x → length x.1 ≤ length fields
option_shorter x fields (Ok form) is = form_shorter x fields form is
option_shorter x fields (Err e) is = absurd cc

pub smaller : {V : Type 0} (options : Options V) (f : Field) (fields rest all : List Field) (v : V) → all ≡ f ∷ fields → given_at options f fields ≡ Ok (v, rest) → length rest < length all
unfolding given_at
smaller options f fields rest all v cut is = omega (arith, option_shorter (v, rest) fields (options.option f) is, ap length cut)

pub goes : {V : Type 0} (options : Options V) (before now : List V) (f : Field) (fields rest all : List Field) (v : V) → all ≡ f ∷ fields → given_at options f fields ≡ Ok (v, rest) → with_given options before v ≡ Ok now → options_of options before all ≡ options_of options now rest
goes options before now f fields rest all v cut is added = rw (cut, steps options before f fields, is, added) refl

pub wrong_option : {V : Type 0} (options : Options V) (before : List V) (f : Field) (fields rest all : List Field) (v : V) (e : LineError) (read : Read (List V)) → all ≡ f ∷ fields → given_at options f fields ≡ Ok (v, rest) → Fails e (with_given options before v) → options_of options before all ≡ read → Fails e read
wrong_option options before f fields rest all v (Fault e) read cut is fails so_far = sym so_far ∙ rw (cut, steps options before f fields, is, fails) refl
wrong_option options before f fields rest all v NoMemory read cut is fails so_far = tt

pub wrong_given : {V : Type 0} (options : Options V) (before : List V) (f : Field) (fields all : List Field) (e : LineError) (read : Read (List V)) → all ≡ f ∷ fields → Fails e (given_at options f fields) → options_of options before all ≡ read → Fails e read
wrong_given options before f fields all (Fault e) read cut is so_far = sym so_far ∙ rw (cut, steps options before f fields, is) refl
wrong_given options before f fields all NoMemory read cut is so_far = tt
