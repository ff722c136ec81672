-- A copy line is refused as what is wrong with it.
use Rattle.std.proofs.Common.{◌≡◌, ℕ, ◌≤◌, Bool, true, false, cond, List, [], ◌∷◌, ◌++◌, Option, Some, None, Result, Ok, Err, refl, sym, ap, subst, ◌∙◌, ◌⊎◌, inl, inr, codes, arith}
use Rattle.std.specs.Prelude.{◌&&◌, not, nat_le}
use Rattle.std.specs.Str.{bytes_eq}
use Rattle.std.proofs.lemmas.Bool.{leb-true, leb-false}
use Rattle.site_text.specs.declared.fault.ConfFault.{ConfFault}
use Rattle.site_text.specs.declared.fault.ConfFault.TheVariants.{UnknownDirective, ExtraField, BadValue, CopyBeforeSet, CopyTwice, TooMany, Conflict, OutOfRange}
use Rattle.site_text.specs.declared.refusal.TextRefusal.{TextRefusal}
use Rattle.site_text.specs.Numbers.{number_in}
use Rattle.site_text.specs.Ages.{age_of}
use Rattle.site_text.specs.Values.{bad_value, age_value}
use Rattle.site_text.specs.Words.{is_option}
use Rattle.site_text.specs.Fields.{Field, Read, ◌>>=◌, no_field, wanted, refuse_if}
use Rattle.archiver_lines.specs.declared.reading.CopyConf.{CopyConf}
use Rattle.archiver_lines.specs.declared.reading.SetCopy.{SetCopy}
use Rattle.archiver_lines.specs.Names.{IsOneTooMany}
use Rattle.archiver_lines.specs.CopySteps.{is_too_many, no_second, copy_option, copy_ages, copy_conf, copy_line}
use Rattle.archiver_lines.specs.CopyRules.{has_copy, OptionSays, AgesSay, IsPlain, NumberFault, IsCopyOption, OptionFault, OptionWrong, AgeFault, AgesWrong, BehindNumber, CopyWrong}
use Rattle.archiver_lines.specs.Faults.{fault_number}
use Rattle.archiver_lines.proofs.Sets.{many_said, not_many}
use Rattle.archiver_lines.proofs.Tests.{same, is_same, other, is_other}
use Rattle.archiver_lines.proofs.CopyLaws.{option_read, option_said, age_said, set_copy, ending}
use Rattle.archiver_lines.proofs.Faults.{bind_err, Judges, fails, passes, failed, passed}

-- ---- the number

abbrev number_tests : ℕ → Field → Bool → Bool → Bool → Bool → Read (ℕ × Field)
number_tests copy set twice many barred within =
    refuse_if twice CopyTwice >>= λ u. refuse_if many TooMany >>= λ u. refuse_if barred Conflict >>= λ u. refuse_if (not within) OutOfRange >>= λ u. Ok (copy, set)

abbrev tests_of : List SetCopy → List Field → ℕ → Field → Read (ℕ × Field)
tests_of copies sets copy set = number_tests copy set (has_copy copies set copy) (is_too_many sets set) (bytes_eq set (codes "no_archive")) (nat_le 1 copy && nat_le copy 4)

abbrev number_with : List SetCopy → List Field → Option ℕ → Option Field → Read (ℕ × Field)
number_with copies sets number target = wanted number BadValue >>= λ copy. wanted target CopyBeforeSet >>= λ set. tests_of copies sets copy set

abbrev number_read : Option Field → List SetCopy → List Field → Field → Read (ℕ × Field)
number_read target copies sets field = number_with copies sets (number_in 9 field) target

same_copy : (copies : List SetCopy) (set s : Field) (copy c : ℕ) → set ≡ s → copy ≡ c → has_copy copies set copy ≡ false → ¬ (has_copy copies s c ≡ true)
same_copy copies set s copy c e d fresh twice = let h : has_copy copies s c ≡ false = subst (λ (t : Field). has_copy copies t c ≡ false) e (subst (λ (k : ℕ). has_copy copies set k ≡ false) d fresh) in absurd cc

same_set : (sets : List Field) (set s : Field) → set ≡ s → is_too_many sets set ≡ false → ¬ IsOneTooMany sets s
same_set sets set s e few many = not_many sets s (subst (λ (t : Field). is_too_many sets t ≡ false) e few) many

module _ (target : Option Field) (copies : List SetCopy) (sets : List Field) (field : Field) where
  form_first : (fault : ConfFault) → NumberFault target copies sets field fault → 4 ≤ fault_number fault
  form_first BadValue has = omega (arith)
  form_first CopyBeforeSet has = omega (arith)
  form_first CopyTwice has = omega (arith)
  form_first TooMany has = omega (arith)
  form_first Conflict has = omega (arith)
  form_first OutOfRange has = omega (arith)
  form_first fault has = absurd has

  then_set : (copy : ℕ) → number_in 9 field ≡ Some copy → (fault : ConfFault) → NumberFault target copies sets field fault → 5 ≤ fault_number fault
  then_set copy number BadValue has = absurd cc
  then_set copy number CopyBeforeSet has = omega (arith)
  then_set copy number CopyTwice has = omega (arith)
  then_set copy number TooMany has = omega (arith)
  then_set copy number Conflict has = omega (arith)
  then_set copy number OutOfRange has = omega (arith)
  then_set copy number fault has = absurd has

  module _ (copy : ℕ) (set : Field) (number : number_in 9 field ≡ Some copy) (belongs : target ≡ Some set) where
    then_fresh : (fault : ConfFault) → NumberFault target copies sets field fault → 6 ≤ fault_number fault
    then_fresh BadValue has = absurd cc
    then_fresh CopyBeforeSet has = absurd cc
    then_fresh CopyTwice has = omega (arith)
    then_fresh TooMany has = omega (arith)
    then_fresh Conflict has = omega (arith)
    then_fresh OutOfRange has = omega (arith)
    then_fresh fault has = absurd has

    not_twice : has_copy copies set copy ≡ false → NumberFault target copies sets field CopyTwice → ⊥
    not_twice fresh (s, c, there, is, twice) =
        same_copy copies set s copy c (let e : set ≡ s = cc in e) (let e : copy ≡ c = cc in e) fresh twice

    no_more : is_too_many sets set ≡ false → NumberFault target copies sets field TooMany → ⊥
    no_more few (s, there, many) = same_set sets set s (let e : set ≡ s = cc in e) few many

    not_barred : bytes_eq set (codes "no_archive") ≡ false → NumberFault target copies sets field Conflict → ⊥
    not_barred archived has = is_other set (codes "no_archive") archived (let e : set ≡ codes "no_archive" = cc in e)

    not_outside : nat_le 1 copy ≡ true → nat_le copy 4 ≡ true → NumberFault target copies sets field OutOfRange → ⊥
    not_outside low high (c, is, inl below) = let e : copy ≡ c = cc in omega (arith, leb-true 1 copy low, e, below)
    not_outside low high (c, is, inr above) = let e : copy ≡ c = cc in omega (arith, leb-true copy 4 high, e, above)

    then_room : has_copy copies set copy ≡ false → (fault : ConfFault) → NumberFault target copies sets field fault → 10 ≤ fault_number fault
    then_room fresh BadValue has = absurd cc
    then_room fresh CopyBeforeSet has = absurd cc
    then_room fresh CopyTwice has = absurd (not_twice fresh has)
    then_room fresh TooMany has = omega (arith)
    then_room fresh Conflict has = omega (arith)
    then_room fresh OutOfRange has = omega (arith)
    then_room fresh fault has = absurd has

    then_archived : has_copy copies set copy ≡ false → is_too_many sets set ≡ false → (fault : ConfFault) → NumberFault target copies sets field fault → 11 ≤ fault_number fault
    then_archived fresh few BadValue has = absurd cc
    then_archived fresh few CopyBeforeSet has = absurd cc
    then_archived fresh few CopyTwice has = absurd (not_twice fresh has)
    then_archived fresh few TooMany has = absurd (no_more few has)
    then_archived fresh few Conflict has = omega (arith)
    then_archived fresh few OutOfRange has = omega (arith)
    then_archived fresh few fault has = absurd has

    then_range : has_copy copies set copy ≡ false → is_too_many sets set ≡ false → bytes_eq set (codes "no_archive") ≡ false → (fault : ConfFault) → NumberFault target copies sets field fault → 13 ≤ fault_number fault
    then_range fresh few archived BadValue has = absurd cc
    then_range fresh few archived CopyBeforeSet has = absurd cc
    then_range fresh few archived CopyTwice has = absurd (not_twice fresh has)
    then_range fresh few archived TooMany has = absurd (no_more few has)
    then_range fresh few archived Conflict has = absurd (not_barred archived has)
    then_range fresh few archived OutOfRange has = omega (arith)
    then_range fresh few archived fault has = absurd has

    none : has_copy copies set copy ≡ false → is_too_many sets set ≡ false → bytes_eq set (codes "no_archive") ≡ false → nat_le 1 copy ≡ true → nat_le copy 4 ≡ true → (fault : ConfFault) → ¬ NumberFault target copies sets field fault
    none fresh few archived low high BadValue has = absurd cc
    none fresh few archived low high CopyBeforeSet has = absurd cc
    none fresh few archived low high CopyTwice has = not_twice fresh has
    none fresh few archived low high TooMany has = no_more few has
    none fresh few archived low high Conflict has = not_barred archived has
    none fresh few archived low high OutOfRange has = not_outside low high has
    none fresh few archived low high fault has = absurd has

    of_set : (twice many barred low high : Bool) → has_copy copies set copy ≡ twice → is_too_many sets set ≡ many → bytes_eq set (codes "no_archive") ≡ barred → nat_le 1 copy ≡ low → nat_le copy 4 ≡ high
        → Judges (NumberFault target copies sets field) (number_tests copy set twice many barred (low && high))
    of_set true many barred low high p q r s t = record { there = (set, copy, belongs, number, p); lowest = then_fresh }
    of_set false true barred low high p q r s t = record { there = (set, belongs, many_said sets set q); lowest = then_room p }
    of_set false false true low high p q r s t = record { there = belongs ∙ ap (λ (f : Field). some_field f) (is_same set (codes "no_archive") r); lowest = then_archived p q }
      where
        some_field : Field → Option Field
        some_field f = Some f
    of_set false false false false high p q r s t = record { there = (copy, number, inl (leb-false 1 copy s)); lowest = then_range p q r }
    of_set false false false true false p q r s t = record { there = (copy, number, inr (leb-false copy 4 t)); lowest = then_range p q r }
    of_set false false false true true p q r s t = none p q r s t

  number_judged : Judges (NumberFault target copies sets field) (number_read target copies sets field)
  number_judged = go (number_in 9 field) target refl refl
    where
      go : (n : Option ℕ) (t : Option Field) → number_in 9 field ≡ n → target ≡ t → Judges (NumberFault target copies sets field) (number_with copies sets n t)
      go None t number belongs = record { there = number; lowest = form_first }
      go (Some copy) None number belongs = record { there = belongs; lowest = then_set copy number }
      go (Some copy) (Some set) number belongs = of_set copy set number belongs (has_copy copies set copy) (is_too_many sets set) (bytes_eq set (codes "no_archive")) (nat_le 1 copy) (nat_le copy 4) refl refl refl refl refl

-- ---- the number comes first, and then what is behind it

abbrev after_tests : ℕ → Field → List Field → Bool → Bool → Bool → Bool → Read SetCopy
after_tests copy set fields twice many barred within =
    refuse_if twice CopyTwice >>= λ u. refuse_if many TooMany >>= λ u. refuse_if barred Conflict >>= λ u. refuse_if (not within) OutOfRange >>= λ u. ending copy set fields

four_tests : (copy : ℕ) (set : Field) (fields : List Field) (twice many barred within : Bool) → after_tests copy set fields twice many barred within ≡ (number_tests copy set twice many barred within >>= λ x. ending x.0 x.1 fields)
four_tests copy set fields true many barred within = refl
four_tests copy set fields false true barred within = refl
four_tests copy set fields false false true within = refl
four_tests copy set fields false false false false = refl
four_tests copy set fields false false false true = refl

abbrev line_with : List SetCopy → List Field → List Field → Option ℕ → Option Field → Read SetCopy
line_with copies sets fields number target = wanted number BadValue >>= λ copy. wanted target CopyBeforeSet >>= λ set.
    after_tests copy set fields (has_copy copies set copy) (is_too_many sets set) (bytes_eq set (codes "no_archive")) (nat_le 1 copy && nat_le copy 4)

with_number : (copies : List SetCopy) (sets fields : List Field) (number : Option ℕ) (target : Option Field) → line_with copies sets fields number target ≡ (number_with copies sets number target >>= λ x. ending x.0 x.1 fields)
with_number copies sets fields None target = refl
with_number copies sets fields (Some copy) None = refl
with_number copies sets fields (Some copy) (Some set) = four_tests copy set fields (has_copy copies set copy) (is_too_many sets set) (bytes_eq set (codes "no_archive")) (nat_le 1 copy && nat_le copy 4)

number_first : (target : Option Field) (copies : List SetCopy) (sets : List Field) (field : Field) (fields : List Field) → copy_line target copies sets field fields ≡ (number_read target copies sets field >>= λ x. ending x.0 x.1 fields)
unfolding copy_line
number_first target copies sets field fields = with_number copies sets fields (number_in 9 field) target

-- ---- the option

abbrev failing : ConfFault → Read (Unit {0})
failing fault = Err fault

second_wrong : (a b option : Field) (fields : List Field) (fault : ConfFault) → option ≡ a → ((f : Field) → (f ≡ a) ⊎ (f ≡ b) → IsCopyOption f) → ((f : Field) → IsCopyOption f → (f ≡ a) ⊎ (f ≡ b))
    → no_second a b fields ≡ Err fault → OptionWrong (option ∷ []) fields fault
unfolding no_second
second_wrong a b option [] fault first into from is = absurd cc
second_wrong a b option (f ∷ fs) fault first into from is = go (bytes_eq f a) (bytes_eq f b) (is_option f) refl refl refl is
  where
    neither : bytes_eq f a ≡ false → bytes_eq f b ≡ false → (f ≡ a) ⊎ (f ≡ b) → ⊥
    neither p q (inl e) = is_other f a p e
    neither p q (inr e) = is_other f b q e

    go : (x y z : Bool) → bytes_eq f a ≡ x → bytes_eq f b ≡ y → is_option f ≡ z → cond x (Err ExtraField) (cond y (Err Conflict) (refuse_if z UnknownDirective)) ≡ Err fault → OptionFault (option ∷ []) f fault
    go true y z p q o is = let e : ExtraField ≡ fault = cc in subst (OptionFault (option ∷ []) f) e (is_same f a p ∙ sym first)
    go false true z p q o is = let e : Conflict ≡ fault = cc in subst (OptionFault (option ∷ []) f) e (into f (inr (is_same f b q)), λ same. is_other f a p (same ∙ first))
    go false false true p q o is = let e : UnknownDirective ≡ fault = cc in subst (OptionFault (option ∷ []) f) e (o, λ word. neither p q (from f word))
    go false false false p q o is = absurd cc

either_way : {A B : Type 0} → A ⊎ B → B ⊎ A
either_way (inl a) = inr a
either_way (inr b) = inl b

abbrev chosen : Bool → Bool → List Field → (Bool × Bool) × List Field
chosen release norelease fields = ((release, norelease), fields)

abbrev Chosen : Type 0
Chosen = (Bool × Bool) × List Field

-- where the second step gives something, the first failed
step_failed : {A B : Type 0} (read : Read A) (y : B) (fault : ConfFault) → (read >>= λ x. Ok y) ≡ Err fault → read ≡ Err fault
step_failed (Ok x) y fault is = absurd cc
step_failed (Err first) y fault is = (let e : first ≡ fault = cc in rw e refl)

option_wrong : (fields : List Field) (fault : ConfFault) → copy_option fields ≡ Err fault → BehindNumber fields fault
unfolding copy_option
option_wrong [] fault is = absurd cc
option_wrong (f ∷ fs) fault is = go (bytes_eq f (codes "-release")) (bytes_eq f (codes "-norelease")) (is_option f) refl refl refl is
  where
    neither : bytes_eq f (codes "-release") ≡ false → bytes_eq f (codes "-norelease") ≡ false → ¬ IsCopyOption f
    neither p q (inl e) = is_other f (codes "-release") p e
    neither p q (inr e) = is_other f (codes "-norelease") q e

    go : (a b d : Bool) → bytes_eq f (codes "-release") ≡ a → bytes_eq f (codes "-norelease") ≡ b → is_option f ≡ d
        → cond a (no_second (codes "-release") (codes "-norelease") fs >>= λ u. Ok (chosen true false fs)) (cond b (no_second (codes "-norelease") (codes "-release") fs >>= λ u. Ok (chosen false true fs)) (cond d (Err UnknownDirective) (Ok (chosen false false (f ∷ fs))))) ≡ Err fault → BehindNumber (f ∷ fs) fault
    go true b d p q o is = record {
      options = f ∷ [];
      rest = fs;
      cut = refl;
      release = true;
      norelease = false;
      before = is_same f (codes "-release") p;
      here = inl (second_wrong (codes "-release") (codes "-norelease") f fs fault (is_same f (codes "-release") p) (λ g word. word) (λ g word. word) (step_failed (no_second (codes "-release") (codes "-norelease") fs) (chosen true false fs) fault is));
    }
    go false true d p q o is = record {
      options = f ∷ [];
      rest = fs;
      cut = refl;
      release = false;
      norelease = true;
      before = is_same f (codes "-norelease") q;
      here = inl (second_wrong (codes "-norelease") (codes "-release") f fs fault (is_same f (codes "-norelease") q) (λ g word. either_way word) (λ g word. either_way word) (step_failed (no_second (codes "-norelease") (codes "-release") fs) (chosen false true fs) fault is));
    }
    go false false true p q o is = let e : UnknownDirective ≡ fault = cc in record {
      options = [];
      rest = f ∷ fs;
      cut = refl;
      release = false;
      norelease = false;
      before = tt;
      here = inl (subst (OptionFault [] f) e (o, neither p q));
    }
    go false false false p q o is = absurd cc

second_refused : (a b option : Field) (fields : List Field) (fault : ConfFault) → option ≡ a → ¬ (b ≡ a) → ((f : Field) → (f ≡ a) ⊎ (f ≡ b) → IsCopyOption f) → ((f : Field) → IsCopyOption f → (f ≡ a) ⊎ (f ≡ b))
    → OptionWrong (option ∷ []) fields fault → no_second a b fields ≡ failing fault
unfolding no_second
second_refused a b option [] fault first differ into from wrong = absurd wrong
second_refused a b option (f ∷ fs) UnknownDirective first differ into from (o, n) = rw (other f a (λ e. n (into f (inl e))), other f b (λ e. n (into f (inr e))), o) refl
second_refused a b option (f ∷ fs) ExtraField first differ into from e = rw (same f a (e ∙ first)) refl
second_refused a b option (f ∷ fs) Conflict first differ into from (word, n) = go (from f word)
  where
    go : (f ≡ a) ⊎ (f ≡ b) → cond (bytes_eq f a) (Err ExtraField) (cond (bytes_eq f b) (Err Conflict) (refuse_if (is_option f) UnknownDirective)) ≡ failing Conflict
    go (inl e) = absurd (n (e ∙ sym first))
    go (inr e) = rw (other f a (λ d. n (d ∙ sym first)), same f b e) refl
second_refused a b option (f ∷ fs) fault first differ into from wrong = absurd wrong

option_refused : (options rest : List Field) (release norelease : Bool) (fault : ConfFault) → OptionSays options release norelease → OptionWrong options rest fault → copy_option (options ++ rest) ≡ Err fault
unfolding copy_option
option_refused [] [] false false fault says wrong = absurd wrong
option_refused [] (f ∷ fs) false false UnknownDirective says (o, n) = rw (other f (codes "-release") (λ e. n (inl e)), other f (codes "-norelease") (λ e. n (inr e)), o) refl
option_refused [] (f ∷ fs) false false fault says wrong = absurd wrong
option_refused (f ∷ []) rest true false fault says wrong = rw (same f (codes "-release") says, second_refused (codes "-release") (codes "-norelease") f rest fault says (λ e. absurd cc) (λ g word. word) (λ g word. word) wrong) refl
option_refused (f ∷ []) rest false true fault says wrong = rw (says, second_refused (codes "-norelease") (codes "-release") f rest fault says (λ e. absurd cc) (λ g word. either_way word) (λ g word. either_way word) wrong) refl
option_refused [] rest true norelease fault says wrong = absurd says
option_refused [] rest false true fault says wrong = absurd says
option_refused (f ∷ []) rest true true fault says wrong = absurd says
option_refused (f ∷ []) rest false false fault says wrong = absurd says
option_refused (f ∷ g ∷ gs) rest release norelease fault says wrong = absurd says

-- ---- the ages

abbrev no_age : Field → Type 0
no_age f = (age : ℕ) → ¬ (age_of f ≡ Ok age)

age_wrong : (f : Field) (fault : ConfFault) → age_value f ≡ Err fault → (BadValue ≡ fault) × no_age f
age_wrong f fault is = go (age_of f) refl is
  where
    go : (r : Result ℕ TextRefusal) → age_of f ≡ r → bad_value r ≡ Err fault → (BadValue ≡ fault) × no_age f
    go (Ok n) e is = absurd cc
    go (Err t) e is = ((let d : BadValue ≡ fault = cc in d), λ age there. absurd cc)

age_refused : (f : Field) → no_age f → age_value f ≡ Err BadValue
age_refused f none = go (age_of f) refl
  where
    go : (r : Result ℕ TextRefusal) → age_of f ≡ r → bad_value r ≡ Err BadValue
    go (Ok n) e = absurd (none n e)
    go (Err t) e = refl

abbrev Aged : Type 0
Aged = ℕ × Option ℕ

abbrev aged : ℕ → Option ℕ → Read Aged
aged age unage = Ok (age, unage)

first_age : (f : Field) (rest : List Field) (fault : ConfFault) → age_value f ≡ Err fault → AgesWrong (f ∷ rest) fault
first_age f rest fault is = let w = age_wrong f fault is in record {
  ages = [];
  field = f;
  rest = rest;
  cut = refl;
  age = 240;
  unage = None;
  before = refl;
  here = subst (AgeFault [] f) w.0 (omega (arith), w.1);
}

second_age : (f g : Field) (rest : List Field) (age : ℕ) (fault : ConfFault) → age_value f ≡ Ok age → age_value g ≡ Err fault → AgesWrong (f ∷ g ∷ rest) fault
second_age f g rest age fault first is = let w = age_wrong g fault is in record {
  ages = f ∷ [];
  field = g;
  rest = rest;
  cut = refl;
  age = age;
  unage = None;
  before = age_said f age first;
  here = subst (AgeFault (f ∷ []) g) w.0 (omega (arith), w.1);
}

third_age : (f g : Field) (rest : List Field) (age unage : ℕ) (fault : ConfFault) → age_value f ≡ Ok age → age_value g ≡ Ok unage → (no_field rest >>= λ end. aged age (Some unage)) ≡ Err fault → AgesWrong (f ∷ g ∷ rest) fault
unfolding no_field
third_age f g [] age unage fault first second is = absurd cc
third_age f g (h ∷ hs) age unage fault first second is = let e : ExtraField ≡ fault = cc in record {
  ages = f ∷ g ∷ [];
  field = h;
  rest = hs;
  cut = refl;
  age = age;
  unage = Some unage;
  before = (age_said f age first, age_said g unage second);
  here = subst (AgeFault (f ∷ g ∷ []) h) e refl;
}

ages_wrong : (ages : List Field) (fault : ConfFault) → copy_ages ages ≡ Err fault → AgesWrong ages fault
unfolding copy_ages
ages_wrong [] fault is = absurd cc
ages_wrong (f ∷ []) fault is = first_age f [] fault (one (age_value f) is)
  where
    one : (read : Read ℕ) → (read >>= λ age. aged age None) ≡ Err fault → read ≡ Err fault
    one (Ok age) is = absurd cc
    one (Err first) is = (let e : first ≡ fault = cc in rw e refl)
ages_wrong (f ∷ g ∷ rest) fault is = go (bind_err (age_value f) (λ age. age_value g >>= λ unage. no_field rest >>= λ end. aged age (Some unage)) fault is)
  where
    behind : (age : ℕ) → age_value f ≡ Ok age → (age_value g ≡ Err fault) ⊎ ((unage : ℕ) × (age_value g ≡ Ok unage) × ((no_field rest >>= λ end. aged age (Some unage)) ≡ Err fault)) → AgesWrong (f ∷ g ∷ rest) fault
    behind age first (inl e) = second_age f g rest age fault first e
    behind age first (inr (unage, second, e)) = third_age f g rest age unage fault first second e

    go : (age_value f ≡ Err fault) ⊎ ((age : ℕ) × (age_value f ≡ Ok age) × ((age_value g >>= λ unage. no_field rest >>= λ end. aged age (Some unage)) ≡ Err fault)) → AgesWrong (f ∷ g ∷ rest) fault
    go (inl e) = first_age f (g ∷ rest) fault e
    go (inr (age, first, e)) = behind age first (bind_err (age_value g) (λ unage. no_field rest >>= λ end. aged age (Some unage)) fault e)

wrong_at : (ages : List Field) (field : Field) (rest : List Field) (age : ℕ) (unage : Option ℕ) (fault : ConfFault) → AgesSay ages age unage → AgeFault ages field fault → copy_ages (ages ++ field ∷ rest) ≡ Err fault
unfolding copy_ages no_field
wrong_at [] f [] age None BadValue says (place, none) = rw (age_refused f none) refl
wrong_at [] f (g ∷ gs) age None BadValue says (place, none) = rw (age_refused f none) refl
wrong_at [] f rest age None ExtraField says place = absurd (omega (arith, place))
wrong_at [] f rest age (Some unage) fault says wrong = absurd says
wrong_at (a ∷ []) f rest age None BadValue says (place, none) = rw (says, age_refused f none) refl
wrong_at (a ∷ []) f rest age None ExtraField says place = absurd (omega (arith, place))
wrong_at (a ∷ []) f rest age (Some unage) fault says wrong = absurd says
wrong_at (a ∷ b ∷ []) f rest age (Some unage) ExtraField says place = rw (says.0, says.1) refl
wrong_at (a ∷ b ∷ []) f rest age (Some unage) BadValue says (place, none) = absurd (omega (arith, place))
wrong_at (a ∷ b ∷ []) f rest age None fault says wrong = absurd says
wrong_at (a ∷ b ∷ c ∷ cs) f rest age unage fault says wrong = absurd says
wrong_at ages f rest age unage fault says wrong = absurd wrong

ages_refused : (ages : List Field) (fault : ConfFault) → AgesWrong ages fault → copy_ages ages ≡ Err fault
ages_refused ages fault wrong = ap copy_ages wrong.cut ∙ wrong_at wrong.ages wrong.field wrong.rest wrong.age wrong.unage fault wrong.before wrong.here

-- ---- what is behind the number

abbrev conf_of : ℕ → Chosen → Aged → Read CopyConf
conf_of copy option ages = Ok (record { copy = copy; age = ages.0; unage = ages.1; release = option.0.0; norelease = option.0.1 })

behind_wrong : (copy : ℕ) (fields : List Field) (fault : ConfFault) → copy_conf copy fields ≡ Err fault → BehindNumber fields fault
unfolding copy_conf
behind_wrong copy fields fault is = go (bind_err (copy_option fields) (λ option. copy_ages option.1 >>= λ ages. conf_of copy option ages) fault is)
  where
    ages_failed : (option : Chosen) (read : Read Aged) → (read >>= λ ages. conf_of copy option ages) ≡ Err fault → read ≡ Err fault
    ages_failed option (Ok ages) is = absurd cc
    ages_failed option (Err first) is = (let e : first ≡ fault = cc in rw e refl)

    go : (copy_option fields ≡ Err fault) ⊎ ((option : Chosen) × (copy_option fields ≡ Ok option) × ((copy_ages option.1 >>= λ ages. conf_of copy option ages) ≡ Err fault)) → BehindNumber fields fault
    go (inl e) = option_wrong fields fault e
    go (inr (option, e, rest)) = let says = option_said fields option e in record {
      options = says.0;
      rest = option.1;
      cut = says.1;
      release = option.0.0;
      norelease = option.0.1;
      before = says.2;
      here = inr (says.3, ages_wrong option.1 fault (ages_failed option (copy_ages option.1) rest));
    }

behind_refused : (copy : ℕ) (fields : List Field) (fault : ConfFault) → BehindNumber fields fault → copy_conf copy fields ≡ Err fault
unfolding copy_conf
behind_refused copy fields fault wrong = go wrong.here
  where
    go : OptionWrong wrong.options wrong.rest fault ⊎ (IsPlain wrong.rest × AgesWrong wrong.rest fault) → (copy_option fields >>= λ option. copy_ages option.1 >>= λ ages. conf_of copy option ages) ≡ Err fault
    go (inl e) = rw (wrong.cut, option_refused wrong.options wrong.rest wrong.release wrong.norelease fault wrong.before e) refl
    go (inr (plain, e)) = rw (wrong.cut, option_read wrong.options wrong.rest wrong.release wrong.norelease wrong.before plain, ages_refused wrong.rest fault e) refl

-- ---- the line

ending_failed : (set : Field) (read : Read CopyConf) (fault : ConfFault) → (read >>= λ conf. Ok (set_copy set conf)) ≡ Err fault → read ≡ Err fault
ending_failed set (Ok conf) fault is = absurd cc
ending_failed set (Err first) fault is = (let e : first ≡ fault = cc in rw e refl)

pub copy_wrong : (target : Option Field) (copies : List SetCopy) (sets : List Field) (field : Field) (fields : List Field) (fault : ConfFault) → copy_line target copies sets field fields ≡ Err fault → CopyWrong target copies sets field fields fault
copy_wrong target copies sets field fields fault is = go (bind_err (number_read target copies sets field) (λ x. ending x.0 x.1 fields) fault (sym (number_first target copies sets field fields) ∙ is))
  where
    go : (number_read target copies sets field ≡ Err fault) ⊎ ((x : ℕ × Field) × (number_read target copies sets field ≡ Ok x) × (ending x.0 x.1 fields ≡ Err fault)) → CopyWrong target copies sets field fields fault
    go (inl e) = inl (failed (NumberFault target copies sets field) (number_read target copies sets field) fault (number_judged target copies sets field) e)
    go (inr (x, e, rest)) = inr (
      passed (NumberFault target copies sets field) (number_read target copies sets field) x (number_judged target copies sets field) e,
      behind_wrong x.0 fields fault (ending_failed x.1 (copy_conf x.0 fields) fault rest),
    )

pub copy_refused : (target : Option Field) (copies : List SetCopy) (sets : List Field) (field : Field) (fields : List Field) (fault : ConfFault) → CopyWrong target copies sets field fields fault → copy_line target copies sets field fields ≡ Err fault
copy_refused target copies sets field fields fault (inl lowest) =
    number_first target copies sets field fields ∙ rw (fails (NumberFault target copies sets field) (number_read target copies sets field) fault (number_judged target copies sets field) lowest) refl
copy_refused target copies sets field fields fault (inr (faultless, behind)) =
    let read = passes (NumberFault target copies sets field) (number_read target copies sets field) (number_judged target copies sets field) faultless in
    number_first target copies sets field fields ∙ rw (read.1, behind_refused read.0.0 fields fault behind) refl
