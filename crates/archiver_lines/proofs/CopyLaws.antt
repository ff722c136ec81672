-- A copy line is read as what it says, and says what it is read as.
use Rattle.std.proofs.Common.{◌≡◌, ℕ, ◌≤◌, Bool, true, false, cond, List, [], ◌∷◌, ◌++◌, Option, Some, None, Result, Ok, Err, refl, sym, ap, subst, ◌∙◌, codes}
use Rattle.std.specs.Prelude.{◌&&◌, not, nat_le}
use Rattle.std.specs.Str.{bytes_eq}
use Rattle.std.proofs.lemmas.Bool.{le-leb, leb-true}
use Rattle.site_text.specs.declared.fault.ConfFault.TheVariants.{UnknownDirective, ExtraField, BadValue, CopyBeforeSet, CopyTwice, TooMany, Conflict, OutOfRange}
use Rattle.site_text.specs.declared.refusal.TextRefusal.{TextRefusal}
use Rattle.site_text.specs.Numbers.{number_in}
use Rattle.site_text.specs.Ages.{age_of}
use Rattle.site_text.specs.Values.{bad_value, age_value}
use Rattle.site_text.specs.Words.{is_option}
use Rattle.site_text.specs.Fields.{Field, Read, ◌>>=◌, no_field, wanted, refuse_if}
use Rattle.archiver_lines.specs.declared.reading.CopyConf.{CopyConf}
use Rattle.archiver_lines.specs.declared.reading.SetCopy.{SetCopy}
use Rattle.archiver_lines.specs.CopySteps.{is_too_many, no_second, copy_option, copy_ages, copy_conf, copy_line}
use Rattle.archiver_lines.specs.CopyRules.{has_copy, OptionSays, AgesSay, IsPlain, CopySays}
use Rattle.archiver_lines.proofs.Sets.{few_sets, few_said}
use Rattle.archiver_lines.proofs.Tests.{bind_ok, wanted_said, not_refused, not_false, both_true, is_same, other, is_other}

-- ---- what is said is read

ages_read : (ages : List Field) (age : ℕ) (unage : Option ℕ) → AgesSay ages age unage → copy_ages ages ≡ Ok (age, unage)
unfolding copy_ages no_field
ages_read [] age None says = rw says refl
ages_read (f ∷ []) age None says = rw says refl
ages_read (f ∷ g ∷ []) age (Some unage) says = rw (says.0, says.1) refl
ages_read [] age (Some unage) says = absurd says
ages_read (f ∷ []) age (Some unage) says = absurd says
ages_read (f ∷ g ∷ []) age None says = absurd says
ages_read (f ∷ g ∷ h ∷ hs) age unage says = absurd says

-- no option is a field that is none
plain_step : (f w : Field) (b : Bool) → bytes_eq f w ≡ b → is_option f ≡ false → is_option w ≡ true → bytes_eq f w ≡ false
plain_step f w false is plain option = is
plain_step f w true is plain option = let e = is_same f w is in absurd (let d : is_option f ≡ true = rw e option in cc)

no_option : (f w : Field) → is_option f ≡ false → is_option w ≡ true → bytes_eq f w ≡ false
no_option f w plain option = plain_step f w (bytes_eq f w) refl plain option

no_second_there : (a b : Field) (ages : List Field) → is_option a ≡ true → is_option b ≡ true → IsPlain ages → no_second a b ages ≡ Ok tt
unfolding no_second
no_second_there a b [] first second plain = refl
no_second_there a b (f ∷ fs) first second plain = rw (no_option f a plain first, no_option f b plain second, plain) refl

pub option_read : (options ages : List Field) (release norelease : Bool) → OptionSays options release norelease → IsPlain ages → copy_option (options ++ ages) ≡ Ok ((release, norelease), ages)
unfolding copy_option
option_read [] [] false false says plain = refl
option_read [] (f ∷ fs) false false says plain = rw (no_option f (codes "-release") plain refl, no_option f (codes "-norelease") plain refl, plain) refl
option_read (f ∷ []) ages true false says plain = rw (says, no_second_there (codes "-release") (codes "-norelease") ages refl refl plain) refl
option_read (f ∷ []) ages false true says plain = rw (says, no_second_there (codes "-norelease") (codes "-release") ages refl refl plain) refl
option_read [] ages true norelease says plain = absurd says
option_read [] ages false true says plain = absurd says
option_read (f ∷ []) ages true true says plain = absurd says
option_read (f ∷ []) ages false false says plain = absurd says
option_read (f ∷ g ∷ gs) ages release norelease says plain = absurd says

conf_read : (fields options ages : List Field) (c : CopyConf) → fields ≡ options ++ ages → OptionSays options c.release c.norelease → IsPlain ages → AgesSay ages c.age c.unage → copy_conf c.copy fields ≡ Ok c
unfolding copy_conf
conf_read fields options ages c parts option plain age = rw (parts, option_read options ages c.release c.norelease option plain, ages_read ages c.age c.unage age) refl

pub copy_read : (target : Option Field) (copies : List SetCopy) (sets : List Field) (field : Field) (fields : List Field) (line : SetCopy) → CopySays target copies sets field fields line → copy_line target copies sets field fields ≡ Ok line
unfolding copy_line
copy_read target copies sets field fields line s =
    rw (
      s.number,
      s.belongs,
      s.fresh,
      few_sets sets line.set s.room,
      other line.set (codes "no_archive") s.archived,
      le-leb 1 line.conf.copy s.low,
      le-leb line.conf.copy 4 s.high,
      conf_read fields s.options s.ages line.conf s.parts s.option s.plain s.age,
    ) refl

-- ---- what is read is said

pub age_said : (f : Field) (n : ℕ) → age_value f ≡ Ok n → age_of f ≡ Ok n
age_said f n is = go (age_of f) is
  where
    go : (r : Result ℕ TextRefusal) → bad_value r ≡ Ok n → r ≡ Ok n
    go (Ok m) is = let e : m ≡ n = cc in rw e refl
    go (Err e) is = absurd cc

abbrev Ages : Type 0
Ages = ℕ × Option ℕ

abbrev aged : ℕ → Option ℕ → Ages
aged age unage = (age, unage)

abbrev AgesOf : List Field → Ages → Type 0
AgesOf fields x = AgesSay fields x.0 x.1

ages_said : (ages : List Field) (x : Ages) → copy_ages ages ≡ Ok x → AgesOf ages x
unfolding copy_ages no_field
ages_said [] x is = let e : aged 240 None ≡ x = cc in subst (AgesOf []) e refl
ages_said (f ∷ []) x is =
    let a = bind_ok (age_value f) (λ age. Ok (aged age None)) x is in
    let e : aged a.0 None ≡ x = (let h = a.2 in cc) in
    subst (AgesOf (f ∷ [])) e (age_said f a.0 a.1)
ages_said (f ∷ g ∷ []) x is =
    let a = bind_ok (age_value f) (λ age. age_value g >>= λ unage. Ok (aged age (Some unage))) x is in
    let b = bind_ok (age_value g) (λ unage. Ok (aged a.0 (Some unage))) x a.2 in
    let e : aged a.0 (Some b.0) ≡ x = (let h = b.2 in cc) in
    subst (AgesOf (f ∷ g ∷ [])) e (age_said f a.0 a.1, age_said g b.0 b.1)
ages_said (f ∷ g ∷ h ∷ hs) x is =
    let a = bind_ok (age_value f) (λ age. age_value g >>= λ unage. Err ExtraField) x is in
    let b = bind_ok (age_value g) (λ unage. Err ExtraField) x a.2 in
    absurd (let e = b.2 in cc)

abbrev fine : Read (Unit {0})
fine = Ok tt

no_second_said : (a b : Field) (ages : List Field) → no_second a b ages ≡ fine → IsPlain ages
unfolding no_second
no_second_said a b [] is = tt
no_second_said a b (f ∷ fs) is = go (bytes_eq f a) (bytes_eq f b) (is_option f) is
  where
    go : (x y z : Bool) → cond x (Err ExtraField) (cond y (Err Conflict) (refuse_if z UnknownDirective)) ≡ fine → z ≡ false
    go true y z is = absurd cc
    go false true z is = absurd cc
    go false false true is = absurd cc
    go false false false is = refl

abbrev found : Bool → Bool → List Field → (Bool × Bool) × List Field
found release norelease fields = ((release, norelease), fields)

abbrev Found : List Field → (Bool × Bool) × List Field → Type 0
Found fields x = (options : List Field) × (fields ≡ options ++ x.1) × OptionSays options x.0.0 x.0.1 × IsPlain x.1

pub option_said : (fields : List Field) (x : (Bool × Bool) × List Field) → copy_option fields ≡ Ok x → Found fields x
unfolding copy_option
option_said [] x is = let e : found false false [] ≡ x = cc in subst (Found []) e ([], refl, tt, tt)
option_said (f ∷ fs) x is = go (bytes_eq f (codes "-release")) (bytes_eq f (codes "-norelease")) (is_option f) refl refl refl is
  where
    go : (a b d : Bool) → bytes_eq f (codes "-release") ≡ a → bytes_eq f (codes "-norelease") ≡ b → is_option f ≡ d
        → cond a (no_second (codes "-release") (codes "-norelease") fs >>= λ u. Ok (found true false fs)) (cond b (no_second (codes "-norelease") (codes "-release") fs >>= λ u. Ok (found false true fs)) (cond d (Err UnknownDirective) (Ok (found false false (f ∷ fs))))) ≡ Ok x → Found (f ∷ fs) x
    go true b d p q o is =
        let u = bind_ok (no_second (codes "-release") (codes "-norelease") fs) (λ u. Ok (found true false fs)) x is in
        let e : found true false fs ≡ x = (let h = u.2 in cc) in
        subst (Found (f ∷ fs)) e (f ∷ [], refl, is_same f (codes "-release") p, no_second_said (codes "-release") (codes "-norelease") fs u.1)
    go false true d p q o is =
        let u = bind_ok (no_second (codes "-norelease") (codes "-release") fs) (λ u. Ok (found false true fs)) x is in
        let e : found false true fs ≡ x = (let h = u.2 in cc) in
        subst (Found (f ∷ fs)) e (f ∷ [], refl, is_same f (codes "-norelease") q, no_second_said (codes "-norelease") (codes "-release") fs u.1)
    go false false true p q o is = absurd cc
    go false false false p q o is = let e : found false false (f ∷ fs) ≡ x = cc in subst (Found (f ∷ fs)) e ([], refl, tt, o)

-- what stands behind the number
record ConfSays (fields : List Field) (c : CopyConf) : Type 0 where
  options : List Field
  ages : List Field
  parts : fields ≡ options ++ ages
  option : OptionSays options c.release c.norelease
  plain : IsPlain ages
  age : AgesSay ages c.age c.unage

abbrev conf_with : ℕ → (Bool × Bool) → Ages → CopyConf
conf_with copy option ages = record { copy = copy; age = ages.0; unage = ages.1; release = option.0; norelease = option.1 }

conf_said : (copy : ℕ) (fields : List Field) (c : CopyConf) → copy_conf copy fields ≡ Ok c → (copy ≡ c.copy) × ConfSays fields c
unfolding copy_conf
conf_said copy fields c is =
    let o = bind_ok (copy_option fields) (λ o. copy_ages o.1 >>= λ ages. Ok (conf_with copy o.0 ages)) c is in
    let a = bind_ok (copy_ages o.0.1) (λ ages. Ok (conf_with copy o.0.0 ages)) c o.2 in
    let e : conf_with copy o.0.0 a.0 ≡ c = (let h = a.2 in cc) in
    let opt = option_said fields o.0 o.1 in
    (ap (λ (x : CopyConf). x.copy) e, subst (ConfSays fields) e (record { options = opt.0; ages = o.0.1; parts = opt.1; option = opt.2; plain = opt.3; age = ages_said o.0.1 a.0 a.1 }))

abbrev pub set_copy : Field → CopyConf → SetCopy
set_copy set conf = record { set = set; conf = conf }

abbrev pub ending : ℕ → Field → List Field → Read SetCopy
ending copy set fields = copy_conf copy fields >>= λ conf. Ok (set_copy set conf)

abbrev ranged : ℕ → Field → List Field → Read SetCopy
ranged copy set fields = refuse_if (not (nat_le 1 copy && nat_le copy 4)) OutOfRange >>= λ u. ending copy set fields

abbrev archived : ℕ → Field → List Field → Read SetCopy
archived copy set fields = refuse_if (bytes_eq set (codes "no_archive")) Conflict >>= λ u. ranged copy set fields

abbrev roomy : List Field → ℕ → Field → List Field → Read SetCopy
roomy sets copy set fields = refuse_if (is_too_many sets set) TooMany >>= λ u. archived copy set fields

abbrev fresh : List SetCopy → List Field → ℕ → Field → List Field → Read SetCopy
fresh copies sets copy set fields = refuse_if (has_copy copies set copy) CopyTwice >>= λ u. roomy sets copy set fields

pub copy_said : (target : Option Field) (copies : List SetCopy) (sets : List Field) (field : Field) (fields : List Field) (line : SetCopy) → copy_line target copies sets field fields ≡ Ok line → CopySays target copies sets field fields line
unfolding copy_line
copy_said target copies sets field fields line is =
    let n = bind_ok (wanted (number_in 9 field) BadValue) (λ copy. wanted target CopyBeforeSet >>= λ set. fresh copies sets copy set fields) line is in
    let s = bind_ok (wanted target CopyBeforeSet) (λ set. fresh copies sets n.0 set fields) line n.2 in
    let f = bind_ok (refuse_if (has_copy copies s.0 n.0) CopyTwice) (λ u. roomy sets n.0 s.0 fields) line s.2 in
    let m = bind_ok (refuse_if (is_too_many sets s.0) TooMany) (λ u. archived n.0 s.0 fields) line f.2 in
    let a = bind_ok (refuse_if (bytes_eq s.0 (codes "no_archive")) Conflict) (λ u. ranged n.0 s.0 fields) line m.2 in
    let r = bind_ok (refuse_if (not (nat_le 1 n.0 && nat_le n.0 4)) OutOfRange) (λ u. ending n.0 s.0 fields) line a.2 in
    let c = bind_ok (copy_conf n.0 fields) (λ conf. Ok (set_copy s.0 conf)) line r.2 in
    let e : set_copy s.0 c.0 ≡ line = (let h = c.2 in cc) in
    let says = conf_said n.0 fields c.0 c.1 in
    let within = both_true (nat_le 1 n.0) (nat_le n.0 4) (not_false _ (not_refused _ OutOfRange r.0 r.1)) in
    subst (CopySays target copies sets field fields) e (record {
      belongs = wanted_said target CopyBeforeSet s.0 s.1;
      archived = is_other s.0 (codes "no_archive") (not_refused _ Conflict a.0 a.1);
      room = few_said sets s.0 (not_refused _ TooMany m.0 m.1);
      number = wanted_said (number_in 9 field) BadValue n.0 n.1 ∙ ap (λ (k : ℕ). some_number k) says.0;
      low = subst (λ k. 1 ≤ k) says.0 (leb-true _ _ within.0);
      high = subst (λ k. k ≤ 4) says.0 (leb-true _ _ within.1);
      fresh = ap (λ (k : ℕ). has_copy copies s.0 k) (sym says.0) ∙ not_refused _ CopyTwice f.0 f.1;
      options = says.1.options;
      ages = says.1.ages;
      parts = says.1.parts;
      option = says.1.option;
      plain = says.1.plain;
      age = says.1.age;
    })
  where
    some_number : ℕ → Option ℕ
    some_number k = Some k
