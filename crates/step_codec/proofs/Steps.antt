-- A step is read exactly where it is written, and refused exactly where the first field without a reading says.
use Rattle.std.proofs.Common.{◌≡◌, ℕ, suc, Bool, true, false, cond, eqb, List, [], ◌∷◌, ◌++◌, length, Result, Ok, Err, refl, sym, ap, subst, ◌∙◌, append_assoc, arith, inl, inr}
use Rattle.std.specs.Prelude.{IfOk, IfErr}
use Rattle.std.proofs.lemmas.Bool.{eqb-true, ne_eqb}
use Rattle.std.proofs.lemmas.List.{append-nil, nil_from_length}
use Rattle.site_types.specs.declared.step.Step.{Step}
use Rattle.site_types.specs.declared.step.StepKind.{StepKind}
use Rattle.step_codec.specs.declared.refusal.StepRefusal.{StepRefusal}
use Rattle.step_codec.specs.declared.refusal.StepRefusal.TheVariants.{Truncated, BadKind, BadField, NoMemory}
use Rattle.step_codec.specs.Forms.{Begins, ◌>>=◌, ◌&◌, IsWithin, is_within}
use Rattle.step_codec.specs.Written.{row, moment, kind_written, IsRowInRange, written, InRange, IsRefused, empty, no_kind, bad_field, follows}
use Rattle.step_codec.specs.Reading.{Fails, Gives, last_kind, kind_at, fields_at, step_at}
use Rattle.step_codec.proofs.Laws.{IsBytes, IsBytes-rest, bind_ok, bind_err, chosen_ok, ok_is, err_is, ok_or_err, fine, wrong, within_true, within_false, false_within}
use Rattle.step_codec.proofs.KindLaws.{moment_lawful}
use Rattle.step_codec.proofs.Rows.{IsOfKind, kind_takes, kind_fails, kind_again, kind_refuses, kind_within, kind_there}

abbrev step_of : ℕ → StepKind × List ℕ → Result Step StepRefusal
step_of m k = cond (eqb (length k.1) 0) (Ok (record { moment = m; kind = k.0 })) (Err BadField)

more_follows : (m : ℕ) (k : StepKind) (b : ℕ) (more : List ℕ) → step_of m (k, b ∷ more) ≡ Err BadField
more_follows m k b more = rw (ne_eqb (suc (length more)) 0 (λ e. omega (arith, e))) refl

-- what the bytes after a number are
record AreFields (number : ℕ) (bytes : List ℕ) (s : Step) : Type 0 where
  number_is : (row s.kind).number ≡ number
  bytes_are : bytes ≡ moment.written s.moment ++ kind_written (row s.kind)
  in_range : moment.InRange s.moment × IsRowInRange (row s.kind)

fields_take : (number : ℕ) (bytes : List ℕ) (s : Step) → IsBytes bytes → fields_at number bytes ≡ Ok s → AreFields number bytes s
unfolding fields_at
fields_take number bytes s fits h =
    let m = bind_ok (moment.read bytes) (λ m. kind_at number m.1 >>= λ k. step_of m.0 k) s h in
    let k = bind_ok (kind_at number m.0.1) (λ k. step_of m.0.0 k) s m.2 in
    let made : Step = record { moment = m.0.0; kind = k.0.0 } in
    let g = chosen_ok (eqb (length k.0.1) 0) BadField made s k.2 in
    let t = moment_lawful.takes bytes m.0 fits m.1 in
    let u = kind_takes number m.0.1 k.0.0 k.0.1 t.1 k.1 in
    let none : k.0.1 ≡ [] = nil_from_length k.0.1 (eqb-true _ _ g.0) in
    let after : m.0.1 ≡ kind_written (row k.0.0) = u.begins.bytes_are ∙ ap (λ (r : List ℕ). kind_written (row k.0.0) ++ r) none ∙ append-nil (kind_written (row k.0.0)) in
    subst (λ (y : Step). AreFields number bytes y) g.1 (record {
      number_is = u.number_is;
      bytes_are = t.0.bytes_are ∙ ap (λ (r : List ℕ). moment.written m.0.0 ++ r) after;
      in_range = (t.0.in_range, u.begins.in_range);
    })

pub step_takes : (bytes : List ℕ) (s : Step) → IsBytes bytes → step_at bytes ≡ Ok s → InRange s × (bytes ≡ written s)
unfolding step_at written InRange
step_takes [] s fits h = absurd cc
step_takes (number ∷ bytes) s fits h =
    let g = elim_ok (is_within 1 last_kind number) (fields_at number bytes) s h in
    let t = fields_take number bytes s (IsBytes-rest number bytes fits) g in
    (t.in_range, ap (λ (r : List ℕ). number ∷ r) t.bytes_are ∙ ap (λ (k : ℕ). k ∷ (moment.written s.moment ++ kind_written (row s.kind))) (sym t.number_is))
  where
    elim_ok : (b : Bool) (r : Result Step StepRefusal) (y : Step) → cond b r (Err BadKind) ≡ Ok y → r ≡ Ok y
    elim_ok true r y e = e
    elim_ok false r y e = absurd cc

-- a step is read, and then what follows it is looked at
fields_go : (s : Step) (rest : List ℕ) → moment.InRange s.moment → IsRowInRange (row s.kind)
    → fields_at (row s.kind).number (moment.written s.moment ++ (kind_written (row s.kind) ++ rest)) ≡ step_of s.moment (s.kind, rest)
unfolding fields_at
fields_go s rest m k = go (moment.written s.moment ++ (kind_written (row s.kind) ++ rest)) (kind_written (row s.kind) ++ rest)
    (moment_lawful.again s.moment (kind_written (row s.kind) ++ rest) m) (kind_again s.kind rest k)
  where
    go : (bytes after : List ℕ) → moment.read bytes ≡ Ok (s.moment, after) → kind_at (row s.kind).number after ≡ Ok (s.kind, rest)
        → (moment.read bytes >>= λ m. kind_at (row s.kind).number m.1 >>= λ k. step_of m.0 k) ≡ step_of s.moment (s.kind, rest)
    go bytes after a b = rw (a, b) refl

step_go : (s : Step) (rest : List ℕ) → InRange s → step_at (written s ++ rest) ≡ step_of s.moment (s.kind, rest)
unfolding step_at written InRange
step_go s rest h =
    rw (kind_within s.kind) (ap (fields_at (row s.kind).number) (append_assoc (moment.written s.moment) (kind_written (row s.kind)) rest) ∙ fields_go s rest h.0 h.1)

pub step_again : (s : Step) → InRange s → step_at (written s) ≡ Ok s
step_again s h = ap step_at (sym (append-nil (written s))) ∙ step_go s [] h

pub step_follows : (s : Step) (b : ℕ) (more : List ℕ) → InRange s → step_at (written s ++ b ∷ more) ≡ Err BadField
step_follows s b more h = step_go s (b ∷ more) h ∙ more_follows s.moment s.kind b more

-- the moment or the fields are refused
pub fields_refuse : (s : StepKind) (bytes : List ℕ) (e : StepRefusal) → (moment & (row s).form).Refuses bytes e → fields_at (row s).number bytes ≡ Err e
unfolding fields_at
fields_refuse s bytes e (inl h) = rw (moment_lawful.refuses bytes e h) refl
fields_refuse s bytes e (inr (m, rest, begins, h)) = go bytes (ap moment.read begins.bytes_are ∙ moment_lawful.again m rest begins.in_range) (kind_refuses s rest e h)
  where
    go : (bytes : List ℕ) → moment.read bytes ≡ Ok (m, rest) → kind_at (row s).number rest ≡ Err e
        → (moment.read bytes >>= λ m. kind_at (row s).number m.1 >>= λ k. step_of m.0 k) ≡ Err e
    go bytes a b = rw (a, b) refl

step_refuses_at : (bytes : List ℕ) (e : StepRefusal) → IsRefused bytes e → (given : List ℕ) → given ≡ bytes → step_at given ≡ Err e
unfolding step_at
step_refuses_at bytes e (empty is what) given same = rw (same, is, what) refl
step_refuses_at bytes e (no_kind number rest is none what) given same =
    let out : is_within 1 last_kind number ≡ false = false_within 1 last_kind number (λ h. let s = kind_there number h in none s.0 s.1) in
    rw (same, is, out, what) refl
step_refuses_at bytes e (bad_field s rest is h) given same =
    rw (same, is, kind_within s) (fields_refuse s rest e h)
step_refuses_at bytes e (follows s b more h is what) given same =
    ap step_at (same ∙ is) ∙ step_follows s b more h ∙ ap (λ (d : StepRefusal). wrong {A = Step} d) (sym what)

pub step_refuses : (bytes : List ℕ) (e : StepRefusal) → IsRefused bytes e → step_at bytes ≡ Err e
step_refuses bytes e h = step_refuses_at bytes e h bytes refl

fields_fail : (number : ℕ) (bytes : List ℕ) (e : StepRefusal) → IsBytes bytes → IsWithin 1 last_kind number → fields_at number bytes ≡ Err e → IsRefused (number ∷ bytes) e
unfolding fields_at written InRange
fields_fail number bytes e fits within h =
    elim (bind_err (moment.read bytes) (λ m. kind_at number m.1 >>= λ k. step_of m.0 k) e h) [
      | inl a ↦
          let s = kind_there number within in
          bad_field s.0 bytes (ap (λ (k : ℕ). k ∷ bytes) (sym s.1)) (inl (moment_lawful.fails bytes e fits a))
      | inr m ↦
          let t = moment_lawful.takes bytes m.0 fits m.1 in
          elim (bind_err (kind_at number m.0.1) (λ k. step_of m.0.0 k) e m.2) [
            | inl b ↦
                let s = kind_fails number m.0.1 e t.1 within b in
                bad_field s.step bytes (ap (λ (k : ℕ). k ∷ bytes) (sym s.number_is)) (inr (m.0.0, m.0.1, t.0, s.refuses))
            | inr k ↦ after m.0.0 m.0.1 t.0 k.0.0 k.0.1 (kind_takes number m.0.1 k.0.0 k.0.1 t.1 k.1) k.2
          ]
    ]
  where
    after : (m : ℕ) (rest : List ℕ) → Begins moment bytes m rest → (k : StepKind) (more : List ℕ) → IsOfKind number rest k more → step_of m (k, more) ≡ Err e → IsRefused (number ∷ bytes) e
    after m rest begins k [] u h = let given : Step = record { moment = m; kind = k } in ok_or_err given e h
    after m rest begins k (b ∷ more) u h =
        let given : Step = record { moment = m; kind = k } in
        let whole : bytes ≡ (moment.written m ++ kind_written (row k)) ++ b ∷ more =
        begins.bytes_are ∙ ap (λ (r : List ℕ). moment.written m ++ r) u.begins.bytes_are ∙ sym (append_assoc (moment.written m) (kind_written (row k)) (b ∷ more)) in
        follows given b more (begins.in_range, u.begins.in_range)
        (ap (λ (r : List ℕ). number ∷ r) whole ∙ ap (λ (c : ℕ). c ∷ ((moment.written m ++ kind_written (row k)) ++ b ∷ more)) (sym u.number_is))
        (sym (err_is {A = Step} BadField e (sym (more_follows m k b more) ∙ h)))

pub step_fails : (bytes : List ℕ) (e : StepRefusal) → IsBytes bytes → step_at bytes ≡ Err e → IsRefused bytes e
unfolding step_at
step_fails [] e fits h = empty refl (sym (err_is {A = Step} Truncated e h))
step_fails (number ∷ bytes) e fits h = which (is_within 1 last_kind number) refl h
  where
    which : (b : Bool) → is_within 1 last_kind number ≡ b → cond b (fields_at number bytes) (Err BadKind) ≡ Err e → IsRefused (number ∷ bytes) e
    which true is h = fields_fail number bytes e (IsBytes-rest number bytes fits) (within_true 1 last_kind number is) h
    which false is h =
        no_kind number bytes refl
        (λ s same. within_false 1 last_kind number is (subst (IsWithin 1 last_kind) same (within_true 1 last_kind (row s).number (kind_within s))))
        (sym (err_is {A = Step} BadKind e h))

-- the moment and the fields, and what follows them
abbrev front_at : ℕ → List ℕ → Result (Step × List ℕ) StepRefusal
front_at number bytes = moment.read bytes >>= λ m. kind_at number m.1 >>= λ k. Ok (record { moment = m.0; kind = k.0 }, k.1)

front_go : (s : Step) (rest : List ℕ) → moment.InRange s.moment → IsRowInRange (row s.kind)
    → front_at (row s.kind).number (moment.written s.moment ++ (kind_written (row s.kind) ++ rest)) ≡ Ok (s, rest)
front_go s rest m k = go (moment.written s.moment ++ (kind_written (row s.kind) ++ rest)) (kind_written (row s.kind) ++ rest)
    (moment_lawful.again s.moment (kind_written (row s.kind) ++ rest) m) (kind_again s.kind rest k)
  where
    go : (bytes after : List ℕ) → moment.read bytes ≡ Ok (s.moment, after) → kind_at (row s.kind).number after ≡ Ok (s.kind, rest) → front_at (row s.kind).number bytes ≡ Ok (s, rest)
    go bytes after a b = rw (a, b) refl

heads : (a b : ℕ) (x y : List ℕ) → a ∷ x ≡ b ∷ y → a ≡ b
heads a b x y e = cc

tails : (a b : ℕ) (x y : List ℕ) → a ∷ x ≡ b ∷ y → x ≡ y
tails a b x y e = cc

-- no written form begins another
pub one_form : (s t : Step) (more rest : List ℕ) → InRange s → InRange t → written s ++ more ≡ written t ++ rest → (s ≡ t) × (more ≡ rest)
unfolding written InRange
one_form s t more rest h k same =
    let kinds : (row s.kind).number ≡ (row t.kind).number = heads _ _ _ _ same in
    let bytes : (moment.written s.moment ++ kind_written (row s.kind)) ++ more ≡ (moment.written t.moment ++ kind_written (row t.kind)) ++ rest = tails _ _ _ _ same in
    let aligned : moment.written s.moment ++ (kind_written (row s.kind) ++ more) ≡ moment.written t.moment ++ (kind_written (row t.kind) ++ rest) =
    sym (append_assoc (moment.written s.moment) (kind_written (row s.kind)) more) ∙ bytes ∙ append_assoc (moment.written t.moment) (kind_written (row t.kind)) rest in
    let read : fine {A = Step × List ℕ} (s, more) ≡ fine (t, rest) =
    sym (front_go s more h.0 h.1) ∙ ap (front_at (row s.kind).number) aligned
    ∙ ap (λ (c : ℕ). front_at c (moment.written t.moment ++ (kind_written (row t.kind) ++ rest))) kinds ∙ front_go t rest k.0 k.1 in
    let pair : Step × List ℕ = (s, more) in
    let other : Step × List ℕ = (t, rest) in
    let e = ok_is pair other read in
    (ap (λ (p : Step × List ℕ). p.0) e, ap (λ (p : Step × List ℕ). p.1) e)

-- ---- what is known of a step once its kind is

pub kind_in_range : (s : Step) (k : StepKind) → s.kind ≡ k → InRange s → IsRowInRange (row k)
unfolding InRange
kind_in_range s k is h = subst (λ (k : StepKind). IsRowInRange (row k)) is h.1

pub written_by_kind : (s : Step) (k : StepKind) → s.kind ≡ k → (row k).number ∷ moment.written s.moment ++ kind_written (row k) ≡ written s
unfolding written
written_by_kind s k is = ap (λ (k : StepKind). (row k).number ∷ moment.written s.moment ++ kind_written (row k)) (sym is)

-- ---- what a reader of whole steps answers

pub found : (bytes : List ℕ) (r : Result Step StepRefusal) → IsBytes bytes → Gives (λ s. s) r (step_at bytes) → IfOk r (λ s. InRange s × (bytes ≡ written s))
found bytes (Ok s) fits h = step_takes bytes s fits h
found bytes (Err e) fits h = tt

pub only : (bytes : List ℕ) (r : Result Step StepRefusal) → Gives (λ s. s) r (step_at bytes) → (s : Step) → InRange s → bytes ≡ written s → Gives (λ t. t) r (Ok s)
only bytes r h s fits is = subst (λ (f : Result Step StepRefusal). Gives (λ t. t) r f) (ap step_at is ∙ step_again s fits) h

refused_by : (bytes : List ℕ) (e : StepRefusal) → IsBytes bytes → Fails e (step_at bytes) → (¬ (e ≡ NoMemory)) → IsRefused bytes e
refused_by bytes NoMemory fits h other = absurd (other refl)
refused_by bytes Truncated fits h other = step_fails bytes Truncated fits h
refused_by bytes BadKind fits h other = step_fails bytes BadKind fits h
refused_by bytes BadField fits h other = step_fails bytes BadField fits h

pub refused : (bytes : List ℕ) (r : Result Step StepRefusal) → IsBytes bytes → Gives (λ s. s) r (step_at bytes) → IfErr r (λ e. (¬ (e ≡ NoMemory)) → IsRefused bytes e)
refused bytes (Ok s) fits h = tt
refused bytes (Err e) fits h = refused_by bytes e fits h

pub refuses : (bytes : List ℕ) (r : Result Step StepRefusal) → Gives (λ s. s) r (step_at bytes) → (e : StepRefusal) → IsRefused bytes e → Gives (λ s. s) r (Err e)
refuses bytes r h e is = subst (λ (f : Result Step StepRefusal). Gives (λ t. t) r f) (step_refuses bytes e is) h
