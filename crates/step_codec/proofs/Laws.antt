-- The laws of a form: what is read is what is written, what is written is read again, and nothing is read
-- exactly where the form refuses the bytes.
use Rattle.std.proofs.Common.{◌≡◌, ℕ, suc, ◌+◌, ◌*◌, ◌^◌, ◌<◌, ◌≤◌, ◌⊎◌, Bool, true, false, cond, ltb, leb, List, [], ◌∷◌, ◌++◌, length, get_or, take, drop, Result, Ok, Err, refl, sym, ap, subst, arith, inl, inr}
use Rattle.std.specs.Int.{Width, w32, w64, byte_len, from_le_bytes}
use Rattle.std.proofs.lemmas.Bool.{cases_lt, ltb-true, ltb-false, lt-ltb, le-ltb, leb-true, leb-false, le-leb, lt-leb, and_parts, and_from, and_cases, and_left, and_right}
use Rattle.std.proofs.lemmas.List.{take_at, drop_at, take-append-drop, length-append, length-take, get_or-drop, get_or-take, get_or_past}
use Rattle.std.proofs.lemmas.Nat.{le_bytes_4, le_bytes_8, from_le_bytes-to_le_bytes_4, from_le_bytes-to_le_bytes_8}
use Rattle.step_codec.specs.declared.refusal.StepRefusal.{StepRefusal}
use Rattle.step_codec.specs.declared.refusal.StepRefusal.TheVariants.{Truncated, BadKind, BadField, NoMemory}
use Rattle.step_codec.specs.Forms.{Form, Begins, ◌>>=◌, IsWithin, is_within, number_bytes, NumberRefuses, number_at, number_within, number_of, ChoiceRefuses, choice_at, choice_of}

abbrev pub IsBytes : List ℕ → Type 0
IsBytes bytes = (i : ℕ) → get_or bytes i 0 < 256

pub IsBytes-drop : (n : ℕ) (bytes : List ℕ) → IsBytes bytes → IsBytes (drop n bytes)
IsBytes-drop n bytes h i = rw get_or-drop (h (n + i))

IsBytes-take : (n : ℕ) (bytes : List ℕ) → IsBytes bytes → IsBytes (take n bytes)
IsBytes-take n bytes h i =
    elim (cases_lt i n) [
      | inl lt ↦ rw (get_or-take n bytes i 0 lt) (h i)
      | inr le ↦ rw (get_or_past (take n bytes) i 0 (omega (arith, length-take n bytes))) (omega arith)
    ]

pub IsBytes-rest : (b : ℕ) (bytes : List ℕ) → IsBytes (b ∷ bytes) → IsBytes bytes
IsBytes-rest b bytes h i = h (suc i)

pub record Lawful {A : Type 0} (F : Form A) : Type 0 where
  -- some value, in range or not
  pub some : A
  pub takes : (bytes : List ℕ) (x : A × List ℕ) → IsBytes bytes → F.read bytes ≡ Ok x → Begins F bytes x.0 x.1 × IsBytes x.1
  pub again : (x : A) (rest : List ℕ) → F.InRange x → F.read (F.written x ++ rest) ≡ Ok (x, rest)
  pub fails : (bytes : List ℕ) (e : StepRefusal) → IsBytes bytes → F.read bytes ≡ Err e → F.Refuses bytes e
  pub refuses : (bytes : List ℕ) (e : StepRefusal) → F.Refuses bytes e → F.read bytes ≡ Err e

-- ---- steps that may fail

abbrev pub fine : {A : Type 0} → A → Result A StepRefusal
fine x = Ok x

abbrev pub wrong : {A : Type 0} → StepRefusal → Result A StepRefusal
wrong e = Err e

pub ok_is : {A : Type 0} (x y : A) → fine x ≡ fine y → x ≡ y
ok_is x y e = cc

pub err_is : {A : Type 0} (d e : StepRefusal) → wrong {A = A} d ≡ wrong e → d ≡ e
err_is d e h = cc

pub ok_or_err : {A B : Type 0} (x : A) (e : StepRefusal) → fine x ≡ Err e → B
ok_or_err x e h = absurd cc

pub err_or_ok : {A B : Type 0} (x : A) (e : StepRefusal) → wrong e ≡ Ok x → B
err_or_ok x e h = absurd cc

pub bind_ok : {A B : Type 0} (r : Result A StepRefusal) (f : A → Result B StepRefusal) (y : B) → (r >>= f) ≡ Ok y → (x : A) × (r ≡ Ok x) × (f x ≡ Ok y)
bind_ok (Ok x) f y e = (x, refl, e)
bind_ok (Err d) f y e = absurd cc

pub bind_err : {A B : Type 0} (r : Result A StepRefusal) (f : A → Result B StepRefusal) (d : StepRefusal) → (r >>= f) ≡ Err d → (r ≡ Err d) ⊎ ((x : A) × (r ≡ Ok x) × (f x ≡ Err d))
bind_err {A} {B} (Ok x) f d e = inr (x, refl, e)
bind_err {A} {B} (Err c) f d e = inl (ap (λ (t : StepRefusal). wrong {A = A} t) (err_is {A = B} c d e))

-- a test that did not fail, or failed
pub chosen_ok : {A : Type 0} (b : Bool) (d : StepRefusal) (x y : A) → cond b (Ok x) (Err d) ≡ Ok y → (b ≡ true) × (x ≡ y)
chosen_ok true d x y e = (refl, cc)
chosen_ok false d x y e = absurd cc

pub chosen_err : {A : Type 0} (b : Bool) (d e : StepRefusal) (x : A) → cond b (Ok x) (Err d) ≡ Err e → (b ≡ false) × (d ≡ e)
chosen_err true d e x h = absurd cc
chosen_err false d e x h = (refl, cc)

pub passed_ok : {A : Type 0} (b : Bool) (d : StepRefusal) (x y : A) → cond b (Err d) (Ok x) ≡ Ok y → (b ≡ false) × (x ≡ y)
passed_ok true d x y e = absurd cc
passed_ok false d x y e = (refl, cc)

pub passed_err : {A : Type 0} (b : Bool) (d e : StepRefusal) (x : A) → cond b (Err d) (Ok x) ≡ Err e → (b ≡ true) × (d ≡ e)
passed_err true d e x h = (refl, cc)
passed_err false d e x h = absurd cc

-- ---- ranges

pub within_true : (least most n : ℕ) → is_within least most n ≡ true → IsWithin least most n
within_true least most n e =
    let p = and_parts (leb least n) (leb n most) e in
    (leb-true least n p.0, leb-true n most p.1)

pub within_false : (least most n : ℕ) → is_within least most n ≡ false → ¬ (IsWithin least most n)
within_false least most n e h =
    elim (and_cases (leb least n) (leb n most) e) [
      | inl a ↦ omega (arith, h.0, leb-false least n a)
      | inr b ↦ omega (arith, h.1, leb-false n most b)
    ]

pub true_within : (least most n : ℕ) → IsWithin least most n → is_within least most n ≡ true
true_within least most n h = and_from (leb least n) (leb n most) (le-leb least n h.0) (le-leb n most h.1)

pub false_within : (least most n : ℕ) → ¬ (IsWithin least most n) → is_within least most n ≡ false
false_within least most n h =
    elim (cases_lt n least) [
      | inl lt ↦ and_left (leb least n) (leb n most) (lt-leb least n lt)
      | inr ge ↦ elim (cases_lt most n) [
        | inl lt ↦ and_right (leb least n) (leb n most) (lt-leb n most lt)
        | inr le ↦ absurd (h (ge, le))
      ]
    ]

-- ---- numbers

pub record IsWide (w : Width) : Type 0 where
  pub len : (n : ℕ) → length (number_bytes w n) ≡ byte_len w
  pub back : (bytes : List ℕ) → length bytes ≡ byte_len w → IsBytes bytes → number_bytes w (from_le_bytes w bytes) ≡ bytes
  pub again : (n : ℕ) → n < 2 ^ (8 * byte_len w) → from_le_bytes w (number_bytes w n) ≡ n
  pub below : (bytes : List ℕ) → IsBytes bytes → from_le_bytes w bytes < 2 ^ (8 * byte_len w)

pub wide32 : IsWide w32
unfolding number_bytes
wide32 = record {
  len = λ n. refl;
  back = λ bytes len fits. le_bytes_4 bytes _ len fits refl;
  again = λ n lt. from_le_bytes-to_le_bytes_4 n lt;
  below = λ bytes fits. omega (arith, fits 0, fits 1, fits 2, fits 3);
}

pub wide64 : IsWide w64
unfolding number_bytes
wide64 = record {
  len = λ n. refl;
  back = λ bytes len fits. le_bytes_8 bytes _ len fits refl;
  again = λ n lt. from_le_bytes-to_le_bytes_8 n lt;
  below = λ bytes fits. omega (arith, fits 0, fits 1, fits 2, fits 3, fits 4, fits 5, fits 6, fits 7);
}

-- what a number is that was read
record IsRead (w : Width) (bytes : List ℕ) (n : ℕ) (rest : List ℕ) : Type 0 where
  bytes_are : bytes ≡ number_bytes w n ++ rest
  below : n < 2 ^ (8 * byte_len w)
  rest_fits : IsBytes rest

number_takes : (w : Width) → IsWide w → (bytes : List ℕ) (x : ℕ × List ℕ) → IsBytes bytes → number_at w bytes ≡ Ok x → IsRead w bytes x.0 x.1
unfolding number_at
number_takes w wide bytes x fits e =
    let g = passed_ok (ltb (length bytes) (byte_len w)) Truncated (from_le_bytes w (take (byte_len w) bytes), drop (byte_len w) bytes) x e in
    let long : byte_len w ≤ length bytes = ltb-false _ _ g.0 in
    let front : number_bytes w (from_le_bytes w (take (byte_len w) bytes)) ≡ take (byte_len w) bytes = wide.back (take (byte_len w) bytes) (omega (arith, length-take (byte_len w) bytes)) (IsBytes-take (byte_len w) bytes fits) in
    subst (λ (y : ℕ × List ℕ). IsRead w bytes y.0 y.1) g.1 (record {
      bytes_are = rw front (sym (take-append-drop (byte_len w) bytes));
      below = wide.below (take (byte_len w) bytes) (IsBytes-take (byte_len w) bytes fits);
      rest_fits = IsBytes-drop (byte_len w) bytes fits;
    })

pub number_again : (w : Width) → IsWide w → (n : ℕ) (rest : List ℕ) → n < 2 ^ (8 * byte_len w) → number_at w (number_bytes w n ++ rest) ≡ Ok (n, rest)
unfolding number_at
number_again w wide n rest lt =
    let len = wide.len n in
    let long : ltb (length (number_bytes w n ++ rest)) (byte_len w) ≡ false = le-ltb _ _ (omega (arith, length-append (number_bytes w n) rest)) in
    rw (long, take_at (number_bytes w n) rest (byte_len w) len, drop_at (number_bytes w n) rest (byte_len w) len, wide.again n lt) refl

number_fails : (w : Width) (bytes : List ℕ) (e : StepRefusal) → number_at w bytes ≡ Err e → (length bytes < byte_len w) × (Truncated ≡ e)
unfolding number_at
number_fails w bytes e h =
    let g = passed_err (ltb (length bytes) (byte_len w)) Truncated e (from_le_bytes w (take (byte_len w) bytes), drop (byte_len w) bytes) h in
    (ltb-true _ _ g.0, g.1)

number_short : (w : Width) (bytes : List ℕ) → length bytes < byte_len w → number_at w bytes ≡ Err Truncated
unfolding number_at
number_short w bytes lt = rw (lt-ltb _ _ lt) refl

within_refuses : (w : Width) (wide : IsWide w) (least most : ℕ) (bytes : List ℕ) (e : StepRefusal) → NumberRefuses w least most bytes e → number_within w least most bytes ≡ Err e
unfolding number_within
within_refuses w wide least most bytes Truncated h = rw (number_short w bytes h) refl
within_refuses w wide least most bytes BadField (n, rest, lt, is, not) = rw (is, number_again w wide n rest lt, false_within least most n not) refl
within_refuses w wide least most bytes BadKind h = absurd h
within_refuses w wide least most bytes NoMemory h = absurd h

within_fails : (w : Width) (wide : IsWide w) (least most : ℕ) (bytes : List ℕ) (e : StepRefusal) → IsBytes bytes → number_within w least most bytes ≡ Err e → NumberRefuses w least most bytes e
unfolding number_within
within_fails w wide least most bytes e fits h =
    elim (bind_err (number_at w bytes) (λ n. cond (is_within least most n.0) (Ok n) (Err BadField)) e h) [
      | inl a ↦ let s = number_fails w bytes e a in subst (λ (d : StepRefusal). NumberRefuses w least most bytes d) s.1 s.0
      | inr a ↦
          let t = number_takes w wide bytes a.0 fits a.1 in
          let g = chosen_err (is_within least most a.0.0) BadField e a.0 a.2 in
          subst (λ (d : StepRefusal). NumberRefuses w least most bytes d) g.1 (a.0.0, a.0.1, t.below, t.bytes_are, within_false least most a.0.0 g.0)
    ]

within_takes : (w : Width) (wide : IsWide w) (least most : ℕ) (bytes : List ℕ) (x : ℕ × List ℕ) → IsBytes bytes → number_within w least most bytes ≡ Ok x → Begins (number_of w least most) bytes x.0 x.1 × IsBytes x.1
unfolding number_within
within_takes w wide least most bytes x fits h =
    let a = bind_ok (number_at w bytes) (λ n. cond (is_within least most n.0) (Ok n) (Err BadField)) x h in
    let t = number_takes w wide bytes a.0 fits a.1 in
    let g = chosen_ok (is_within least most a.0.0) BadField a.0 x a.2 in
    subst (λ (y : ℕ × List ℕ). Begins (number_of w least most) bytes y.0 y.1 × IsBytes y.1) g.1
    (record { bytes_are = t.bytes_are; in_range = within_true least most a.0.0 g.0 }, t.rest_fits)

within_again : (w : Width) (wide : IsWide w) (least most : ℕ) → most < 2 ^ (8 * byte_len w) → (n : ℕ) (rest : List ℕ) → IsWithin least most n → number_within w least most (number_bytes w n ++ rest) ≡ Ok (n, rest)
unfolding number_within
within_again w wide least most lt n rest h =
    rw (number_again w wide n rest (omega (arith, h.1)), true_within least most n h) refl

pub number_lawful : (w : Width) (wide : IsWide w) (least most : ℕ) → most < 2 ^ (8 * byte_len w) → Lawful (number_of w least most)
number_lawful w wide least most lt = record {
  some = 0;
  takes = within_takes w wide least most;
  again = within_again w wide least most lt;
  fails = within_fails w wide least most;
  refuses = within_refuses w wide least most;
}

-- ---- choices

choice_takes : {A : Type 0} (n : ℕ) (code : A → ℕ) (of : ℕ → A) → ((b : ℕ) → b < n → code (of b) ≡ b) → (bytes : List ℕ) (x : A × List ℕ) → IsBytes bytes → choice_at n of bytes ≡ Ok x → Begins (choice_of n code of) bytes x.0 x.1 × IsBytes x.1
unfolding choice_at
choice_takes n code of back [] x fits h = absurd cc
choice_takes {A} n code of back (b ∷ rest) x fits h =
    let g = chosen_ok (ltb b n) BadField (of b, rest) x h in
    subst (λ (y : A × List ℕ). Begins (choice_of n code of) (b ∷ rest) y.0 y.1 × IsBytes y.1) g.1
    (record { bytes_are = ap (λ (c : ℕ). c ∷ rest) (sym (back b (ltb-true _ _ g.0))); in_range = tt }, IsBytes-rest b rest fits)

choice_again : {A : Type 0} (n : ℕ) (code : A → ℕ) (of : ℕ → A) → ((x : A) → (code x < n) × (of (code x) ≡ x)) → (x : A) (rest : List ℕ) → choice_at n of (code x ∷ rest) ≡ Ok (x, rest)
unfolding choice_at
choice_again n code of is x rest = rw (lt-ltb _ _ (is x).0, (is x).1) refl

choice_fails : {A : Type 0} (n : ℕ) (of : ℕ → A) (bytes : List ℕ) (e : StepRefusal) → choice_at n of bytes ≡ Err e → ChoiceRefuses n bytes e
unfolding choice_at
choice_fails {A} n of [] e h = sym (err_is {A = A × List ℕ} Truncated e h)
choice_fails n of (b ∷ rest) e h = let g = chosen_err (ltb b n) BadField e (of b, rest) h in (ltb-false _ _ g.0, sym g.1)

choice_refuses : {A : Type 0} (n : ℕ) (of : ℕ → A) (bytes : List ℕ) (e : StepRefusal) → ChoiceRefuses n bytes e → choice_at n of bytes ≡ Err e
unfolding choice_at
choice_refuses {A} n of [] e h = ap (λ (d : StepRefusal). wrong {A = A × List ℕ} d) (sym h)
choice_refuses n of (b ∷ rest) e h = rw (le-ltb _ _ h.0, h.1) refl

pub choice_lawful : {A : Type 0} (n : ℕ) (code : A → ℕ) (of : ℕ → A) → ((b : ℕ) → b < n → code (of b) ≡ b) → ((x : A) → (code x < n) × (of (code x) ≡ x)) → Lawful (choice_of n code of)
choice_lawful n code of back is = record {
  some = of 0;
  takes = choice_takes n code of back;
  again = λ x rest h. choice_again n code of is x rest;
  fails = λ bytes e fits h. choice_fails n of bytes e h;
  refuses = choice_refuses n of;
}
