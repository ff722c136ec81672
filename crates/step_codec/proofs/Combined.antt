-- The laws of texts, lists, and forms that are put together.
use Rattle.std.proofs.Common.{◌≡◌, ℕ, zero, suc, ◌-◌, ◌^◌, ◌<◌, ◌≤◌, false, cond, ltb, List, [], ◌∷◌, ◌++◌, length, take, drop, Ok, Err, refl, sym, ap, subst, ◌∙◌, append_assoc, arith, inl, inr}
use Rattle.std.specs.List.{flat_map, AllByRecursion}
use Rattle.std.specs.Int.{w32}
use Rattle.std.proofs.lemmas.Bool.{ltb-true, ltb-false, lt-ltb, le-ltb}
use Rattle.std.proofs.lemmas.List.{take_at, drop_at, take-append-drop, length-append, length-take}
use Rattle.step_codec.specs.declared.refusal.StepRefusal.{StepRefusal}
use Rattle.step_codec.specs.declared.refusal.StepRefusal.TheVariants.{Truncated}
use Rattle.step_codec.specs.Forms.{Form, Begins, number_bytes, ◌>>=◌, IsWithin, size, text_at, text, TextRefuses, ◌&◌, made, items_at, ItemsRefuse, list_at, list_of, ListRefuses, count}
use Rattle.step_codec.proofs.Laws.{IsBytes, IsBytes-drop, Lawful, wide32, number_lawful, ok_is, bind_ok, bind_err, passed_ok, passed_err, ok_or_err}

-- ---- one form after another

both_takes : {A B : Type 0} (F : Form A) (G : Form B) → Lawful F → Lawful G → (bytes : List ℕ) (x : (A × B) × List ℕ) → IsBytes bytes → (F & G).read bytes ≡ Ok x → Begins (F & G) bytes x.0 x.1 × IsBytes x.1
both_takes {A} {B} F G f g bytes x fits h =
    let a = bind_ok (F.read bytes) (λ a. G.read a.1 >>= λ b. Ok ((a.0, b.0), b.1)) x h in
    let b = bind_ok (G.read a.0.1) (λ b. Ok ((a.0.0, b.0), b.1)) x a.2 in
    let t = f.takes bytes a.0 fits a.1 in
    let u = g.takes a.0.1 b.0 t.1 b.1 in
    let made-is : (A × B) × List ℕ = ((a.0.0, b.0.0), b.0.1) in
    subst (λ (y : (A × B) × List ℕ). Begins (F & G) bytes y.0 y.1 × IsBytes y.1) (ok_is made-is x b.2) (
      record {
        bytes_are = t.0.bytes_are ∙ ap (λ (r : List ℕ). F.written a.0.0 ++ r) u.0.bytes_are ∙ sym (append_assoc (F.written a.0.0) (G.written b.0.0) b.0.1);
        in_range = (t.0.in_range, u.0.in_range);
      },
      u.1,
    )

both_again : {A B : Type 0} (F : Form A) (G : Form B) → Lawful F → Lawful G → (x : A × B) (rest : List ℕ) → F.InRange x.0 × G.InRange x.1 → (F & G).read ((F & G).written x ++ rest) ≡ Ok (x, rest)
both_again F G f g x rest h =
    let regrouped : (F.written x.0 ++ G.written x.1) ++ rest ≡ F.written x.0 ++ (G.written x.1 ++ rest) = append_assoc (F.written x.0) (G.written x.1) rest in
    ap (F & G).read regrouped ∙ rw (f.again x.0 (G.written x.1 ++ rest) h.0, g.again x.1 rest h.1) refl

both_fails : {A B : Type 0} (F : Form A) (G : Form B) → Lawful F → Lawful G → (bytes : List ℕ) (e : StepRefusal) → IsBytes bytes → (F & G).read bytes ≡ Err e → (F & G).Refuses bytes e
both_fails {A} {B} F G f g bytes e fits h =
    elim (bind_err (F.read bytes) (λ a. G.read a.1 >>= λ b. Ok ((a.0, b.0), b.1)) e h) [
      | inl a ↦ inl (f.fails bytes e fits a)
      | inr a ↦
          let t = f.takes bytes a.0 fits a.1 in
          elim (bind_err (G.read a.0.1) (λ b. Ok ((a.0.0, b.0), b.1)) e a.2) [
            | inl b ↦ inr (a.0.0, a.0.1, t.0, g.fails a.0.1 e t.1 b)
            | inr b ↦ let made-is : (A × B) × List ℕ = ((a.0.0, b.0.0), b.0.1) in ok_or_err made-is e b.2
          ]
    ]

both_refuses : {A B : Type 0} (F : Form A) (G : Form B) → Lawful F → Lawful G → (bytes : List ℕ) (e : StepRefusal) → (F & G).Refuses bytes e → (F & G).read bytes ≡ Err e
both_refuses F G f g bytes e (inl h) = rw (f.refuses bytes e h) refl
both_refuses F G f g bytes e (inr (a, rest, begins, h)) = rw (begins.bytes_are, f.again a rest begins.in_range, g.refuses rest e h) refl

pub both_lawful : {A B : Type 0} {F : Form A} {G : Form B} → Lawful F → Lawful G → Lawful (F & G)
both_lawful {F = F} {G = G} f g = record {
  some = (f.some, g.some);
  takes = both_takes F G f g;
  again = both_again F G f g;
  fails = both_fails F G f g;
  refuses = both_refuses F G f g;
}

-- ---- parts put together

made_takes : {A B : Type 0} (of : A → B) (parts : B → A) (F : Form A) → ((x : A) → parts (of x) ≡ x) → Lawful F → (bytes : List ℕ) (x : B × List ℕ) → IsBytes bytes → (made of parts F).read bytes ≡ Ok x → Begins (made of parts F) bytes x.0 x.1 × IsBytes x.1
made_takes {A} {B} of parts F back f bytes x fits h =
    let a = bind_ok (F.read bytes) (λ a. Ok (of a.0, a.1)) x h in
    let t = f.takes bytes a.0 fits a.1 in
    let made-is : B × List ℕ = (of a.0.0, a.0.1) in
    subst (λ (y : B × List ℕ). Begins (made of parts F) bytes y.0 y.1 × IsBytes y.1) (ok_is made-is x a.2) (
      record {
        bytes_are = t.0.bytes_are ∙ ap (λ (y : A). F.written y ++ a.0.1) (sym (back a.0.0));
        in_range = subst F.InRange (sym (back a.0.0)) t.0.in_range;
      },
      t.1,
    )

made_fails : {A B : Type 0} (of : A → B) (parts : B → A) (F : Form A) → Lawful F → (bytes : List ℕ) (e : StepRefusal) → IsBytes bytes → (made of parts F).read bytes ≡ Err e → F.Refuses bytes e
made_fails {A} {B} of parts F f bytes e fits h =
    elim (bind_err (F.read bytes) (λ a. Ok (of a.0, a.1)) e h) [
      | inl a ↦ f.fails bytes e fits a
      | inr a ↦ let made-is : B × List ℕ = (of a.0.0, a.0.1) in ok_or_err made-is e a.2
    ]

pub made_lawful : {A B : Type 0} (of : A → B) (parts : B → A) {F : Form A} → ((x : A) → parts (of x) ≡ x) → ((y : B) → of (parts y) ≡ y) → Lawful F → Lawful (made of parts F)
made_lawful of parts {F} back same f = record {
  some = of f.some;
  takes = made_takes of parts F back f;
  again = λ x rest h. rw (f.again (parts x) rest h, same x) refl;
  fails = made_fails of parts F f;
  refuses = λ bytes e h. rw (f.refuses bytes e h) refl;
}

-- ---- texts

size_lawful : Lawful size
size_lawful = number_lawful w32 wide32 0 (2 ^ 32 - 1) (omega arith)

text_takes : (bytes : List ℕ) (x : List ℕ × List ℕ) → IsBytes bytes → text_at bytes ≡ Ok x → Begins text bytes x.0 x.1 × IsBytes x.1
unfolding text_at
text_takes bytes x fits h =
    let a = bind_ok (size.read bytes) (λ n. cond (ltb (length n.1) n.0) (Err Truncated) (Ok (take n.0 n.1, drop n.0 n.1))) x h in
    let n = a.0.0 in
    let after = a.0.1 in
    let t = size_lawful.takes bytes a.0 fits a.1 in
    let g = passed_ok (ltb (length after) n) Truncated (take n after, drop n after) x a.2 in
    let long : n ≤ length after = ltb-false _ _ g.0 in
    let len : length (take n after) ≡ n = omega (arith, length-take n after) in
    let whole : bytes ≡ (number_bytes w32 (length (take n after)) ++ take n after) ++ drop n after =
    t.0.bytes_are ∙ ap (λ (r : List ℕ). number_bytes w32 n ++ r) (sym (take-append-drop n after))
    ∙ sym (append_assoc (number_bytes w32 n) (take n after) (drop n after))
    ∙ ap (λ (k : ℕ). (number_bytes w32 k ++ take n after) ++ drop n after) (sym len) in
    let below : length (take n after) < 2 ^ 32 = omega (arith, t.0.in_range.1) in
    subst (λ (y : List ℕ × List ℕ). Begins text bytes y.0 y.1 × IsBytes y.1) g.1 (record { bytes_are = whole; in_range = below }, IsBytes-drop n after t.1)

text_again : (x rest : List ℕ) → length x < 2 ^ 32 → text_at ((number_bytes w32 (length x) ++ x) ++ rest) ≡ Ok (x, rest)
unfolding text_at
text_again x rest lt =
    let long : ltb (length (x ++ rest)) (length x) ≡ false = le-ltb _ _ (omega (arith, length-append x rest)) in
    let fits : IsWithin 0 (2 ^ 32 - 1) (length x) = (omega arith, omega arith) in
    ap text_at (append_assoc (number_bytes w32 (length x)) x rest)
    ∙ rw (size_lawful.again (length x) (x ++ rest) fits, long, take_at x rest (length x) refl, drop_at x rest (length x) refl) refl

text_fails : (bytes : List ℕ) (e : StepRefusal) → IsBytes bytes → text_at bytes ≡ Err e → TextRefuses bytes e
unfolding text_at
text_fails bytes e fits h =
    elim (bind_err (size.read bytes) (λ n. cond (ltb (length n.1) n.0) (Err Truncated) (Ok (take n.0 n.1, drop n.0 n.1))) e h) [
      | inl a ↦ inl (size_lawful.fails bytes e fits a)
      | inr a ↦
          let t = size_lawful.takes bytes a.0 fits a.1 in
          let g = passed_err (ltb (length a.0.1) a.0.0) Truncated e (take a.0.0 a.0.1, drop a.0.0 a.0.1) a.2 in
          inr (a.0.0, a.0.1, t.0, ltb-true _ _ g.0, sym g.1)
    ]

text_refuses : (bytes : List ℕ) (e : StepRefusal) → TextRefuses bytes e → text_at bytes ≡ Err e
unfolding text_at
text_refuses bytes e (inl h) = rw (size_lawful.refuses bytes e h) refl
text_refuses bytes e (inr (n, rest, begins, short, is)) = rw (begins.bytes_are, size_lawful.again n rest begins.in_range, lt-ltb _ _ short, is) refl

pub text_lawful : Lawful text
text_lawful = record { some = []; takes = text_takes; again = text_again; fails = text_fails; refuses = text_refuses }

-- ---- lists

-- what the next n items are
record AreItems {A : Type 0} (item : Form A) (n : ℕ) (bytes : List ℕ) (xs : List A) (rest : List ℕ) : Type 0 where
  bytes_are : bytes ≡ flat_map item.written xs ++ rest
  so_many : length xs ≡ n
  in_range : AllByRecursion item.InRange xs
  rest_fits : IsBytes rest

items_take : {A : Type 0} (item : Form A) → Lawful item → (n : ℕ) (bytes : List ℕ) (x : List A × List ℕ) → IsBytes bytes → items_at item n bytes ≡ Ok x → AreItems item n bytes x.0 x.1
unfolding items_at
items_take {A} item law zero bytes x fits h =
    let none : List A × List ℕ = ([], bytes) in
    subst (λ (y : List A × List ℕ). AreItems item 0 bytes y.0 y.1) (ok_is none x h) (record { bytes_are = refl; so_many = refl; in_range = tt; rest_fits = fits })
items_take {A} item law (suc n) bytes x fits h =
    let a = bind_ok (item.read bytes) (λ y. items_at item n y.1 >>= λ xs. Ok (y.0 ∷ xs.0, xs.1)) x h in
    let b = bind_ok (items_at item n a.0.1) (λ xs. Ok (a.0.0 ∷ xs.0, xs.1)) x a.2 in
    let t = law.takes bytes a.0 fits a.1 in
    let u = items_take item law n a.0.1 b.0 t.1 b.1 in
    let all : List A × List ℕ = (a.0.0 ∷ b.0.0, b.0.1) in
    subst (λ (y : List A × List ℕ). AreItems item (suc n) bytes y.0 y.1) (ok_is all x b.2) (record {
      bytes_are = t.0.bytes_are ∙ ap (λ (r : List ℕ). item.written a.0.0 ++ r) u.bytes_are ∙ sym (append_assoc (item.written a.0.0) (flat_map item.written b.0.0) b.0.1);
      so_many = ap suc u.so_many;
      in_range = (t.0.in_range, u.in_range);
      rest_fits = u.rest_fits;
    })

items_again : {A : Type 0} (item : Form A) → Lawful item → (xs : List A) (rest : List ℕ) → AllByRecursion item.InRange xs → items_at item (length xs) (flat_map item.written xs ++ rest) ≡ Ok (xs, rest)
unfolding items_at
items_again item law [] rest h = refl
items_again item law (x ∷ xs) rest h =
    let regrouped : flat_map item.written (x ∷ xs) ++ rest ≡ item.written x ++ (flat_map item.written xs ++ rest) = append_assoc (item.written x) (flat_map item.written xs) rest in
    ap (items_at item (suc (length xs))) regrouped ∙ rw (law.again x (flat_map item.written xs ++ rest) h.0, items_again item law xs rest h.1) refl

items_fail : {A : Type 0} (item : Form A) → Lawful item → (n : ℕ) (bytes : List ℕ) (e : StepRefusal) → IsBytes bytes → items_at item n bytes ≡ Err e → ItemsRefuse item n bytes e
unfolding items_at
items_fail {A} item law zero bytes e fits h = let none : List A × List ℕ = ([], bytes) in ok_or_err none e h
items_fail {A} item law (suc n) bytes e fits h =
    elim (bind_err (item.read bytes) (λ y. items_at item n y.1 >>= λ xs. Ok (y.0 ∷ xs.0, xs.1)) e h) [
      | inl a ↦ inl (law.fails bytes e fits a)
      | inr a ↦
          let t = law.takes bytes a.0 fits a.1 in
          elim (bind_err (items_at item n a.0.1) (λ xs. Ok (a.0.0 ∷ xs.0, xs.1)) e a.2) [
            | inl b ↦ inr (a.0.0, a.0.1, t.0, items_fail item law n a.0.1 e t.1 b)
            | inr b ↦ let all : List A × List ℕ = (a.0.0 ∷ b.0.0, b.0.1) in ok_or_err all e b.2
          ]
    ]

items_refuse : {A : Type 0} (item : Form A) → Lawful item → (n : ℕ) (bytes : List ℕ) (e : StepRefusal) → ItemsRefuse item n bytes e → items_at item n bytes ≡ Err e
unfolding items_at
items_refuse item law zero bytes e h = absurd h
items_refuse item law (suc n) bytes e (inl h) = rw (law.refuses bytes e h) refl
items_refuse item law (suc n) bytes e (inr (x, rest, begins, h)) = rw (begins.bytes_are, law.again x rest begins.in_range, items_refuse item law n rest e h) refl

list_takes : {A : Type 0} (least most : ℕ) (item : Form A) → Lawful (count least most) → Lawful item → (bytes : List ℕ) (x : List A × List ℕ) → IsBytes bytes → list_at least most item bytes ≡ Ok x → Begins (list_of least most item) bytes x.0 x.1 × IsBytes x.1
unfolding list_at
list_takes {A} least most item number law bytes x fits h =
    let a = bind_ok ((count least most).read bytes) (λ n. items_at item n.0 n.1) x h in
    let t = number.takes bytes a.0 fits a.1 in
    let u = items_take item law a.0.0 a.0.1 x t.1 a.2 in (
      record {
        bytes_are = t.0.bytes_are ∙ ap (λ (r : List ℕ). number_bytes w32 a.0.0 ++ r) u.bytes_are
            ∙ sym (append_assoc (number_bytes w32 a.0.0) (flat_map item.written x.0) x.1)
            ∙ ap (λ (k : ℕ). (number_bytes w32 k ++ flat_map item.written x.0) ++ x.1) (sym u.so_many);
        in_range = (subst (IsWithin least most) (sym u.so_many) t.0.in_range, u.in_range);
      },
      u.rest_fits,
    )

list_again : {A : Type 0} (least most : ℕ) (item : Form A) → Lawful (count least most) → Lawful item → (xs : List A) (rest : List ℕ) → (list_of least most item).InRange xs → list_at least most item ((list_of least most item).written xs ++ rest) ≡ Ok (xs, rest)
unfolding list_at
list_again least most item number law xs rest h =
    ap (list_at least most item) (append_assoc (number_bytes w32 (length xs)) (flat_map item.written xs) rest)
    ∙ rw (number.again (length xs) (flat_map item.written xs ++ rest) h.0) (items_again item law xs rest h.1)

list_fails : {A : Type 0} (least most : ℕ) (item : Form A) → Lawful (count least most) → Lawful item → (bytes : List ℕ) (e : StepRefusal) → IsBytes bytes → list_at least most item bytes ≡ Err e → ListRefuses least most item bytes e
unfolding list_at
list_fails least most item number law bytes e fits h =
    elim (bind_err ((count least most).read bytes) (λ n. items_at item n.0 n.1) e h) [
      | inl a ↦ inl (number.fails bytes e fits a)
      | inr a ↦
          let t = number.takes bytes a.0 fits a.1 in
          inr (a.0.0, a.0.1, t.0, items_fail item law a.0.0 a.0.1 e t.1 a.2)
    ]

list_refuses : {A : Type 0} (least most : ℕ) (item : Form A) → Lawful (count least most) → Lawful item → (bytes : List ℕ) (e : StepRefusal) → ListRefuses least most item bytes e → list_at least most item bytes ≡ Err e
unfolding list_at
list_refuses least most item number law bytes e (inl h) = rw (number.refuses bytes e h) refl
list_refuses least most item number law bytes e (inr (n, rest, begins, h)) = rw (begins.bytes_are, number.again n rest begins.in_range) (items_refuse item law n rest e h)

pub list_lawful : {A : Type 0} (least most : ℕ) {item : Form A} → most < 2 ^ 32 → Lawful item → Lawful (list_of least most item)
list_lawful least most {item} lt law =
    let number : Lawful (count least most) = number_lawful w32 wide32 least most lt in
    record {
      some = [];
      takes = list_takes least most item number law;
      again = list_again least most item number law;
      fails = list_fails least most item number law;
      refuses = list_refuses least most item number law;
    }
