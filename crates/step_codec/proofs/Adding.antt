-- Writing one thing after another to the end of a vector.
use Rattle.std.proofs.Common.{◌≡◌, ℕ, ◌+◌, ◌≤◌, ◌<◌, List, [], ◌∷◌, ◌++◌, length, take, drop, get_or, Result, Ok, Err, refl, sym, ap, subst, ◌∙◌, append_assoc, arith}
use Rattle.std.specs.Global.{Vec}
use Rattle.std.specs.List.{flat_map}
use Rattle.std.proofs.lemmas.List.{append-nil, length-append, take-append-drop, take_more, take_all, take_at, get_or_default}
use Rattle.std.proofs.lemmas.List.Concat.{flat_map-append}
use Rattle.step_codec.specs.Writing.{Adds}

abbrev pub so_far : Result (Unit {0}) (Unit {0})
so_far = Ok tt

kept_then : (a b c x : List ℕ) → b ≡ a ++ x → take (length b) c ≡ b → take (length a) c ≡ a
kept_then a b c x is kept =
    let whole : c ≡ a ++ (x ++ drop (length b) c) = sym (take-append-drop (length b) c) ∙ ap (λ (t : List ℕ). t ++ drop (length b) c) (kept ∙ is) ∙ append_assoc a x (drop (length b) c) in
    ap (take (length a)) whole ∙ take_at a (x ++ drop (length b) c) (length a) refl

pub adds_then : {T E S F : Type 0} (a b c : Vec ℕ) (u : T) (v : S) (x y : List ℕ) → Adds {E = E} a b (Ok u) x → Adds {E = F} b c (Ok v) y → Adds {E = F} a c (Ok v) (x ++ y)
adds_then a b c u v x y p q = record {
  ok = q.ok ∙ ap (λ (t : List ℕ). t ++ y) p.ok ∙ append_assoc a.items x y;
  len = omega (arith, p.len, q.len, length-append x y);
  kept = kept_then a.items b.items c.items x p.ok q.kept;
  room = omega (arith, p.room, q.room);
  full = tt;
}

pub adds_fails : {T E S F G H : Type 0} (a b c : Vec ℕ) (u : T) (e : F) (d : H) (x y z w : List ℕ) → w ≡ (x ++ y) ++ z → Adds {E = E} a b (Ok u) x → Adds {T = S} b c (Err e) y → Adds {T = G} a c (Err d) w
adds_fails a b c u e d x y z w is p q = record {
  ok = tt;
  len = tt;
  kept = kept_then a.items b.items c.items x p.ok q.kept;
  room = omega (arith, p.room, q.room);
  full = omega (arith, p.len, p.room, q.full, ap length is, length-append (x ++ y) z, length-append x y);
}

abbrev adds_as : {T E : Type 0} (a b : Vec ℕ) (r : Result T E) (x y : List ℕ) → x ≡ y → Adds a b r x → Adds a b r y
adds_as a b r x y is p = subst (λ (t : List ℕ). Adds a b r t) is p

-- The items of a list after its head: those before the i-th are written.

so_many : {X : Type 0} (f : X → List ℕ) (xs : List X) (i : ℕ) (x : X) → i < length xs → x ≡ get_or xs i x → flat_map f (take (i + 1) xs) ≡ flat_map f (take i xs) ++ f x
so_many f xs i x lt is =
    ap (λ (t : List _). flat_map f t) (take_more xs i x lt) ∙ flat_map-append f (take i xs) (get_or xs i x ∷ []) ∙ ap (λ (y : _). flat_map f (take i xs) ++ (f y ++ [])) (sym is) ∙ ap (λ (t : List ℕ). flat_map f (take i xs) ++ t) (append-nil (f x))

all_of : {X : Type 0} (f : X → List ℕ) (xs : List X) (i : ℕ) (x : X) → i < length xs → x ≡ get_or xs i x → flat_map f xs ≡ (flat_map f (take i xs) ++ f x) ++ flat_map f (drop (i + 1) xs)
all_of f xs i x lt is =
    ap (λ (t : List _). flat_map f t) (sym (take-append-drop (i + 1) xs)) ∙ flat_map-append f (take (i + 1) xs) (drop (i + 1) xs) ∙ ap (λ (t : List ℕ). t ++ flat_map f (drop (i + 1) xs)) (so_many f xs i x lt is)

pub items_begin : {X T E : Type 0} (f : X → List ℕ) (xs : List X) (a b : Vec ℕ) (u : T) (head : List ℕ) → Adds {E = E} a b (Ok u) head → Adds a b so_far (head ++ flat_map f (take 0 xs))
items_begin f xs a b u head p = record {
  ok = p.ok ∙ ap (λ (t : List ℕ). a.items ++ t) (sym (append-nil head));
  len = omega (arith, p.len, ap length (append-nil head));
  kept = p.kept;
  room = p.room;
  full = tt;
}

pub items_go_on : {X T E : Type 0} (f : X → List ℕ) (xs : List X) (i : ℕ) (x : X) (a b c : Vec ℕ) (u : T) (head : List ℕ) → i < length xs → x ≡ get_or xs i x
    → Adds a b so_far (head ++ flat_map f (take i xs)) → Adds {E = E} b c (Ok u) (f x) → Adds a c so_far (head ++ flat_map f (take (i + 1) xs))
items_go_on f xs i x a b c u head lt is p q =
    let both = adds_then a b c tt u (head ++ flat_map f (take i xs)) (f x) p q in
    let same : (head ++ flat_map f (take i xs)) ++ f x ≡ head ++ flat_map f (take (i + 1) xs) = append_assoc head (flat_map f (take i xs)) (f x) ∙ ap (λ (t : List ℕ). head ++ t) (sym (so_many f xs i x lt is)) in
    record {
      ok = both.ok ∙ ap (λ (t : List ℕ). a.items ++ t) same;
      len = omega (arith, both.len, ap length same);
      kept = both.kept;
      room = both.room;
      full = tt;
    }

pub items_stop : {X T E S F : Type 0} (f : X → List ℕ) (xs : List X) (i : ℕ) (x : X) (a b c : Vec ℕ) (e : E) (d : F) (head : List ℕ) → i < length xs → x ≡ get_or xs i x
    → Adds a b so_far (head ++ flat_map f (take i xs)) → Adds {T = T} b c (Err e) (f x) → Adds {T = S} a c (Err d) (head ++ flat_map f xs)
items_stop f xs i x a b c e d head lt is p q =
    adds_fails a b c tt e d (head ++ flat_map f (take i xs)) (f x) (flat_map f (drop (i + 1) xs)) (head ++ flat_map f xs)
    (ap (λ (t : List ℕ). head ++ t) (all_of f xs i x lt is) ∙ regroup head (flat_map f (take i xs)) (f x) (flat_map f (drop (i + 1) xs))) p q
  where
    regroup : (h a b c : List ℕ) → h ++ ((a ++ b) ++ c) ≡ ((h ++ a) ++ b) ++ c
    regroup h a b c = simp append_assoc

pub items_end : {X T E : Type 0} (f : X → List ℕ) (xs : List X) (i : ℕ) (a b : Vec ℕ) (u : T) (head : List ℕ) → length xs ≤ i
    → Adds a b so_far (head ++ flat_map f (take i xs)) → Adds {E = E} a b (Ok u) (head ++ flat_map f xs)
items_end f xs i a b u head le p =
    let same : head ++ flat_map f (take i xs) ≡ head ++ flat_map f xs = ap (λ (t : List _). head ++ flat_map f t) (take_all i xs le) in
    record {
      ok = p.ok ∙ ap (λ (t : List ℕ). a.items ++ t) same;
      len = omega (arith, p.len, ap length same);
      kept = p.kept;
      room = p.room;
      full = tt;
    }

-- the last thing that is written, whatever becomes of it
pub adds_last : {T E S F : Type 0} (a b c : Vec ℕ) (u : T) (r : Result S F) (x y : List ℕ) → Adds {E = E} a b (Ok u) x → Adds b c r y → Adds a c r (x ++ y)
adds_last a b c u (Ok v) x y p q = adds_then a b c u v x y p q
adds_last a b c u (Err e) x y p q = adds_fails a b c u e e x y [] (x ++ y) (sym (append-nil (x ++ y))) p q

pub items_stop_at : {X T E S F : Type 0} (f : X → List ℕ) (xs : List X) (i : ℕ) (x : X) (a b c : Vec ℕ) (e : E) (d : F) (head : List ℕ) → i < length xs
    → Adds a b so_far (head ++ flat_map f (take i xs)) → Adds {T = T} b c (Err e) (f (get_or xs i x)) → Adds {T = S} a c (Err d) (head ++ flat_map f xs)
items_stop_at f xs i x a b c e d head lt p q = items_stop f xs i (get_or xs i x) a b c e d head lt (get_or_default xs i x (get_or xs i x) lt) p q
