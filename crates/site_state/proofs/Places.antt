-- Places in lists: what stands before and behind the first element that passes a test, and what a change at its place leaves.
use Rattle.std.proofs.Common.{◌≡◌, ℕ, zero, suc, ◌+◌, ◌<◌, List, [], ◌∷◌, ◌++◌, length, get_or, set, refl, sym, ◌∙◌, ap, arith, Bool, true, false, cond, Option, Some, None, length-append, add-zero, zero-add}
use Rattle.std.specs.Prelude.{All, find, position, slice_get, remove, is_some, ◌||◌}
use Rattle.std.specs.List.{AllByRecursion, position_from, list_any}
use Rattle.std.proofs.lemmas.Iterator.Adapters.{position_from-zero}
use Rattle.std.proofs.lemmas.List.Elements.{recursion_from_All}

-- the first element that passes, in a list whose places count from `base`
pub record FirstAt {X : Type 0} (p : X → Bool) (xs : List X) (base place : ℕ) : Type 0 where
  pub front : List X
  pub item : X
  pub back : List X
  pub whole : xs ≡ front ++ item ∷ back
  pub at : base + length front ≡ place
  pub passes : p item ≡ true
  pub fails : AllByRecursion (λ x. p x ≡ false) front

-- an element before the others, which fails, moves the place by one
first_behind : {X : Type 0} (p : X → Bool) (x : X) (xs : List X) (base place : ℕ) → p x ≡ false → FirstAt p xs (base + 1) place → FirstAt p (x ∷ xs) base place
first_behind p x xs base place fails first = record {
  front = x ∷ first.front;
  item = first.item;
  back = first.back;
  whole = ap (λ l. x ∷ l) first.whole;
  at = omega (arith, first.at);
  passes = first.passes;
  fails = (fails, first.fails);
}

some_inj : {X : Type 0} (x y : X) → Some x ≡ Some y → x ≡ y
some_inj x y e = cc

-- where a place is found, the first element that passes stands there
pub place_found : {X : Type 0} (p : X → Bool) (xs : List X) (base place : ℕ) → position_from p base xs ≡ Some place → FirstAt p xs base place
place_found {X} p [] base place e = absurd (let differs : None ≡ Some place = e in cc)
place_found {X} p (x ∷ xs) base place e = by_test (p x) refl e (λ same. place_found p xs (base + 1) place same)
  where
    by_test : (b : Bool) → p x ≡ b → cond b (Some base) (position_from p (base + 1) xs) ≡ Some place
        → (position_from p (base + 1) xs ≡ Some place → FirstAt p xs (base + 1) place) → FirstAt p (x ∷ xs) base place
    by_test true is same rest = record { front = []; item = x; back = xs; whole = refl; at = omega (arith, some_inj base place same); passes = is; fails = tt }
    by_test false is same rest = first_behind p x xs base place is (rest same)

-- where none is found, no element passes
pub no_place : {X : Type 0} (p : X → Bool) (xs : List X) (base : ℕ) → position_from p base xs ≡ None → AllByRecursion (λ x. p x ≡ false) xs
no_place {X} p [] base e = tt
no_place {X} p (x ∷ xs) base e = by_test (p x) refl e (λ same. no_place p xs (base + 1) same)
  where
    by_test : (b : Bool) → p x ≡ b → cond b (Some base) (position_from p (base + 1) xs) ≡ None
        → (position_from p (base + 1) xs ≡ None → AllByRecursion (λ y. p y ≡ false) xs) → (p x ≡ false) × AllByRecursion (λ y. p y ≡ false) xs
    by_test true is same rest = absurd (let differs : Some base ≡ None = same in cc)
    by_test false is same rest = (is, rest same)

pub first_at : {X : Type 0} (p : X → Bool) (xs : List X) (place : ℕ) → position p xs ≡ Some place → FirstAt p xs 0 place
first_at p xs place e = place_found p xs 0 place (sym (position_from-zero p xs) ∙ e)

pub none_passes : {X : Type 0} (p : X → Bool) (xs : List X) → position p xs ≡ None → AllByRecursion (λ x. p x ≡ false) xs
none_passes p xs e = no_place p xs 0 (sym (position_from-zero p xs) ∙ e)

-- the first that passes is found, and where none passes none is
pub find-first : {X : Type 0} (p : X → Bool) (front : List X) (item : X) (back : List X) → AllByRecursion (λ x. p x ≡ false) front → p item ≡ true
    → find p (front ++ item ∷ back) ≡ Some item
find-first p [] item back fails passes = ap (λ b. cond b (Some item) (find p back)) passes
find-first p (x ∷ front) item back fails passes =
    ap (λ b. cond b (Some x) (find p (front ++ item ∷ back))) fails.0 ∙ find-first p front item back fails.1 passes

pub find-none : {X : Type 0} (p : X → Bool) (xs : List X) → AllByRecursion (λ x. p x ≡ false) xs → find p xs ≡ None
find-none p [] fails = refl
find-none p (x ∷ xs) fails = ap (λ b. cond b (Some x) (find p xs)) fails.0 ∙ find-none p xs fails.1

-- what is found stands in the list, behind elements that fail
pub found_at : {X : Type 0} (p : X → Bool) (xs : List X) (item : X) → find p xs ≡ Some item
    → (front : List X) × (back : List X) × (xs ≡ front ++ item ∷ back) × (p item ≡ true) × AllByRecursion (λ x. p x ≡ false) front
found_at {X} p [] item e = absurd (let differs : None ≡ Some item = e in cc)
found_at {X} p (x ∷ xs) item e = by_test (p x) refl e (λ same. found_at p xs item same)
  where
    by_test : (b : Bool) → p x ≡ b → cond b (Some x) (find p xs) ≡ Some item
        → (find p xs ≡ Some item → (front : List X) × (back : List X) × (xs ≡ front ++ item ∷ back) × (p item ≡ true) × AllByRecursion (λ y. p y ≡ false) front)
        → (front : List X) × (back : List X) × (x ∷ xs ≡ front ++ item ∷ back) × (p item ≡ true) × AllByRecursion (λ y. p y ≡ false) front
    by_test true is same rest = let one = some_inj x item same in ([], xs, ap (λ y. y ∷ xs) one, sym (ap p one) ∙ is, tt)
    by_test false is same rest = let there = rest same in (x ∷ there.0, there.1, ap (λ l. x ∷ l) there.2, there.3, (is, there.4))

-- the element at the place, and changes there
pub slice_get-at : {X : Type 0} (front : List X) (item : X) (back : List X) → slice_get (front ++ item ∷ back) (length front) ≡ Some item
slice_get-at [] item back = refl
slice_get-at (x ∷ front) item back = slice_get-at front item back

pub get_or-at : {X : Type 0} (front : List X) (item : X) (back : List X) (d : X) → get_or (front ++ item ∷ back) (length front) d ≡ item
get_or-at [] item back d = refl
get_or-at (x ∷ front) item back d = get_or-at front item back d

pub set-at : {X : Type 0} (front : List X) (item : X) (back : List X) (new : X) → set (front ++ item ∷ back) (length front) new ≡ front ++ new ∷ back
set-at [] item back new = refl
set-at (x ∷ front) item back new = ap (λ l. x ∷ l) (set-at front item back new)

pub remove-at : {X : Type 0} (front : List X) (item : X) (back : List X) → remove (front ++ item ∷ back) (length front) ≡ front ++ back
remove-at [] item back = refl
remove-at (x ∷ front) item back = ap (λ l. x ∷ l) (remove-at front item back)

-- a place is found exactly where some element passes
some_place : {X : Type 0} (p : X → Bool) (xs : List X) (base : ℕ) → is_some (position_from p base xs) ≡ list_any p xs
some_place {X} p [] base = refl
some_place {X} p (x ∷ xs) base = by_test (p x) (some_place p xs (base + 1))
  where
    by_test : (b : Bool) → is_some (position_from p (base + 1) xs) ≡ list_any p xs → is_some (cond b (Some base) (position_from p (base + 1) xs)) ≡ (b || list_any p xs)
    by_test true rest = refl
    by_test false rest = rest

pub is_some-position : {X : Type 0} (p : X → Bool) (xs : List X) → is_some (position p xs) ≡ list_any p xs
is_some-position p xs = ap is_some (position_from-zero p xs) ∙ some_place p xs 0

module _ {X : Type 0} (p : X → Bool) (xs : List X) (place : ℕ) (at : FirstAt p xs 0 place) where
  place_is : place ≡ length at.front
  place_is = omega (arith, at.at)

  pub first-within : place < length xs
  first-within = omega (arith, at.at, ap length at.whole, length-append at.front (at.item ∷ at.back))

  pub first-slice_get : slice_get xs place ≡ Some at.item
  first-slice_get = ap (λ l. slice_get l place) at.whole ∙ ap (λ n. slice_get (at.front ++ at.item ∷ at.back) n) place_is ∙ slice_get-at at.front at.item at.back

  pub first-get_or : (d : X) → get_or xs place d ≡ at.item
  first-get_or d = ap (λ l. get_or l place d) at.whole ∙ ap (λ n. get_or (at.front ++ at.item ∷ at.back) n d) place_is ∙ get_or-at at.front at.item at.back d

-- what is found stands at some place
pub found_place : {X : Type 0} (p : X → Bool) (xs : List X) (item : X) → find p xs ≡ Some item → (place : ℕ) × (place < length xs) × ((d : X) → get_or xs place d ≡ item)
found_place p xs item e =
    let there = found_at p xs item e in
    let long : length xs ≡ length there.0 + suc (length there.1) = ap length there.2 ∙ length-append there.0 (item ∷ there.1) in
    (length there.0, omega (arith, long), λ d. ap (λ l. get_or l (length there.0) d) there.2 ∙ get_or-at there.0 item there.1 d)

-- where the first element that passes stands, and what it is, of a list whose places count from `base`
counted_at : {X : Type 0} (p : X → Bool) (xs : List X) (base i : ℕ) (d : X) → i < length xs → p (get_or xs i d) ≡ true → ((k : ℕ) → k < i → p (get_or xs k d) ≡ false)
    → position_from p base xs ≡ Some (base + i)
counted_at p [] base i d lt passes fails = absurd (omega arith)
counted_at p (x ∷ xs) base zero d lt passes fails = ap (λ b. cond b (Some base) (position_from p (base + 1) xs)) passes ∙ ap (λ (n : ℕ). let o : Option ℕ = Some n in o) (sym (add-zero base))
counted_at p (x ∷ xs) base (suc i) d lt passes fails =
    let there : base + 1 + i ≡ base + suc i = omega arith in
    ap (λ b. cond b (Some base) (position_from p (base + 1) xs)) (fails 0 (omega arith))
    ∙ counted_at p xs (base + 1) i d (omega arith) passes (λ k below. fails (suc k) (omega arith))
    ∙ ap (λ (n : ℕ). let o : Option ℕ = Some n in o) there

pub position_at : {X : Type 0} (p : X → Bool) (xs : List X) (i : ℕ) (d : X) → i < length xs → p (get_or xs i d) ≡ true → ((k : ℕ) → k < i → p (get_or xs k d) ≡ false)
    → position p xs ≡ Some i
position_at p xs i d lt passes fails =
    position_from-zero p xs ∙ counted_at p xs 0 i d lt passes fails ∙ ap (λ (n : ℕ). let o : Option ℕ = Some n in o) (zero-add i)

pub find_at : {X : Type 0} (p : X → Bool) (xs : List X) (i : ℕ) (d : X) → i < length xs → p (get_or xs i d) ≡ true → ((k : ℕ) → k < i → p (get_or xs k d) ≡ false)
    → find p xs ≡ Some (get_or xs i d)
find_at p [] i d lt passes fails = absurd (omega arith)
find_at p (x ∷ xs) zero d lt passes fails = ap (λ b. cond b (Some x) (find p xs)) passes
find_at p (x ∷ xs) (suc i) d lt passes fails =
    ap (λ b. cond b (Some x) (find p xs)) (fails 0 (omega arith)) ∙ find_at p xs i d (omega arith) passes (λ k below. fails (suc k) (omega arith))

-- where none passes there is no place
nowhere : {X : Type 0} (p : X → Bool) (xs : List X) (base : ℕ) → AllByRecursion (λ x. p x ≡ false) xs → position_from p base xs ≡ None
nowhere p [] base fails = refl
nowhere p (x ∷ xs) base fails = ap (λ b. cond b (Some base) (position_from p (base + 1) xs)) fails.0 ∙ nowhere p xs (base + 1) fails.1

pub position-none : {X : Type 0} (p : X → Bool) (xs : List X) → All (λ x. p x ≡ false) xs → position p xs ≡ None
position-none p xs fails = position_from-zero p xs ∙ nowhere p xs 0 (recursion_from_All (λ x. p x ≡ false) xs fails)
