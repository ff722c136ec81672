-- All values and the last one, with one line or option more.
use Rattle.std.proofs.Common.{◌≡◌, Bool, true, false, ◌||◌, List, [], ◌∷◌, ◌++◌, Option, Some, None, refl, ap, ◌∙◌}
use Rattle.std.specs.List.{filter_map, last_or, cons_option, list_any}
use Rattle.std.specs.Option.{option_or}
use Rattle.std.proofs.lemmas.List.Elements.{filter_map-append}
use Rattle.std.proofs.lemmas.List.{append-nil}
use Rattle.site_text.specs.LastValues.{all_of, last_of}

last_more : {B : Type 0} (o : Option B) (xs : List B) (v : Option B) → last_or o (xs ++ cons_option v []) ≡ option_or v (last_or o xs)
last_more o [] (Some x) = refl
last_more o [] None = refl
last_more o (x ∷ xs) v = last_more (Some x) xs v

pub last_of_more : {A B : Type 0} (says : A → Option B) (given : List A) (x : A) → last_of says (given ++ x ∷ []) ≡ option_or (says x) (last_of says given)
last_of_more says given x = ap (last_or None) (filter_map-append says given (x ∷ [])) ∙ last_more None (filter_map says given) (says x)

-- one that says a value
pub all_of_one : {A B : Type 0} (says : A → Option B) (given : List A) (x : A) (v : B) → says x ≡ Some v → all_of says (given ++ x ∷ []) ≡ all_of says given ++ v ∷ []
all_of_one says given x v is = filter_map-append says given (x ∷ []) ∙ rw is refl

-- one that says none
pub all_of_none : {A B : Type 0} (says : A → Option B) (given : List A) (x : A) → says x ≡ None → all_of says (given ++ x ∷ []) ≡ all_of says given
all_of_none says given x is = filter_map-append says given (x ∷ []) ∙ rw (is, append-nil (filter_map says given)) refl

-- a test of all, and of one more
turned : (a b c : Bool) → (a || (b || c)) ≡ (b || (a || c))
turned true true c = refl
turned true false c = refl
turned false b c = refl

pub any_more : {A : Type 0} (p : A → Bool) (xs : List A) (x : A) → list_any p (xs ++ x ∷ []) ≡ (p x || list_any p xs)
any_more p [] x = refl
any_more p (y ∷ ys) x = ap (λ (b : Bool). p y || b) (any_more p ys x) ∙ turned (p y) (p x) (list_any p ys)
