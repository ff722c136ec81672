-- Lists of which each element is made by its place.
use Rattle.std.proofs.Common.{◌≡◌, ℕ, zero, suc, ◌+◌, ◌<◌, List, [], ◌∷◌, map, Option, Some, None, refl, sym, ap, ◌∙◌, arith}
use Rattle.std.specs.Prelude.{slice_get, slice_set}
use Rattle.std.specs.List.{enumerate_from}

abbrev pub by_place : {A B : Type 0} → (ℕ → A → B) → ℕ → List A → List B
by_place f n xs = map (λ l. f l.0 l.1) (enumerate_from n xs)

-- what is made of the elements alone
pub unplaced : {A B : Type 0} (f : A → B) (n : ℕ) (xs : List A) → by_place (λ place x. f x) n xs ≡ map f xs
unplaced f n [] = refl
unplaced f n (x ∷ xs) = ap (λ (ys : List _). f x ∷ ys) (unplaced f (n + 1) xs)

-- two ways to make an element agree but at one place
abbrev pub SameElsewhere : {A B : Type 0} → ℕ → (ℕ → A → B) → (ℕ → A → B) → Type 0
SameElsewhere {A} p f g = (q : ℕ) (x : A) → (q ≡ p → ⊥) → g q x ≡ f q x

same_first : {B : Type 0} (y z : B) (ys zs : List B) → y ≡ z → ys ≡ zs → y ∷ ys ≡ z ∷ zs
same_first {B} y z ys zs a b = ap (λ (w : B). w ∷ ys) a ∙ ap (λ (ws : List B). z ∷ ws) b

pub same_behind : {A B : Type 0} (f g : ℕ → A → B) (p n : ℕ) (xs : List A) → p < n → SameElsewhere p f g → by_place f n xs ≡ by_place g n xs
same_behind f g p n [] lt same = refl
same_behind f g p n (x ∷ xs) lt same =
    same_first (f n x) (g n x) (by_place f (n + 1) xs) (by_place g (n + 1) xs) (sym (same n x (λ is. absurd (omega (lt, is, arith))))) (same_behind f g p (n + 1) xs (omega (lt, arith)) same)

-- the element at one place is set anew
pub set_there : {A B : Type 0} (f g : ℕ → A → B) (v : B) (p n : ℕ) (xs : List A) (k : ℕ) → p ≡ n + k → ((q : ℕ) (x : A) → q ≡ p → g q x ≡ v) → SameElsewhere p f g
    → slice_set (by_place f n xs) k v ≡ by_place g n xs
set_there f g v p n [] k there here same = refl
set_there f g v p n (x ∷ xs) zero there here same =
    same_first v (g n x) (by_place f (n + 1) xs) (by_place g (n + 1) xs) (sym (here n x (omega (there, arith)))) (same_behind f g p (n + 1) xs (omega (there, arith)) same)
set_there f g v p n (x ∷ xs) (suc k) there here same =
    same_first (f n x) (g n x) (slice_set (by_place f (n + 1) xs) k v) (by_place g (n + 1) xs) (sym (same n x (λ is. absurd (omega (there, is, arith))))) (set_there f g v p (n + 1) xs k (omega (there, arith)) here same)

-- the element at one place is changed, if there is one
abbrev pub changed : {B : Type 0} → (B → B) → List B → ℕ → Option B → List B
changed change ys k None = ys
changed change ys k (Some y) = slice_set ys k (change y)

deeper : {B : Type 0} (change : B → B) (y : B) (ys : List B) (k : ℕ) (o : Option B) → changed change (y ∷ ys) (suc k) o ≡ y ∷ changed change ys k o
deeper change y ys k None = refl
deeper change y ys k (Some z) = refl

pub changed_there : {A B : Type 0} (f g : ℕ → A → B) (change : B → B) (p n : ℕ) (xs : List A) (k : ℕ) → p ≡ n + k → ((q : ℕ) (x : A) → q ≡ p → g q x ≡ change (f q x)) → SameElsewhere p f g
    → changed change (by_place f n xs) k (slice_get (by_place f n xs) k) ≡ by_place g n xs
changed_there f g change p n [] k there here same = refl
changed_there f g change p n (x ∷ xs) zero there here same =
    same_first (change (f n x)) (g n x) (by_place f (n + 1) xs) (by_place g (n + 1) xs) (sym (here n x (omega (there, arith)))) (same_behind f g p (n + 1) xs (omega (there, arith)) same)
changed_there f g change p n (x ∷ xs) (suc k) there here same =
    deeper change (f n x) (by_place f (n + 1) xs) k (slice_get (by_place f (n + 1) xs) k)
    ∙ same_first (f n x) (g n x) (changed change (by_place f (n + 1) xs) k (slice_get (by_place f (n + 1) xs) k)) (by_place g (n + 1) xs)
    (sym (same n x (λ is. absurd (omega (there, is, arith))))) (changed_there f g change p (n + 1) xs k (omega (there, arith)) here same)
