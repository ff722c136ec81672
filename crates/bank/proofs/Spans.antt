-- Bytes that stand in an area.
use Rattle.std.proofs.Common.{◌≡◌, ◌<◌, ◌≤◌, ℕ, ◌+◌, List, [], ◌∷◌, ◌++◌, length, refl, sym, ◌∙◌, subst, ap, arith, get_or, suc}
use Rattle.bank.specs.Content.{Content, Stands}

at : (c : Content) (xs : List ℕ) (p q : ℕ) → p ≡ q → Stands c p xs → Stands c q xs
at c xs p q e h = subst (λ (n : ℕ). Stands c n xs) e h

-- in front, and behind
pub Stands-front : (c : Content) (p : ℕ) (xs ys : List ℕ) → Stands c p (xs ++ ys) → Stands c p xs
Stands-front c p [] ys h = tt
Stands-front c p (x ∷ xs) ys h = (h.0, Stands-front c (p + 1) xs ys h.1)

pub Stands-back : (c : Content) (p : ℕ) (xs ys : List ℕ) → Stands c p (xs ++ ys) → Stands c (p + length xs) ys
Stands-back c p [] ys h = at c ys p (p + 0) (omega arith) h
Stands-back c p (x ∷ xs) ys h = at c ys (p + 1 + length xs) (p + length (x ∷ xs)) (omega arith) (Stands-back c (p + 1) xs ys h.1)

pub Stands-append : (c : Content) (p : ℕ) (xs ys : List ℕ) → Stands c p xs → Stands c (p + length xs) ys → Stands c p (xs ++ ys)
Stands-append c p [] ys h t = at c ys (p + 0) p (omega arith) t
Stands-append c p (x ∷ xs) ys h t = (h.0, Stands-append c (p + 1) xs ys h.1 (at c ys (p + length (x ∷ xs)) (p + 1 + length xs) (omega arith) t))

-- what is the same there
pub Stands-same : (c d : Content) (p : ℕ) (xs : List ℕ) → ((k : ℕ) → p ≤ k → k < p + length xs → d k ≡ c k) → Stands c p xs → Stands d p xs
Stands-same c d p [] same h = tt
Stands-same c d p (x ∷ xs) same h = (
  same p (omega arith) (omega arith) ∙ h.0,
  Stands-same c d (p + 1) xs (λ k low high. same k (omega (arith, low)) (omega (arith, high))) h.1,
)

-- only one list of its length stands there
pub Stands-only : (c : Content) (p : ℕ) (xs ys : List ℕ) → length xs ≡ length ys → Stands c p xs → Stands c p ys → xs ≡ ys
Stands-only c p [] [] e h k = refl
Stands-only c p [] (y ∷ ys) e h k = absurd (omega arith)
Stands-only c p (x ∷ xs) [] e h k = absurd (omega arith)
Stands-only c p (x ∷ xs) (y ∷ ys) e h k =
    let head : x ≡ y = sym h.0 ∙ k.0 in
    let tail : xs ≡ ys = Stands-only c (p + 1) xs ys (omega arith) h.1 k.1 in
    cc

-- byte by byte
pub Stands-each : (c : Content) (p : ℕ) (xs : List ℕ) → ((k : ℕ) → k < length xs → c (p + k) ≡ get_or xs k 0) → Stands c p xs
Stands-each c p [] each = tt
Stands-each c p (x ∷ xs) each =
    let here : p + 0 ≡ p = omega arith in (
      ap c (sym here) ∙ each 0 (omega arith),
      Stands-each c (p + 1) xs (λ k lt. let there : p + 1 + k ≡ p + suc k = omega arith in ap c there ∙ each (suc k) (omega (arith, lt))),
    )
