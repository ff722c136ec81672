-- Bytes of an area: a function from places to bytes.
use Rattle.std.specs.Prelude.{◌≡◌, ◌⊎◌, ℕ, ◌+◌, ◌<◌, ◌≤◌, List, [], ◌∷◌}

-- what stands in an area, at each place
abbrev pub Content : Type 0
Content = ℕ → ℕ

-- what stands in each area of a store
abbrev pub Image : Type 0
Image = ℕ → Content

-- these bytes stand from this place on
abbrev pub Stands : Content → ℕ → List ℕ → Type 0
Stands c p [] = Unit {0}
Stands c p (b ∷ bytes) = (c p ≡ b) × Stands c (p + 1) bytes

-- the same at every place
abbrev pub Same : Content → Content → Type 0
Same c d = (k : ℕ) → c k ≡ d k

-- the same outside n bytes from a place on
abbrev pub SameOutside : ℕ → ℕ → Content → Content → Type 0
SameOutside p n c d = (k : ℕ) → (k < p) ⊎ (p + n ≤ k) → d k ≡ c k
