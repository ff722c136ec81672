-- Moments to come.
use Rattle.std.specs.Prelude.{◌≡◌, ℕ, List, [], ◌∷◌, Option, Some, IfSome}

-- the next moment, and 0 where none is to come
abbrev pub next_moment : List ℕ → ℕ
next_moment [] = 0
next_moment (moment ∷ moments) = moment

-- the moments that are then to come: the last one is given again
abbrev pub moments_after : List ℕ → List ℕ
moments_after [] = []
moments_after (moment ∷ []) = moment ∷ []
moments_after (moment ∷ (next ∷ moments)) = next ∷ moments

-- a clock that tells its moments gave the next one
abbrev pub Gives : Option (List ℕ) → Option (List ℕ) → ℕ → Type 0
Gives old new moment = IfSome old (λ moments. (moment ≡ next_moment moments) × (new ≡ Some (moments_after moments)))
