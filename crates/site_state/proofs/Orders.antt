-- Lists whose elements stand in order: what an insert and a removal leave of them, place by place.
use Rattle.std.proofs.Common.{◌≡◌, ℕ, ◌+◌, ◌-◌, ◌<◌, ◌≤◌, List, length, get_or, refl, sym, ◌∙◌, subst, arith, inl, inr}
use Rattle.std.specs.List.{insert, remove, AllPairs, Contains}
use Rattle.std.proofs.lemmas.Bool.{cases_lt, cases_eq}
use Rattle.std.proofs.lemmas.List.Edits.{length-insert, get_or-insert_below, get_or-insert_at, get_or-insert_above, length-remove, get_or-remove_below, get_or-remove_above}

-- two places of which neither is below the other are one
pub one_place : (j k : ℕ) → (j < k → ⊥) → (k < j → ⊥) → j ≡ k
one_place j k not_below not_above = elim (cases_lt j k) [
  | inl below ↦ absurd (not_below below)
  | inr from ↦ elim (cases_lt k j) [ inl above ↦ absurd (not_above above) | inr upto ↦ omega (arith, from, upto) ]
]

module _ {X : Type 0} (xs : List X) (i : ℕ) where
  -- what stands at a place behind an insert: the element that stood there, the new one, or the one that stood a place before
  module _ (y : X) (le : i ≤ length xs) (G : X → Type 0) where
    pub behind_insert : (k : ℕ) (d : X) → k < length (insert xs i y) → (k < i → G (get_or xs k d)) → (k ≡ i → G y)
        → ((j : ℕ) → k ≡ j + 1 → i ≤ j → j < length xs → G (get_or xs j d)) → G (get_or (insert xs i y) k d)
    behind_insert k d lt before at after = elim (cases_lt k i) [
      | inl below ↦ subst G (sym (get_or-insert_below xs i y d k below le)) (before below)
      | inr from ↦ elim (cases_eq k i) [
        | inl same ↦ subst (λ n. G (get_or (insert xs i y) n d)) (sym same) (subst G (sym (get_or-insert_at xs i y d le)) (at same))
        | inr differs ↦
            let above : i < k = elim (cases_lt i k) [ inl lower ↦ lower | inr upto ↦ absurd (differs (omega (arith, from, upto))) ] in
            let step : (k - 1) + 1 ≡ k = omega (arith, above) in
            subst (λ n. G (get_or (insert xs i y) n d)) step
            (subst G (sym (get_or-insert_above xs i y d (k - 1) (omega (arith, above)) le))
            (after (k - 1) (sym step) (omega (arith, above)) (omega (arith, above, lt, length-insert xs i y le))))
      ]
    ]

  -- what stands at a place behind a removal stood at another place than the removed one
  pub behind_remove : (G : X → Type 0) (k : ℕ) (d : X) → i < length xs → k < length (remove xs i) → ((j : ℕ) → j < length xs → (j ≡ i → ⊥) → G (get_or xs j d)) → G (get_or (remove xs i) k d)
  behind_remove G k d lt in_range each = elim (cases_lt k i) [
    | inl below ↦ subst G (sym (get_or-remove_below xs i d k below lt)) (each k (omega (arith, below, lt)) (λ same. omega (arith, same, below)))
    | inr from ↦ subst G (sym (get_or-remove_above xs i d k from lt))
        (each (k + 1) (omega (arith, in_range, length-remove xs i lt)) (λ same. omega (arith, same, from)))
  ]

  -- and each such element still stands somewhere
  pub still_there : (k : ℕ) → i < length xs → k < length xs → (k ≡ i → ⊥) → (j : ℕ) × (j < length (remove xs i)) × ((d : X) → get_or (remove xs i) j d ≡ get_or xs k d)
  still_there k lt in_range differs = elim (cases_lt k i) [
    | inl below ↦ (k, omega (arith, below, lt, length-remove xs i lt), λ d. get_or-remove_below xs i d k below lt)
    | inr from ↦
        let above : i < k = elim (cases_lt i k) [ inl lower ↦ lower | inr upto ↦ absurd (differs (omega (arith, from, upto))) ] in
        let step : (k - 1) + 1 ≡ k = omega (arith, above) in (
          k - 1,
          omega (arith, above, in_range, length-remove xs i lt),
          λ d. get_or-remove_above xs i d (k - 1) (omega (arith, above)) lt ∙ subst (λ n. get_or xs ((k - 1) + 1) d ≡ get_or xs n d) step refl,
        )
  ]

-- pairs stay in order where one more element goes between what it is to follow and what is to follow it
pub pairs-insert : {X : Type 0} (R : X → X → Type 0) (xs : List X) (i : ℕ) (y : X) → i ≤ length xs → AllPairs R xs
    → ((k : ℕ) (d : X) → k < i → R (get_or xs k d) y) → ((k : ℕ) (d : X) → i ≤ k → k < length xs → R y (get_or xs k d)) → AllPairs R (insert xs i y)
pairs-insert R xs i y le pairs before after a b d lt in_range =
    behind_insert xs i y le (λ e. R e (get_or (insert xs i y) b d)) a d (omega (arith, lt, in_range))
    (λ below. behind_insert xs i y le (R (get_or xs a d)) b d in_range
    (λ too. pairs a b d lt (omega (arith, too, le)))
    (λ at. before a d below)
    (λ j is from within. pairs a j d (omega (arith, below, from)) within))
    (λ at. behind_insert xs i y le (R y) b d in_range
    (λ too. absurd (omega (arith, too, at, lt)))
    (λ both. absurd (omega (arith, both, at, lt)))
    (λ j is from within. after j d from within))
    (λ k is from within. behind_insert xs i y le (R (get_or xs k d)) b d in_range
    (λ too. absurd (omega (arith, too, is, from, lt)))
    (λ both. absurd (omega (arith, both, is, from, lt)))
    (λ j is_too from_too within_too. pairs k j d (omega (arith, is, is_too, lt)) within_too))

-- what a list has it has behind an insert, and the new element too
pub contains-insert : {X : Type 0} (xs : List X) (i : ℕ) (y x : X) → i ≤ length xs → Contains xs x → Contains (insert xs i y) x
contains-insert xs i y x le there = elim (cases_lt there.0 i) [
  | inl below ↦ (there.0, omega (arith, there.1, length-insert xs i y le), get_or-insert_below xs i y x there.0 below le ∙ there.2)
  | inr from ↦ (there.0 + 1, omega (arith, there.1, length-insert xs i y le), get_or-insert_above xs i y x there.0 from le ∙ there.2)
]

pub contains-inserted : {X : Type 0} (xs : List X) (i : ℕ) (y : X) → i ≤ length xs → Contains (insert xs i y) y
contains-inserted xs i y le = (i, omega (arith, le, length-insert xs i y le), get_or-insert_at xs i y y le)
