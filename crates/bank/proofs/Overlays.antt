-- A piece with what a call wrote put into it.
use Rattle.std.proofs.Common.{◌≡◌, inl, inr, ℕ, ◌+◌, ◌-◌, ◌^◌, ◌<◌, ◌≤◌, Bool, true, false, ◌&&◌, nat_le, nat_lt, cond, List, ◌++◌, length, get_or, take, drop, min, max, refl, sym, ◌∙◌, ap, arith, length-take, length-drop}
use Rattle.std.proofs.lemmas.Bool.{cases_lt}
use Rattle.std.proofs.lemmas.Bool.Decides.{nat_tests}
use Rattle.std.proofs.lemmas.List.{get_or_append_left, get_or-append_right, get_or-take, get_or-drop}
use borrow.Rule.Slice.PartMut.{put_mid, post_of}

module _ (a k : ℕ) (xs ys : List ℕ) (fits : a + k ≤ length xs) (same : length ys ≡ k) where
  front : length (take a xs) ≡ a
  front = grind (arith, length-take)

  pub put_below : (j : ℕ) → j < a → get_or (put_mid a k xs ys) j 0 ≡ get_or xs j 0
  put_below j lt = get_or_append_left (take a xs) (ys ++ post_of a k xs) 0 j (omega (arith, front)) ∙ get_or-take a xs j 0 lt

  pub put_within : (j : ℕ) → a ≤ j → j < a + k → get_or (put_mid a k xs ys) j 0 ≡ get_or ys (j - a) 0
  put_within j low high =
      get_or-append_right (take a xs) (ys ++ post_of a k xs) a j 0 front low
      ∙ get_or_append_left ys (post_of a k xs) 0 (j - a) (omega arith)

  pub put_above : (j : ℕ) → a + k ≤ j → get_or (put_mid a k xs ys) j 0 ≡ get_or xs j 0
  put_above j high =
      get_or-append_right (take a xs) (ys ++ post_of a k xs) a j 0 front (omega arith)
      ∙ get_or-append_right ys (post_of a k xs) k (j - a) 0 same (omega arith)
      ∙ get_or-drop k (drop a xs) (j - a - k) 0 ∙ get_or-drop a xs (k + (j - a - k)) 0
      ∙ ap (λ (n : ℕ). get_or xs n 0) (omega arith)

covered : (w le lt : Bool) → w ≡ true → le ≡ true → lt ≡ true → w && le && lt ≡ true
covered w le lt a b c = rw (a, b, c) refl

-- the overlap of what stands from p on with a piece that begins at q, put into the piece
module _ (p q from fin : ℕ) (bytes piece ys : List ℕ) (room : q + length piece < 2 ^ 63) (begins : from ≡ max p q)
    (ends : fin ≡ min (min (p + length bytes) 18446744073709551615) (q + length piece)) (some : from < fin)
    (ours : ys ≡ take (fin - p - (from - p)) (drop (from - p) bytes)) where
  fits : from - q + (fin - q - (from - q)) ≤ length piece
  fits = omega arith

  inside : from - p + (fin - p - (from - p)) ≤ length bytes
  inside = omega arith

  same : length ys ≡ fin - q - (from - q)
  same = ap length ours ∙ grind (arith, length-take, length-drop, inside)

  pub overlaid : (w : Bool) → w ≡ true → (k : ℕ) → k < length piece → get_or (put_mid (from - q) (fin - q - (from - q)) piece ys) k 0
      ≡ cond (w && nat_le p (q + k) && nat_lt (q + k) (p + length bytes)) (get_or bytes (q + k - p) 0) (get_or piece k 0)
  overlaid w is k lt = elim (cases_lt (q + k) from) [
    | inl below ↦ put_below (from - q) (fin - q - (from - q)) piece ys fits same k (omega arith)
        ∙ sym (ap (λ (b : Bool). cond b (get_or bytes (q + k - p) 0) (get_or piece k 0)) (let t : w && nat_le p (q + k) && nat_lt (q + k) (p + length bytes) ≡ false = grind (arith, nat_tests) in t))
    | inr low ↦ elim (cases_lt (q + k) fin) [
      | inr above ↦ put_above (from - q) (fin - q - (from - q)) piece ys fits same k (omega arith)
          ∙ sym (ap (λ (b : Bool). cond b (get_or bytes (q + k - p) 0) (get_or piece k 0)) (let t : w && nat_le p (q + k) && nat_lt (q + k) (p + length bytes) ≡ false = grind (arith, nat_tests) in t))
      | inl high ↦ put_within (from - q) (fin - q - (from - q)) piece ys fits same k (omega arith) (omega arith)
          ∙ ap (λ (l : List ℕ). get_or l (k - (from - q)) 0) ours
          ∙ get_or-take (fin - p - (from - p)) (drop (from - p) bytes) (k - (from - q)) 0 (omega arith)
          ∙ get_or-drop (from - p) bytes (k - (from - q)) 0
          ∙ ap (λ (n : ℕ). get_or bytes n 0) (let e : from - p + (k - (from - q)) ≡ q + k - p = omega arith in e)
          ∙ sym (ap (λ (b : Bool). cond b (get_or bytes (q + k - p) 0) (get_or piece k 0)) (covered w _ _ is (grind (arith, nat_tests)) (grind (arith, nat_tests))))
    ]
  ]
