-- Cutting a list at the first element that passes.
use Rattle.std.proofs.Common.{◌≡◌, ℕ, suc, ◌+◌, ◌<◌, ◌≤◌, Bool, true, false, cond, ltb, eqb, List, [], ◌∷◌, ◌++◌, length, take, drop, Some, None, refl, sym, ap, subst, ◌∙◌, append_assoc, arith}
use Rattle.std.specs.Prelude.{position, filter, not, ◌||◌}
use Rattle.std.specs.List.{slice_split, position_or_len, onto_first, list_any, before_first, after_first}
use Rattle.std.specs.Str.Lines.{lines, lines_of_parts, strip_carriage_return}
use Rattle.std.proofs.lemmas.List.Splits.{slice_split_first, slice_split-cons_no}
use Rattle.std.proofs.lemmas.Bool.{ltb-true, ltb-false}
use Rattle.std.proofs.Math.Dec.{eqb-suc-zero}
use Rattle.site_text.specs.Lines.{is_blank, is_empty}

pub record FoundAt {X : Type 0} (p : X → Bool) (xs : List X) (at : ℕ) : Type 0 where
  pub within : at < length xs
  pub cut : slice_split p xs ≡ take at xs ∷ slice_split p (drop (at + 1) xs)

place_is : {X : Type 0} (p : X → Bool) (xs : List X) (b : Bool) (n m : ℕ) → ltb n (length xs) ≡ b → cond b (Some n) None ≡ Some m → (n < length xs) × (n ≡ m)
place_is p xs true n m l e = (ltb-true _ _ l, cc)
place_is p xs false n m l e = absurd cc

pub at_some : {X : Type 0} (p : X → Bool) (xs : List X) (at : ℕ) → position p xs ≡ Some at → FoundAt p xs at
at_some p [] at is = absurd cc
at_some p (x ∷ xs) at is =
    let found = place_is p (x ∷ xs) (ltb (position_or_len p (x ∷ xs)) (length (x ∷ xs))) (position_or_len p (x ∷ xs)) at refl is in
    subst (λ (n : ℕ). FoundAt p (x ∷ xs) n) found.1 (record { within = found.0; cut = slice_split_first p (x ∷ xs) x found.0 })

whole_step : {X : Type 0} (p : X → Bool) (x : X) (xs : List X) (b : Bool) → (length xs ≤ position_or_len p xs → slice_split p xs ≡ xs ∷ []) → p x ≡ b → length (x ∷ xs) ≤ cond (not b) (1 + position_or_len p xs) 0 → slice_split p (x ∷ xs) ≡ (x ∷ xs) ∷ []
whole_step p x xs true rest is h = absurd (omega arith)
whole_step p x xs false rest is h = let e = rest (omega arith) in slice_split-cons_no p x xs is ∙ rw e refl

whole : {X : Type 0} (p : X → Bool) (xs : List X) → length xs ≤ position_or_len p xs → slice_split p xs ≡ xs ∷ []
whole p [] h = refl
whole p (x ∷ xs) h = whole_step p x xs (p x) (whole p xs) refl h

no_place : {X : Type 0} (p : X → Bool) (xs : List X) (b : Bool) (n : ℕ) → ltb n (length xs) ≡ b → cond b (Some n) None ≡ None → length xs ≤ n
no_place p xs true n l e = absurd cc
no_place p xs false n l e = ltb-false _ _ l

pub at_none : {X : Type 0} (p : X → Bool) (xs : List X) → position p xs ≡ None → slice_split p xs ≡ xs ∷ []
at_none p xs is = whole p xs (no_place p xs (ltb (position_or_len p xs) (length xs)) (position_or_len p xs) refl is)

pub filter_cons : {X : Type 0} (p : X → Bool) (x : X) (xs : List X) → filter p (x ∷ xs) ≡ filter p (x ∷ []) ++ filter p xs
filter_cons p x xs = elim (p x) as (λ b. cond b (x ∷ filter p xs) (filter p xs) ≡ cond b (x ∷ []) [] ++ filter p xs) [ true ↦ refl | false ↦ refl ]

-- the lines of a text whose first line feed is known
never_none : (b : ℕ) (t : Bool) (ps : List (List ℕ)) → [] ≡ cond t ([] ∷ ps) (onto_first b ps) → ⊥
never_none b true ps is = cc
never_none b false [] is = cc
never_none b false (p ∷ ps) is = cc

never_empty : (bs : List ℕ) → [] ≡ slice_split (λ b. eqb b 10) bs → ⊥
never_empty [] is = cc
never_empty (b ∷ bs) is = never_none b (eqb b 10) (slice_split (λ b. eqb b 10) bs) is

parts_cons : (x : List ℕ) (ps : List (List ℕ)) (bs : List ℕ) → ps ≡ slice_split (λ b. eqb b 10) bs → lines_of_parts (x ∷ ps) ≡ strip_carriage_return x ∷ lines_of_parts ps
parts_cons x (p ∷ ps) bs is = refl
parts_cons x [] bs is = absurd (never_empty bs is)

pub lines_some : (text : List ℕ) (at : ℕ) → position (λ b. eqb b 10) text ≡ Some at → lines text ≡ strip_carriage_return (take at text) ∷ lines (drop (at + 1) text)
lines_some text at is =
    let found = at_some (λ (b : ℕ). eqb b 10) text at is in
    ap lines_of_parts found.cut ∙ parts_cons (take at text) (slice_split (λ b. eqb b 10) (drop (at + 1) text)) (drop (at + 1) text) refl

pub lines_none : (text : List ℕ) → 0 < length text → position (λ b. eqb b 10) text ≡ None → lines text ≡ text ∷ []
lines_none text some is = ap lines_of_parts (at_none (λ (b : ℕ). eqb b 10) text is) ∙ one text some
  where
    one : (text : List ℕ) → 0 < length text → lines_of_parts (text ∷ []) ≡ text ∷ []
    one [] some = absurd (omega arith)
    one (b ∷ bs) some = let e : eqb (suc (length bs)) 0 ≡ false = eqb-suc-zero (length bs) in rw e refl

-- the fields, one part after the other
abbrev kept : List (List ℕ) → List (List ℕ)
kept parts = filter (λ f. not (is_empty f)) parts

pub next_part : (found found' : List (List ℕ)) (rest : List ℕ) (at : ℕ) (all : List (List ℕ)) → position is_blank rest ≡ Some at → found' ≡ found ++ kept (take at rest ∷ [])
    → found ++ kept (slice_split is_blank rest) ≡ all → found' ++ kept (slice_split is_blank (drop (at + 1) rest)) ≡ all
next_part found found' rest at all is more so_far =
    let cut = (at_some is_blank rest at is).cut in
    let one : kept (slice_split is_blank rest) ≡ kept (take at rest ∷ []) ++ kept (slice_split is_blank (drop (at + 1) rest)) = ap kept cut ∙ filter_cons (λ f. not (is_empty f)) (take at rest) (slice_split is_blank (drop (at + 1) rest)) in
    rw more (append_assoc found (kept (take at rest ∷ [])) (kept (slice_split is_blank (drop (at + 1) rest))) ∙ ap (λ (t : List (List ℕ)). found ++ t) (sym one) ∙ so_far)

pub last_part : (found found' : List (List ℕ)) (rest : List ℕ) (all : List (List ℕ)) → position is_blank rest ≡ None → found' ≡ found ++ kept (rest ∷ [])
    → found ++ kept (slice_split is_blank rest) ≡ all → found' ≡ all
last_part found found' rest all is more so_far = more ∙ ap (λ (t : List (List ℕ)). found ++ kept t) (sym (at_none is_blank rest is)) ∙ so_far

-- a text around the first element that passes
some_passes_step : {X : Type 0} (p : X → Bool) (x : X) (xs : List X) (b : Bool) → p x ≡ b → (position_or_len p xs < length xs → list_any p xs ≡ true) → cond (not b) (1 + position_or_len p xs) 0 < length (x ∷ xs) → (b || list_any p xs) ≡ true
some_passes_step p x xs true is rest lt = refl
some_passes_step p x xs false is rest lt = rest (omega arith)

some_passes : {X : Type 0} (p : X → Bool) (xs : List X) → position_or_len p xs < length xs → list_any p xs ≡ true
some_passes p [] lt = absurd (omega arith)
some_passes p (x ∷ xs) lt = some_passes_step p x xs (p x) refl (some_passes p xs) lt

none_passes_step : {X : Type 0} (p : X → Bool) (x : X) (xs : List X) (b : Bool) → p x ≡ b → (length xs ≤ position_or_len p xs → list_any p xs ≡ false) → length (x ∷ xs) ≤ cond (not b) (1 + position_or_len p xs) 0 → (b || list_any p xs) ≡ false
none_passes_step p x xs true is rest le = absurd (omega arith)
none_passes_step p x xs false is rest le = rest (omega arith)

none_passes : {X : Type 0} (p : X → Bool) (xs : List X) → length xs ≤ position_or_len p xs → list_any p xs ≡ false
none_passes p [] le = refl
none_passes p (x ∷ xs) le = none_passes_step p x xs (p x) refl (none_passes p xs) le

pub around_some : {X : Type 0} (p : X → Bool) (xs : List X) (at : ℕ) → position p xs ≡ Some at → (list_any p xs ≡ true) × (before_first p xs ≡ take at xs) × (after_first p xs ≡ drop (at + 1) xs)
around_some p xs at is =
    let found = place_is p xs (ltb (position_or_len p xs) (length xs)) (position_or_len p xs) at refl is in
    (some_passes p xs found.0, ap (λ (n : ℕ). take n xs) found.1, ap (λ (n : ℕ). drop (n + 1) xs) found.1)

pub around_none : {X : Type 0} (p : X → Bool) (xs : List X) → position p xs ≡ None → list_any p xs ≡ false
around_none p xs is = none_passes p xs (no_place p xs (ltb (position_or_len p xs) (length xs)) (position_or_len p xs) refl is)
