-- Ages: a text cut behind each suffix, one group after the other.
use Rattle.std.proofs.Common.{◌≡◌, ℕ, suc, ◌+◌, ◌^◌, ◌<◌, ◌≤◌, min, Bool, true, false, cond, ltb, List, [], ◌∷◌, length, take, drop, Option, Some, None, Ok, Err, refl, sym, ap, subst, ◌∙◌, arith, inl, inr}
use Rattle.std.specs.Prelude.{position, not, ◌⊎◌}
use Rattle.std.specs.List.{position_or_len, onto_first}
use Rattle.std.proofs.lemmas.Bool.{ltb-true, ltb-false, le-ltb}
use Rattle.site_text.specs.declared.refusal.TextRefusal.TheVariants.{BadAge, Overflow}
use Rattle.site_text.specs.Ages.{is_unit, groups_of, group_seconds, plus, sum_of, age_in_seconds}
use Rattle.site_text.specs.NumberSteps.{capped}
use Rattle.site_text.specs.Numbers.{below, number_in}

abbrev CutAt : List ℕ → ℕ → Type 0
CutAt bs at = groups_of bs ≡ take (suc at) bs ∷ groups_of (drop (suc at) bs)

group_step : (b : ℕ) (bs : List ℕ) (t : Bool) → is_unit b ≡ t → (position_or_len is_unit bs < length bs → CutAt bs (position_or_len is_unit bs))
    → cond (not t) (1 + position_or_len is_unit bs) 0 < length (b ∷ bs) → CutAt (b ∷ bs) (cond (not t) (1 + position_or_len is_unit bs) 0)
unfolding groups_of
group_step b bs true is rest lt = rw is refl
group_step b bs false is rest lt =
    let here : groups_of bs ≡ take (suc (position_or_len is_unit bs)) bs ∷ groups_of (drop (suc (position_or_len is_unit bs)) bs) = rest (omega arith) in
    let one : 1 + position_or_len is_unit bs ≡ suc (position_or_len is_unit bs) = omega arith in
    rw (is, here, one) refl

cut : (bs : List ℕ) → position_or_len is_unit bs < length bs → CutAt bs (position_or_len is_unit bs)
cut [] lt = absurd (omega arith)
cut (b ∷ bs) lt = group_step b bs (is_unit b) refl (cut bs) lt

-- ---- sums

pub record Sums (field : List ℕ) (sum : ℕ) (rest : List ℕ) : Type 0 where
  pub so_far : capped (plus (Some sum) (sum_of (groups_of rest))) ≡ capped (sum_of (groups_of field))
  pub small : sum ≤ 2 ^ 40

abbrev some : ℕ → Option ℕ
some n = Some n

plus-zero : (o : Option ℕ) → plus (Some 0) o ≡ o
plus-zero (Some n) = ap some (omega arith)
plus-zero None = refl

pub starts : (field : List ℕ) → Sums field 0 field
starts field = record { so_far = ap capped (plus-zero (sum_of (groups_of field))); small = omega arith }

min_more : (cap s n m : ℕ) → min (min (s + n) cap + m) cap ≡ min (s + (n + m)) cap
min_more cap s n m = omega arith

more_is : (sum more : ℕ) (g rest : Option ℕ) → capped (plus (Some sum) g) ≡ Some more → (capped (plus (Some more) rest) ≡ capped (plus (Some sum) (plus g rest))) × (more ≤ 2 ^ 40)
more_is sum more (Some n) rest is = go rest
  where
    is_more : min (sum + n) (2 ^ 40) ≡ more
    is_more = cc

    go : (rest : Option ℕ) → (capped (plus (Some more) rest) ≡ capped (plus (Some sum) (plus (Some n) rest))) × (more ≤ 2 ^ 40)
    go (Some m) = (ap some (let e = is_more in omega arith), let e = is_more in omega arith)
    go None = (refl, let e = is_more in omega arith)
more_is sum more None rest is = absurd cc

bad_is : (sum : ℕ) (g rest : Option ℕ) → capped (plus (Some sum) g) ≡ None → capped (plus (Some sum) (plus g rest)) ≡ None
bad_is sum (Some n) rest is = absurd cc
bad_is sum None rest is = refl

place_is : (bs : List ℕ) (b : Bool) (n m : ℕ) → ltb n (length bs) ≡ b → cond b (Some n) None ≡ some m → (n < length bs) × (n ≡ m)
place_is bs true n m l e = (ltb-true _ _ l, cc)
place_is bs false n m l e = absurd cc

found_at : (bs : List ℕ) (at : ℕ) → position is_unit bs ≡ Some at → CutAt bs at
found_at bs at is =
    let f = place_is bs (ltb (position_or_len is_unit bs) (length bs)) (position_or_len is_unit bs) at refl is in
    subst (CutAt bs) f.1 (cut bs f.0)

pub goes_on : (field : List ℕ) (sum more : ℕ) (rest : List ℕ) (at : ℕ) → Sums field sum rest → position is_unit rest ≡ Some at → capped (plus (Some sum) (group_seconds (take (suc at) rest))) ≡ Some more → Sums field more (drop (suc at) rest)
unfolding sum_of
goes_on field sum more rest at s is added =
    let m = more_is sum more (group_seconds (take (suc at) rest)) (sum_of (groups_of (drop (suc at) rest))) added in
    record { so_far = m.0 ∙ ap (λ gs. capped (plus (Some sum) (sum_of gs))) (sym (found_at rest at is)) ∙ s.so_far; small = m.1 }

bad_form : (o : Option ℕ) → capped o ≡ None → below BadAge (2 ^ 40) o ≡ Err BadAge
bad_form (Some n) is = absurd cc
bad_form None is = refl

pub is_bad : (field : List ℕ) (sum : ℕ) (rest : List ℕ) (at : ℕ) → Sums field sum rest → position is_unit rest ≡ Some at → capped (plus (Some sum) (group_seconds (take (suc at) rest))) ≡ None → below BadAge (2 ^ 40) (sum_of (groups_of field)) ≡ Err BadAge
unfolding sum_of
is_bad field sum rest at s is none =
    bad_form (sum_of (groups_of field)) (sym s.so_far ∙ ap (λ gs. capped (plus (Some sum) (sum_of gs))) (found_at rest at is) ∙ bad_is sum (group_seconds (take (suc at) rest)) (sum_of (groups_of (drop (suc at) rest))) none)

pub is_bad_last : (field : List ℕ) (sum : ℕ) (rest : List ℕ) → Sums field sum rest → capped (plus (Some sum) (sum_of (groups_of rest))) ≡ None → below BadAge (2 ^ 40) (sum_of (groups_of field)) ≡ Err BadAge
is_bad_last field sum rest s none = bad_form (sum_of (groups_of field)) (sym s.so_far ∙ none)

judged : (o : Option ℕ) (n : ℕ) → capped o ≡ Some n → below BadAge (2 ^ 40) o ≡ cond (ltb n (2 ^ 40)) (Ok n) (Err Overflow)
judged None n is = absurd cc
judged (Some m) n is = go (ltb m (2 ^ 40)) refl
  where
    is_min : min m (2 ^ 40) ≡ n
    is_min = cc

    go : (b : Bool) → ltb m (2 ^ 40) ≡ b → cond (ltb m (2 ^ 40)) (Ok m) (Err Overflow) ≡ cond (ltb n (2 ^ 40)) (Ok n) (Err Overflow)
    go true is = let lt = ltb-true _ _ is in let same : m ≡ n = (let e = is_min in omega arith) in rw (← same) refl
    go false is = let le = ltb-false _ _ is in let big : ltb n (2 ^ 40) ≡ false = le-ltb _ _ (let e = is_min in omega arith) in rw (is, big) refl

pub is_sum : (field : List ℕ) (sum : ℕ) (rest : List ℕ) (n : ℕ) → Sums field sum rest → capped (plus (Some sum) (sum_of (groups_of rest))) ≡ Some n → below BadAge (2 ^ 40) (sum_of (groups_of field)) ≡ cond (ltb n (2 ^ 40)) (Ok n) (Err Overflow)
is_sum field sum rest n s some-is = judged (sum_of (groups_of field)) n (sym s.so_far ∙ some-is)

-- ---- the last group, without a suffix

uncut_step : (b : ℕ) (bs : List ℕ) (t : Bool) → is_unit b ≡ t → (length bs ≤ position_or_len is_unit bs → (bs ≡ []) ⊎ (groups_of bs ≡ bs ∷ [])) → length (b ∷ bs) ≤ cond (not t) (1 + position_or_len is_unit bs) 0 → groups_of (b ∷ bs) ≡ (b ∷ bs) ∷ []
unfolding groups_of
uncut_step b bs true is rest le = absurd (omega arith)
uncut_step b bs false is rest le = rw is (go (rest (omega arith)))
  where
    go : (bs ≡ []) ⊎ (groups_of bs ≡ bs ∷ []) → onto_first b (groups_of bs) ≡ (b ∷ bs) ∷ []
    go (inl none) = rw none refl
    go (inr one) = rw one refl

uncut : (bs : List ℕ) → length bs ≤ position_or_len is_unit bs → (bs ≡ []) ⊎ (groups_of bs ≡ bs ∷ [])
uncut [] le = inl refl
uncut (b ∷ bs) le = inr (uncut_step b bs (is_unit b) refl (uncut bs) le)

past_all : (bs : List ℕ) (b : Bool) (n : ℕ) → ltb n (length bs) ≡ b → cond b (Some n) None ≡ None → length bs ≤ n
past_all bs true n l e = absurd cc
past_all bs false n l e = ltb-false _ _ l

plus_nothing : (sum : ℕ) (g : Option ℕ) → capped (plus (Some sum) g) ≡ capped (plus (Some sum) (plus g (Some 0)))
plus_nothing sum (Some n) = ap some (omega arith)
plus_nothing sum None = refl

pub last_group : (sum : ℕ) (rest : List ℕ) → 0 < length rest → position is_unit rest ≡ None → capped (plus (Some sum) (group_seconds rest)) ≡ capped (plus (Some sum) (sum_of (groups_of rest)))
unfolding sum_of
last_group sum rest full is = go (uncut rest (past_all rest (ltb (position_or_len is_unit rest) (length rest)) (position_or_len is_unit rest) refl is))
  where
    go : (rest ≡ []) ⊎ (groups_of rest ≡ rest ∷ []) → capped (plus (Some sum) (group_seconds rest)) ≡ capped (plus (Some sum) (sum_of (groups_of rest)))
    go (inl none) = let e = ap length none in absurd (omega arith)
    go (inr one) = plus_nothing sum (group_seconds rest) ∙ ap (λ gs. capped (plus (Some sum) (sum_of gs))) (sym one)

pub no_group : (sum : ℕ) (rest : List ℕ) → length rest ≡ 0 → sum ≤ 2 ^ 40 → some sum ≡ capped (plus (Some sum) (sum_of (groups_of rest)))
unfolding groups_of sum_of
no_group sum [] is small = ap some (omega arith)
no_group sum (b ∷ bs) is small = absurd (omega arith)

pub empty_group : (group : List ℕ) → length group ≡ 0 → None ≡ capped (group_seconds group)
unfolding group_seconds number_in
empty_group [] is = refl
empty_group (b ∷ bs) is = absurd (omega arith)

pub age_is : (field : List ℕ) → 0 < length field → age_in_seconds field ≡ sum_of (groups_of field)
age_is [] full = absurd (omega arith)
age_is (b ∷ bs) full = refl
