-- Numbers of digits: they grow with each digit, and are below a power of ten.
use Rattle.std.proofs.Common.{◌≡◌, ℕ, suc, ◌+◌, ◌-◌, ◌*◌, ◌^◌, ◌<◌, ◌≤◌, Bool, true, false, cond, ltb, leb, List, [], ◌∷◌, length, drop, get_or, Option, Some, None, refl, sym, ap, ◌∙◌, arith}
use Rattle.std.specs.Prelude.{◌&&◌, option_and_then, IfSome}
use Rattle.std.specs.Char.{is_ascii_digit, digit_value}
use Rattle.std.specs.Str.{all_ascii_digits}
use Rattle.std.specs.Str.Parse.{digits_value_after}
use Rattle.std.proofs.lemmas.Bool.{ltb-true, ltb-false, leb-true, lt-ltb, le-ltb, lt-leb}
use Rattle.std.proofs.lemmas.Str.{digit_value_digit}
use Rattle.std.proofs.lemmas.List.{drop_more, drop_all}
use Rattle.std.proofs.Math.Nat.{pow-suc, pow-le-pow_right, mul-le-mul_left, mul_comm, mul-lt-mul_of_pos_right}
use Rattle.std.proofs.lemmas.Nat.{pow-add}
use Rattle.site_text.specs.Numbers.{has_length, number_in, within, number_within}
use Rattle.site_text.specs.NumberSteps.{fitting_from, with_digit}

pub grows : (n : ℕ) (ds : List ℕ) → n ≤ digits_value_after 10 n ds
grows n [] = omega arith
grows n (d ∷ ds) = omega (arith, grows (n * 10 + digit_value d) ds)

both : (a b : Bool) → (a && b) ≡ true → (a ≡ true) × (b ≡ true)
both true true is = (refl, refl)
both true false is = absurd cc
both false b is = absurd cc

digit_small : (b : ℕ) → is_ascii_digit b ≡ true → digit_value b < 10
digit_small b is =
    let range = both (leb 48 b) (leb b 57) is in
    let value = digit_value_digit b (leb-true _ _ range.0, leb-true _ _ range.1) in
    omega (arith, value, leb-true _ _ range.1)

ten_more : (n d : ℕ) → d < 10 → n * 10 + d + 1 ≤ (n + 1) * 10
ten_more n d lt = omega arith

regroup : (n p : ℕ) → (n + 1) * (p * 10) ≡ p * ((n + 1) * 10)
regroup n p = omega arith

pub small : (n : ℕ) (ds : List ℕ) → all_ascii_digits ds ≡ true → digits_value_after 10 n ds < (n + 1) * 10 ^ length ds
small n [] is = omega arith
small n (d ∷ ds) is =
    let parts = both (is_ascii_digit d) (all_ascii_digits ds) is in
    let more = small (n * 10 + digit_value d) ds parts.1 in
    let value = digit_small d parts.0 in
    let power : 10 ^ suc (length ds) ≡ 10 ^ length ds * 10 = pow-suc 10 (length ds) in
    let wider = mul-le-mul_left (10 ^ length ds) (ten_more n (digit_value d) value) in
    let left = mul_comm (n * 10 + digit_value d + 1) (10 ^ length ds) in
    let right : (n + 1) * 10 ^ suc (length ds) ≡ 10 ^ length ds * ((n + 1) * 10) = rw power (regroup n (10 ^ length ds)) in
    omega (arith, more, left, right, wider)

by_tests : (n b : ℕ) (ds : List ℕ) (digit fits : Bool) → is_ascii_digit b ≡ digit → ltb (n * 10 + digit_value b) (2 ^ 64) ≡ fits
    → fitting_from n (b ∷ ds) ≡ cond digit (cond fits (fitting_from (n * 10 + digit_value b) ds) None) None
unfolding fitting_from
by_tests n b ds false fits is lt = rw is refl
by_tests n b ds true true is lt = rw is refl
by_tests n b ds true false is lt =
    let big : ltb (digits_value_after 10 (n * 10 + digit_value b) ds) (2 ^ 64) ≡ false = le-ltb _ _ (omega (arith, ltb-false _ _ lt, grows (n * 10 + digit_value b) ds)) in
    rw (is, big) (elim (all_ascii_digits ds) as (λ t. cond (t && false) (Some (digits_value_after 10 (n * 10 + digit_value b) ds)) None ≡ None) [ true ↦ refl | false ↦ refl ])

step : (n b : ℕ) (ds : List ℕ) → fitting_from n (b ∷ ds) ≡ cond (is_ascii_digit b) (cond (ltb (n * 10 + digit_value b) (2 ^ 64)) (fitting_from (n * 10 + digit_value b) ds) None) None
step n b ds = by_tests n b ds (is_ascii_digit b) (ltb (n * 10 + digit_value b) (2 ^ 64)) refl refl

-- what the digits before place i have made of the number
pub record SoFar (digits : List ℕ) (i n : ℕ) : Type 0 where
  pub reads : fitting_from n (drop i digits) ≡ fitting_from 0 digits
  pub fits : n < 2 ^ 64

pub starts : (digits : List ℕ) → SoFar digits 0 0
starts digits = record { reads = refl; fits = omega arith }

here : (digits : List ℕ) (i n : ℕ) → i < length digits → SoFar digits i n
    → cond (is_ascii_digit (get_or digits i 0)) (cond (ltb (n * 10 + digit_value (get_or digits i 0)) (2 ^ 64)) (fitting_from (n * 10 + digit_value (get_or digits i 0)) (drop (i + 1) digits)) None) None ≡ fitting_from 0 digits
here digits i n lt so_far = sym (step n (get_or digits i 0) (drop (i + 1) digits)) ∙ sym (ap (fitting_from n) (drop_more digits i 0 lt)) ∙ so_far.reads

pub goes_on : (digits : List ℕ) (i n more : ℕ) → i < length digits → with_digit n (get_or digits i 0) ≡ Some more → SoFar digits i n → SoFar digits (i + 1) more
goes_on digits i n more lt is so_far = by_tests (is_ascii_digit (get_or digits i 0)) (ltb (n * 10 + digit_value (get_or digits i 0)) (2 ^ 64)) refl is (here digits i n lt so_far)
  where
    by_tests : (digit fits : Bool) → ltb (n * 10 + digit_value (get_or digits i 0)) (2 ^ 64) ≡ fits → cond (digit && fits) (Some (n * 10 + digit_value (get_or digits i 0))) None ≡ Some more
        → cond digit (cond fits (fitting_from (n * 10 + digit_value (get_or digits i 0)) (drop (i + 1) digits)) None) None ≡ fitting_from 0 digits
        → SoFar digits (i + 1) more
    by_tests true true small is found =
        let e : n * 10 + digit_value (get_or digits i 0) ≡ more = cc in
        record { reads = sym (ap (λ (v : ℕ). fitting_from v (drop (i + 1) digits)) e) ∙ found; fits = omega (arith, e, ltb-true _ _ small) }
    by_tests true false small is found = absurd cc
    by_tests false fits small is found = absurd cc

pub stops : (digits : List ℕ) (i n : ℕ) → i < length digits → with_digit n (get_or digits i 0) ≡ None → SoFar digits i n → None ≡ fitting_from 0 digits
stops digits i n lt is so_far = by_tests (is_ascii_digit (get_or digits i 0)) (ltb (n * 10 + digit_value (get_or digits i 0)) (2 ^ 64)) is (here digits i n lt so_far)
  where
    by_tests : (digit fits : Bool) → cond (digit && fits) (Some (n * 10 + digit_value (get_or digits i 0))) None ≡ None
        → cond digit (cond fits (fitting_from (n * 10 + digit_value (get_or digits i 0)) (drop (i + 1) digits)) None) None ≡ fitting_from 0 digits
        → None ≡ fitting_from 0 digits
    by_tests true true is found = absurd cc
    by_tests true false is found = found
    by_tests false fits is found = found

pub ends : (digits : List ℕ) (i n : ℕ) → length digits ≤ i → SoFar digits i n → Some n ≡ fitting_from 0 digits
unfolding fitting_from
ends digits i n le so_far =
    let last : fitting_from n (drop i digits) ≡ Some n = rw (drop_all i digits le, lt-ltb n (2 ^ 64) so_far.fits) refl in
    sym last ∙ so_far.reads

-- ---- whole numbers

pub no_number : (most : ℕ) (field : List ℕ) → has_length most field ≡ false → None ≡ number_in most field
unfolding number_in
no_number most field is = rw is refl

pub bounded : (most : ℕ) (field : List ℕ) (n : ℕ) → number_in most field ≡ Some n → n < 10 ^ length field
unfolding number_in
bounded most field n is = by_tests (has_length most field) (all_ascii_digits field) refl is
  where
    by_tests : (a b : Bool) → all_ascii_digits field ≡ b → cond (a && b) (Some (digits_value_after 10 0 field)) None ≡ Some n → n < 10 ^ length field
    by_tests true true digits is = let e : digits_value_after 10 0 field ≡ n = cc in omega (arith, e, small 0 field digits)
    by_tests true false digits is = absurd cc
    by_tests false b digits is = absurd cc

pub all_bounded : (most : ℕ) (field : List ℕ) (o : Option ℕ) → o ≡ number_in most field → IfSome o (λ n. n < 10 ^ length field)
all_bounded most field (Some n) is = bounded most field n (sym is)
all_bounded most field None is = tt

-- up to 19 digits fit
pub fits : (most : ℕ) (field : List ℕ) → most ≤ 19 → has_length most field ≡ true → fitting_from 0 field ≡ number_in most field
unfolding fitting_from number_in
fits most field le sized = rw sized (by_tests (all_ascii_digits field) refl)
  where
    by_tests : (b : Bool) → all_ascii_digits field ≡ b → cond (b && ltb (digits_value_after 10 0 field) (2 ^ 64)) (Some (digits_value_after 10 0 field)) None ≡ cond b (Some (digits_value_after 10 0 field)) None
    by_tests false digits = refl
    by_tests true digits =
        let most_is = (both (leb 1 (length field)) (leb (length field) most) sized).1 in
        let power = pow-le-pow_right {n = 10} (omega arith) {i = length field} {j = 19} (omega (arith, leb-true _ _ most_is)) in
        let lt : digits_value_after 10 0 field < 2 ^ 64 = omega (arith, small 0 field digits, power) in
        rw (lt-ltb _ _ lt) refl

-- what does not fit is outside each range
pub fits_within : (most low high : ℕ) (field : List ℕ) → high < 2 ^ 64 → has_length most field ≡ true → option_and_then (within low high) (fitting_from 0 field) ≡ number_within most low high field
unfolding fitting_from number_in number_within
fits_within most low high field lt sized = rw sized (by_tests (all_ascii_digits field) (ltb (digits_value_after 10 0 field) (2 ^ 64)) refl)
  where
    outside : (n : ℕ) → 2 ^ 64 ≤ n → None ≡ within low high n
    outside n le = rw (lt-leb n high (omega arith)) (elim (leb low n) as (λ t. None ≡ cond (t && false) (Some n) None) [ true ↦ refl | false ↦ refl ])

    by_tests : (b f : Bool) → ltb (digits_value_after 10 0 field) (2 ^ 64) ≡ f → option_and_then (within low high) (cond (b && f) (Some (digits_value_after 10 0 field)) None) ≡ option_and_then (within low high) (cond b (Some (digits_value_after 10 0 field)) None)
    by_tests false f is = refl
    by_tests true true is = refl
    by_tests true false is = outside (digits_value_after 10 0 field) (ltb-false _ _ is)

pub none_within : (most low high : ℕ) (field : List ℕ) → has_length most field ≡ false → None ≡ number_within most low high field
unfolding number_in number_within
none_within most low high field is = rw is refl

-- digits behind a point, moved to whole millionths
pub shifted_small : (n k scale : ℕ) → n < 10 ^ k → k ≤ 6 → scale ≡ 10 ^ (6 - k) → n * scale < 1000000
shifted_small n k scale lt le is =
    let all : k + (6 - k) ≡ 6 = omega arith in
    let whole : 10 ^ k * 10 ^ (6 - k) ≡ 1000000 = sym (pow-add 10 k (6 - k)) ∙ ap (λ (e : ℕ). 10 ^ e) all in
    let some : 0 < 10 ^ (6 - k) = omega (arith, pow-le-pow_right {n = 10} (omega arith) {i = 0} {j = 6 - k} (omega arith)) in
    rw is (omega (arith, whole, mul-lt-mul_of_pos_right lt some))
