-- A piece in its buffer, and a line in its own.
use Rattle.std.proofs.Common.{◌≡◌, ◌≢◌, ℕ, ◌+◌, ◌-◌, ◌<◌, ◌≤◌, List, [], ◌∷◌, length, take, drop, refl, sym, ◌∙◌, ap, subst, arith, Option, Bool, true, false, cond, suc, get_or, length-take}
use Rattle.std.proofs.lemmas.Bool.{ne_eqb}
use Rattle.std.proofs.lemmas.List.{get_or_read}
use Rattle.std.specs.Prelude.{nat_eq}
use Rattle.std.proofs.lemmas.List.{append-nil}
use Rattle.std.specs.Io.KnownBytes.{Consumes}
use Rattle.input.specs.Lines.{without_return}
use Rattle.input.specs.Reading.{Reading, Moved}

-- the first bytes of a buffer, read as a piece from its start
pub from_start : (xs : List ℕ) (n : ℕ) → take (n - 0) (drop 0 xs) ≡ take n xs
from_start xs n = ap (λ (k : ℕ). take k xs) (let e : n - 0 ≡ n = omega arith in e)

pub length-from_start : (xs : List ℕ) (n : ℕ) → n ≤ length xs → n ≡ length (take (n - 0) (drop 0 xs))
length-from_start xs n within = omega (arith, ap length (from_start xs n), length-take n xs)

-- a piece with a single byte
pub single : (xs : List ℕ) (n : ℕ) → n ≡ length xs → n ≢ 0 → length xs ≤ 1 → (byte : ℕ) × (xs ≡ byte ∷ [])
single [] n e some one = absurd (some e)
single (byte ∷ []) n e some one = (byte, refl)
single (byte ∷ (c ∷ xs)) n e some one = absurd (omega arith)

-- a piece that was taken beyond the budget is one byte
pub lost_byte : (a b : Option (List ℕ)) (x y : Reading) (xs : List ℕ) (n : ℕ) → x.held ≡ [] → y.held ≡ [] → n ≡ length xs → n ≢ 0 → length xs ≤ 1 → Consumes a b xs → x.budget ≡ y.budget → x.ended ≡ false → y.ended ≡ false → (extra : ℕ) × Moved a b x y [] (extra ∷ [])
lost_byte a b x y xs n none none' e some one took budget was_open no_end =
    let byte = single xs n e some one in (
      byte.0,
      record {
        more = [];
        took = subst (λ (l : List ℕ). Consumes a b l) byte.1 took;
        split = append-nil x.held ∙ none ∙ sym none';
        budget = omega (arith, budget);
        done = λ e. absurd (let c : true ≡ false = sym e ∙ was_open in cc);
        end = λ at e. absurd (let c : true ≡ false = sym e ∙ no_end in cc);
      },
    )

pub last_is : (xs : List ℕ) (n b : ℕ) → n ≡ length xs → 0 < n → b ≡ get_or xs (n - 1) b → b ≡ get_or xs (length xs - 1) 0
last_is xs n b e h is = get_or_read xs (n - 1) b (omega (arith, e, h)) is 0 ∙ ap (λ (k : ℕ). get_or xs (k - 1) 0) e

dropped_return : (xs : List ℕ) → 0 < length xs → get_or xs (length xs - 1) 0 ≡ 13 → take (length xs - 1) xs ≡ without_return xs
dropped_return [] h e = absurd (omega arith)
dropped_return (b ∷ []) h e = ap (λ (t : ℕ). cond (nat_eq t 13) [] (t ∷ [])) (sym e)
dropped_return (b ∷ (c ∷ xs)) h e =
    let n : length (b ∷ (c ∷ xs)) - 1 ≡ suc (length (c ∷ xs) - 1) = omega arith in
    ap (λ (k : ℕ). take k (b ∷ (c ∷ xs))) n ∙ ap (λ (l : List ℕ). b ∷ l) (dropped_return (c ∷ xs) (omega arith) (ap (λ (k : ℕ). get_or (b ∷ (c ∷ xs)) k 0) (sym n) ∙ e))

-- a line whose last byte is a carriage return
pub dropped : (xs : List ℕ) (n : ℕ) → n ≡ length xs → 0 < length xs → get_or xs (length xs - 1) 0 ≡ 13 → take (n - 1) xs ≡ without_return xs
dropped xs n e h is = ap (λ (k : ℕ). take (k - 1) xs) e ∙ dropped_return xs h is

-- a line whose last byte is another one
pub not_dropped : (xs : List ℕ) → 0 < length xs → get_or xs (length xs - 1) 0 ≢ 13 → xs ≡ without_return xs
not_dropped [] h ne = absurd (omega arith)
not_dropped (b ∷ []) h ne = ap (λ (t : Bool). cond t [] (b ∷ [])) (sym (ne_eqb b 13 ne))
not_dropped (b ∷ (c ∷ xs)) h ne =
    let n : length (b ∷ (c ∷ xs)) - 1 ≡ suc (length (c ∷ xs) - 1) = omega arith in
    ap (λ (l : List ℕ). b ∷ l) (not_dropped (c ∷ xs) (omega arith) (λ e. ne (ap (λ (k : ℕ). get_or (b ∷ (c ∷ xs)) k 0) n ∙ e)))

pub without_return-length : (xs : List ℕ) → length xs ≤ length (without_return xs) + 1
without_return-length [] = omega arith
without_return-length (b ∷ []) = omega arith
without_return-length (b ∷ (c ∷ xs)) = omega (arith, without_return-length (c ∷ xs))
