-- What a test passed says.
use Rattle.std.proofs.Common.{◌≡◌, ℕ, ◌≤◌, ◌<◌, Bool, true, false, Option, Some, None, Ok, Err, refl, arith}
use Rattle.std.specs.Prelude.{◌&&◌, ◌||◌, not, nat_le, nat_lt}
use Rattle.std.specs.Str.{bytes_eq}
use Rattle.std.proofs.lemmas.Bool.{leb-true, leb-false, ltb-true, ltb-false}
use Rattle.std.proofs.lemmas.Slice.Eq.{bytes_eq-Decides}
use Rattle.site_text.specs.declared.fault.ConfFault.{ConfFault}
use Rattle.site_text.specs.Fields.{Field, Read, ◌>>=◌, wanted, refuse_if}

-- both steps of a reading that gives something give something
pub bind_ok : {A B : Type 0} (r : Read A) (f : A → Read B) (y : B) → (r >>= f) ≡ Ok y → (x : A) × (r ≡ Ok x) × (f x ≡ Ok y)
bind_ok (Ok x) f y e = (x, refl, e)
bind_ok (Err d) f y e = absurd cc

pub wanted_said : {A : Type 0} (o : Option A) (fault : ConfFault) (x : A) → wanted o fault ≡ Ok x → o ≡ Some x
wanted_said (Some y) fault x is = let e : y ≡ x = cc in rw e refl
wanted_said None fault x is = absurd cc

pub not_refused : (b : Bool) (fault : ConfFault) (x : Unit {0}) → refuse_if b fault ≡ Ok x → b ≡ false
not_refused true fault x is = absurd cc
not_refused false fault x is = refl

pub not_false : (b : Bool) → not b ≡ false → b ≡ true
not_false true is = refl
not_false false is = absurd cc

pub both_true : (a b : Bool) → a && b ≡ true → (a ≡ true) × (b ≡ true)
both_true true true is = (refl, refl)
both_true true false is = absurd cc
both_true false b is = absurd cc

pub both_false : (a b : Bool) → a || b ≡ false → (a ≡ false) × (b ≡ false)
both_false false false is = (refl, refl)
both_false false true is = absurd cc
both_false true b is = absurd cc

-- ---- texts

pub same : (f g : Field) → f ≡ g → bytes_eq f g ≡ true
same f g is = (bytes_eq-Decides f g).1 is

pub is_same : (f g : Field) → bytes_eq f g ≡ true → f ≡ g
is_same f g is = (bytes_eq-Decides f g).0 is

pub is_other : (f g : Field) → bytes_eq f g ≡ false → ¬ (f ≡ g)
is_other f g is e = let t : bytes_eq f g ≡ true = same f g e in absurd cc

other_step : (f g : Field) (b : Bool) → bytes_eq f g ≡ b → ¬ (f ≡ g) → bytes_eq f g ≡ false
other_step f g true is n = absurd (n (is_same f g is))
other_step f g false is n = is

pub other : (f g : Field) → ¬ (f ≡ g) → bytes_eq f g ≡ false
other f g n = other_step f g (bytes_eq f g) refl n

-- ---- numbers

above_step : (m n : ℕ) (b : Bool) → nat_le m n ≡ b → n < m → nat_le m n ≡ false
above_step m n true is lt = absurd (omega (arith, leb-true m n is, lt))
above_step m n false is lt = is

pub above : (m n : ℕ) → n < m → nat_le m n ≡ false
above m n lt = above_step m n (nat_le m n) refl lt

pub is_above : (m n : ℕ) → nat_le m n ≡ false → n < m
is_above m n is = leb-false m n is

within_step : (m n : ℕ) (b : Bool) → nat_lt m n ≡ b → n ≤ m → nat_lt m n ≡ false
within_step m n true is le = absurd (omega (arith, ltb-true m n is, le))
within_step m n false is le = is

pub not_less : (m n : ℕ) → n ≤ m → nat_lt m n ≡ false
not_less m n le = within_step m n (nat_lt m n) refl le

pub is_not_less : (m n : ℕ) → nat_lt m n ≡ false → n ≤ m
is_not_less m n is = ltb-false m n is
