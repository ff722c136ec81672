-- The place of the last `.` of a text that is read from the front.
use Rattle.std.proofs.Common.{◌≡◌, ℕ, suc, ◌+◌, ◌<◌, Bool, true, false, cond, List, [], ◌∷◌, ◌++◌, length, take, get_or, Option, Some, refl, ap, ◌∙◌, arith}
use Rattle.std.specs.Prelude.{◌==◌, slice_index}
use Rattle.std.proofs.lemmas.List.{take_more, length-take-le}
use Rattle.archiver_lines.specs.Names.{dot_before, last_dot}

along : (x n : ℕ) (is : Bool) (rest : Option ℕ) → dot_before x (cond is (Some n) rest) ≡ cond is (Some (suc n)) (dot_before x rest)
along x n true rest = refl
along x n false rest = refl

-- one more byte is the last `.`, or changes nothing
pushed : (xs : List ℕ) (b : ℕ) → last_dot (xs ++ b ∷ []) ≡ cond (b == 46) (Some (length xs)) (last_dot xs)
unfolding last_dot
pushed [] b = refl
pushed (x ∷ xs) b = ap (dot_before x) (pushed xs b) ∙ along x (length xs) (b == 46) (last_dot xs)

pub last_dot_more : (xs : List ℕ) (i : ℕ) → i < length xs → last_dot (take (i + 1) xs) ≡ cond (slice_index xs i == 46) (Some i) (last_dot (take i xs))
last_dot_more xs i lt =
    let len : length (take i xs) ≡ i = length-take-le i xs (omega (arith, lt)) in
    ap last_dot (take_more xs i 0 lt) ∙ pushed (take i xs) (get_or xs i 0) ∙ ap (λ (n : ℕ). cond (slice_index xs i == 46) (Some n) (last_dot (take i xs))) len
