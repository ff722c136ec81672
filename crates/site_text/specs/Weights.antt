-- Weights: `0` or `1`, or one of `0.`, `1.` and `.` and behind it 1 to 6 digits; at most 1, in millionths.
use Rattle.std.specs.Prelude.{ℕ, ◌+◌, ◌-◌, ◌*◌, ◌^◌, List, length, Option, Some, None, Result, Ok, Err, Bool, ◌==◌, nat_le, if◌then◌else◌, option_map, codes}
use Rattle.std.specs.List.{before_first, after_first, list_any}
use Rattle.std.specs.Str.{byte, bytes_eq}
use Rattle.site_text.specs.declared.refusal.TextRefusal.{TextRefusal}
use Rattle.site_text.specs.declared.refusal.TextRefusal.TheVariants.{BadWeight}
use Rattle.site_text.specs.Numbers.{number_in}

abbrev pub is_point : ℕ → Bool
is_point b = b == byte "."

-- millionths of a whole number
abbrev pub whole_millionths : List ℕ → Option ℕ
whole_millionths digits = if bytes_eq digits (codes "0") then Some 0 else if bytes_eq digits (codes "1") then Some (10 ^ 6) else None

-- the same before a point, where a 0 may be left out
abbrev pub leading_millionths : List ℕ → Option ℕ
leading_millionths digits = if length digits == 0 then Some 0 else whole_millionths digits

-- millionths of the digits behind a point
abbrev pub decimal_millionths : List ℕ → Option ℕ
decimal_millionths digits = option_map (λ n. n * 10 ^ (6 - length digits)) (number_in 6 digits)

abbrev pub sum_of_parts : Option ℕ → Option ℕ → Option ℕ
sum_of_parts (Some m) (Some n) = Some (m + n)
sum_of_parts m n = None

unfoldable pub weight_in_millionths : List ℕ → Option ℕ
weight_in_millionths field = if list_any is_point field
    then sum_of_parts (leading_millionths (before_first is_point field)) (decimal_millionths (after_first is_point field))
    else whole_millionths field

abbrev pub at_most_one : Option ℕ → Result ℕ TextRefusal
at_most_one None = Err BadWeight
at_most_one (Some n) = if nat_le n (10 ^ 6) then Ok n else Err BadWeight

abbrev pub weight_of : List ℕ → Result ℕ TextRefusal
weight_of field = at_most_one (weight_in_millionths field)
