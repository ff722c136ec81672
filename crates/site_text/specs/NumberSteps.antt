-- Numbers and ages as far as the code's numbers reach.
use Rattle.std.specs.Prelude.{ℕ, ◌+◌, ◌*◌, ◌^◌, List, Option, Some, None, ◌&&◌, nat_lt, min, if◌then◌else◌}
use Rattle.std.specs.Char.{is_ascii_digit, digit_value}
use Rattle.std.specs.Str.{all_ascii_digits}
use Rattle.std.specs.Str.Parse.{digits_value_after}

-- the number that digits write behind those of n, where it is below 2^64
unfoldable pub fitting_from : ℕ → List ℕ → Option ℕ
fitting_from n digits = if all_ascii_digits digits && nat_lt (digits_value_after 10 n digits) (2 ^ 64)
    then Some (digits_value_after 10 n digits) else None

abbrev pub with_digit : ℕ → ℕ → Option ℕ
with_digit n b = if is_ascii_digit b && nat_lt (n * 10 + digit_value b) (2 ^ 64) then Some (n * 10 + digit_value b) else None

-- seconds, as far as they are kept while they are added up
abbrev pub capped : Option ℕ → Option ℕ
capped (Some n) = Some (min n (2 ^ 40))
capped None = None
