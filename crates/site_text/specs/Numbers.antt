-- Numbers of decimal digits. Leading zeros are allowed.
use Rattle.std.specs.Prelude.{ℕ, List, length, Option, Some, None, Result, Ok, Err, Bool, ◌&&◌, nat_lt, nat_le, if◌then◌else◌, option_and_then}
use Rattle.std.specs.Str.{all_ascii_digits}
use Rattle.std.specs.Str.Parse.{digits_value}
use Rattle.site_text.specs.declared.refusal.TextRefusal.{TextRefusal}
use Rattle.site_text.specs.declared.refusal.TextRefusal.TheVariants.{Overflow}

-- a field of 1 to `most` bytes
abbrev pub has_length : ℕ → List ℕ → Bool
has_length most field = nat_le 1 (length field) && nat_le (length field) most

-- the number that a field of 1 to `most` digits writes
unfoldable pub number_in : ℕ → List ℕ → Option ℕ
number_in most field = if has_length most field && all_ascii_digits field then Some (digits_value 10 field) else None

-- a number that is not outside a range
abbrev pub within : ℕ → ℕ → ℕ → Option ℕ
within low high n = if nat_le low n && nat_le n high then Some n else None

-- the number of 1 to `most` digits, where it is not outside a range
unfoldable pub number_within : ℕ → ℕ → ℕ → List ℕ → Option ℕ
number_within most low high field = option_and_then (within low high) (number_in most field)

-- What a field of a form says: it is not of the form, or its value is below the limit, or not.
abbrev pub below : TextRefusal → ℕ → Option ℕ → Result ℕ TextRefusal
below bad limit None = Err bad
below bad limit (Some n) = if nat_lt n limit then Ok n else Err Overflow
