-- What single fields say.
use Rattle.std.specs.Prelude.{ℕ, length, Result, Ok, Err, Bool, ◌==◌, ◌&&◌, ◌||◌, nat_le, ◌%◌, if◌then◌else◌}
use Rattle.std.specs.List.{list_all}
use Rattle.std.specs.Int.{is_in_range}
use Rattle.std.specs.Str.{byte}
use Rattle.site_text.specs.declared.fault.ConfFault.TheVariants.{BadValue, OutOfRange}
use Rattle.site_text.specs.declared.refusal.TextRefusal.{TextRefusal}
use Rattle.site_text.specs.Fields.{Field, Read, ◌>>=◌, wanted}
use Rattle.site_text.specs.Numbers.{number_in, has_length}
use Rattle.site_text.specs.Sizes.{size_of}
use Rattle.site_text.specs.Ages.{age_of}
use Rattle.site_text.specs.Weights.{weight_of}

abbrev pub in_range : ℕ → ℕ → ℕ → Read ℕ
in_range low high n = if nat_le low n && nat_le n high then Ok n else Err OutOfRange

-- what is refused is a bad value
abbrev pub bad_value : Result ℕ TextRefusal → Read ℕ
bad_value (Ok n) = Ok n
bad_value (Err refusal) = Err BadValue

-- any field, as it stands
abbrev pub any_value : Field → Read Field
any_value field = Ok field

-- a number of 1 to 9 digits, in a range
unfoldable pub number_value : ℕ → ℕ → Field → Read ℕ
number_value low high field = wanted (number_in 9 field) BadValue >>= in_range low high

-- a size in a range
unfoldable pub size_value : ℕ → ℕ → Field → Read ℕ
size_value low high field = bad_value (size_of field) >>= in_range low high

-- a size in a range that is a multiple
unfoldable pub multiple_value : ℕ → ℕ → ℕ → Field → Read ℕ
multiple_value multiple low high field = bad_value (size_of field) >>= λ n.
    if nat_le low n && nat_le n high && (n % multiple == 0) then Ok n else Err OutOfRange

abbrev pub age_value : Field → Read ℕ
age_value field = bad_value (age_of field)

abbrev pub weight_value : Field → Read ℕ
weight_value field = bad_value (weight_of field)

-- ---- names

abbrev pub is_letter : ℕ → Bool
is_letter b = is_in_range (byte "A") (byte "Z") b || is_in_range (byte "a") (byte "z") b

abbrev pub is_digit : ℕ → Bool
is_digit b = is_in_range (byte "0") (byte "9") b

-- letters, digits, `_`, `-` and `.`
abbrev pub is_name_byte : ℕ → Bool
is_name_byte b = is_letter b || is_digit b || (b == byte "_") || (b == byte "-") || (b == byte ".")

-- a name of 1 to `most` of these
abbrev pub is_name : ℕ → Field → Bool
is_name most field = has_length most field && list_all is_name_byte field

abbrev pub is_media_byte : ℕ → Bool
is_media_byte b = is_in_range (byte "a") (byte "z") b || is_digit b

-- a media type: two small letters or digits
abbrev pub is_media : Field → Bool
is_media field = (length field == 2) && list_all is_media_byte field

-- a name of at most so many bytes
abbrev pub name_value : ℕ → Field → Read Field
name_value most field = if is_name most field then Ok field else Err BadValue

abbrev pub media_value : Field → Read Field
media_value field = if is_media field then Ok field else Err BadValue
