-- Sizes: 1 to 15 digits and at most one suffix `k`, `M`, `G` or `T`, of either case.
use Rattle.std.specs.Prelude.{ℕ, ◌+◌, ◌-◌, ◌*◌, ◌^◌, List, length, take, Option, Some, None, Result, ◌==◌, ◌||◌, if◌then◌else◌, option_map, slice_index}
use Rattle.std.specs.Str.{byte}
use Rattle.base.specs.declared.limits.TheConstants.{FIELD_SIZE_MAX}
use Rattle.site_text.specs.declared.refusal.TextRefusal.{TextRefusal}
use Rattle.site_text.specs.declared.refusal.TextRefusal.TheVariants.{BadSize}
use Rattle.site_text.specs.Numbers.{number_in, below}

-- what a suffix multiplies by
abbrev pub scale_of : ℕ → Option ℕ
scale_of b =
    if b == byte "k" || b == byte "K" then Some (2 ^ 10)
    else if b == byte "m" || b == byte "M" then Some (2 ^ 20)
    else if b == byte "g" || b == byte "G" then Some (2 ^ 30)
    else if b == byte "t" || b == byte "T" then Some (2 ^ 40)
    else None

-- the bytes that a size says
unfoldable pub size_in_bytes : List ℕ → Option ℕ
size_in_bytes field = by_suffix (scale_of (slice_index field (length field - 1)))
  where
    by_suffix : Option ℕ → Option ℕ
    by_suffix (Some scale) = option_map (λ n. n * scale) (number_in 15 (take (length field - 1) field))
    by_suffix None = number_in 15 field

abbrev pub size_of : List ℕ → Result ℕ TextRefusal
size_of field = below BadSize (FIELD_SIZE_MAX + 1) (size_in_bytes field)
