-- Ages: groups of 1 to 12 digits and a suffix `s`, `m`, `h`, `d`, `w` or `y`; the last group may have no suffix.
use Rattle.std.specs.Prelude.{ℕ, ◌+◌, ◌-◌, ◌*◌, ◌^◌, List, [], ◌∷◌, length, take, Option, Some, None, Result, Bool, ◌==◌, is_some, if◌then◌else◌, option_map, slice_index}
use Rattle.std.specs.List.{onto_first}
use Rattle.std.specs.Str.{byte}
use Rattle.site_text.specs.declared.refusal.TextRefusal.{TextRefusal}
use Rattle.site_text.specs.declared.refusal.TextRefusal.TheVariants.{BadAge}
use Rattle.site_text.specs.Numbers.{number_in, below}

-- the seconds of a suffix
abbrev pub unit_of : ℕ → Option ℕ
unit_of b =
    if b == byte "s" then Some 1
    else if b == byte "m" then Some 60
    else if b == byte "h" then Some (60 * 60)
    else if b == byte "d" then Some (24 * 60 * 60)
    else if b == byte "w" then Some (7 * 24 * 60 * 60)
    else if b == byte "y" then Some (365 * 24 * 60 * 60)
    else None

abbrev pub is_unit : ℕ → Bool
is_unit b = is_some (unit_of b)

-- a field, cut behind each suffix
unfoldable pub groups_of : List ℕ → List (List ℕ)
groups_of [] = []
groups_of (b ∷ bs) = if is_unit b then (b ∷ []) ∷ groups_of bs else onto_first b (groups_of bs)

-- the seconds of a group: its digits stand before its suffix, and where it has none they are seconds
unfoldable pub group_seconds : List ℕ → Option ℕ
group_seconds group = by_suffix (unit_of (slice_index group (length group - 1)))
  where
    by_suffix : Option ℕ → Option ℕ
    by_suffix (Some unit) = option_map (λ n. n * unit) (number_in 12 (take (length group - 1) group))
    by_suffix None = number_in 12 group

abbrev pub plus : Option ℕ → Option ℕ → Option ℕ
plus (Some m) (Some n) = Some (m + n)
plus (Some m) None = None
plus None n = None

-- the seconds of all groups, where each has some
unfoldable pub sum_of : List (List ℕ) → Option ℕ
sum_of [] = Some 0
sum_of (group ∷ more) = plus (group_seconds group) (sum_of more)

abbrev pub age_in_seconds : List ℕ → Option ℕ
age_in_seconds [] = None
age_in_seconds (b ∷ bs) = sum_of (groups_of (b ∷ bs))

abbrev pub age_of : List ℕ → Result ℕ TextRefusal
age_of field = below BadAge (2 ^ 40) (age_in_seconds field)
