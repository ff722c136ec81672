-- The names of sets, and of copies in params and vsns.
use Rattle.std.specs.Prelude.{◌≡◌, ◌⊎◌, ℕ, suc, ◌+◌, ◌≤◌, ◌<◌, List, [], ◌∷◌, length, take, drop, Option, Some, None, Bool, true, false, ◌==◌, ◌&&◌, ◌||◌, nat_le, if◌then◌else◌, slice_index, option_map}
use Rattle.std.specs.List.{list_all, list_any}
use Rattle.std.specs.Str.{byte, bytes_eq}
use Rattle.site_text.specs.Fields.{Field}
use Rattle.archiver_lines.specs.declared.reading.CopyName.{CopyName}
use Rattle.site_text.specs.Values.{is_digit, is_letter}
use Rattle.archiver_lines.specs.declared.reading.CopyName.TheVariants.{AllSets, AllSetsCopy, SetCopy}
use Rattle.archiver_lines.specs.Limits.{most_sets}

-- letters, digits and `_`
abbrev pub is_set_byte : ℕ → Bool
is_set_byte b = is_letter b || is_digit b || (b == byte "_")

-- a letter, and up to 28 of these
abbrev pub is_set_name : Field → Bool
is_set_name field = nat_le (length field) 29 && is_letter (slice_index field 0) && list_all is_set_byte field

-- it is among these
abbrev pub is_in : List Field → Field → Bool
is_in names name = list_any (λ n. bytes_eq n name) names

-- A set may be mentioned: it is one of those so far, or these are fewer than 64.
abbrev pub MayMention : List Field → Field → Type 0
MayMention sets name = (is_in sets name ≡ true) ⊎ (length sets < most_sets)

-- It is none of those so far, and they are 64.
abbrev pub IsOneTooMany : List Field → Field → Type 0
IsOneTooMany sets name = (is_in sets name ≡ false) × (most_sets ≤ length sets)

-- both are the name of the same copies
abbrev pub same_name : CopyName → CopyName → Bool
same_name AllSets AllSets = true
same_name (AllSetsCopy m) (AllSetsCopy n) = m == n
same_name (SetCopy s m) (SetCopy t n) = bytes_eq s t && (m == n)
same_name a b = false

-- the place of the last `.`, where this stands before what is behind
abbrev pub dot_before : ℕ → Option ℕ → Option ℕ
dot_before b (Some place) = Some (suc place)
dot_before b None = if b == byte "." then Some 0 else None

-- the place of the last `.`
unfoldable pub last_dot : List ℕ → Option ℕ
last_dot [] = None
last_dot (b ∷ bs) = dot_before b (last_dot bs)

-- what stands before the last `.`, and behind it
abbrev pub around_last_dot : Field → Option (Field × Field)
around_last_dot field = option_map (λ at. (take at field, drop (at + 1) field)) (last_dot field)

-- the site's file system, those of `fs =` lines, and sets that were mentioned
abbrev pub is_known : Field → List Field → List Field → Field → Bool
is_known site file_systems sets name = bytes_eq name site || is_in file_systems name || is_in sets name
