-- Which texts name a file, and which an owner or a group.
use Rattle.std.specs.Prelude.{ℕ, Bool, true, false, ◌&&◌, ◌||◌, not, List, [], ◌∷◌, length, drop, nat_le, ◌==◌}
use Rattle.std.specs.List.{list_all, slice_split}
use Rattle.std.specs.Char.{is_control, is_ascii_alphanumeric}
use Rattle.std.specs.Str.{is_utf8, chars}
use Rattle.base.specs.declared.limits.TheConstants.{NAME_MAX, PATH_MAX}

-- so many bytes
abbrev pub is_of_length : ℕ → ℕ → List ℕ → Bool
is_of_length least most text = nat_le least (length text) && nat_le (length text) most

-- a space or a tab
abbrev pub is_blank : ℕ → Bool
is_blank c = (c == 32) || (c == 9)

-- a character that a path may have: no control character of Unicode and no blank
abbrev pub is_path_char : ℕ → Bool
is_path_char c = not (is_control c) && not (is_blank c)

-- nothing, . and .. are no names
abbrev pub is_part : List ℕ → Bool
is_part [] = false
is_part (a ∷ []) = not (a == 46)
is_part (a ∷ b ∷ []) = not ((a == 46) && (b == 46))
is_part (a ∷ b ∷ c ∷ rest) = true

-- what the slashes cut, after the first
abbrev pub parts : List ℕ → List (List ℕ)
parts path = slice_split (λ b. b == 47) (drop 1 path)

abbrev pub begins_with_slash : List ℕ → Bool
begins_with_slash [] = false
begins_with_slash (b ∷ rest) = b == 47

-- UTF-8 without control characters and blanks
abbrev pub is_plain_text : List ℕ → Bool
is_plain_text path = is_utf8 path && list_all is_path_char (chars path)

-- 2 to 1,024 bytes of such a text, from a slash on, each part a name
unfoldable pub is_legal_path : List ℕ → Bool
is_legal_path path =
    is_of_length 2 PATH_MAX path && is_plain_text path && begins_with_slash path && list_all is_part (parts path)

-- a letter, a digit, _, - or .
abbrev pub is_name_char : ℕ → Bool
is_name_char c = is_ascii_alphanumeric c || (c == 95) || (c == 45) || (c == 46)

-- the name of an owner or a group: 1 to 32 such characters
unfoldable pub is_legal_name : List ℕ → Bool
is_legal_name name = is_of_length 1 NAME_MAX name && list_all is_name_char name
