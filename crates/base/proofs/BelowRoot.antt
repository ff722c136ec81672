-- A text that becomes a path by a slash before it.
use Rattle.std.proofs.Common.{◌≡◌, ℕ, Bool, true, false, List, [], ◌∷◌, length, refl, rules}
use Rattle.std.specs.Prelude.{◌==◌, ◌&&◌}
use Rattle.std.specs.List.{list_all, slice_split}
use Rattle.std.specs.Str.{is_utf8, chars}
use Rattle.std.proofs.Math.Dec.{leb-suc-suc}
use Rattle.std.proofs.lemmas.Str.{chars-append, IsUtf8-from_ascii}
use Rattle.std.proofs.lemmas.Str.Ascii.{IsAscii-from_all}
use Rattle.base.specs.Paths.{is_of_length, is_plain_text, is_part, is_legal_path}

slash_first : (rest : List ℕ) → chars (47 ∷ rest) ≡ 47 ∷ chars rest
unfolding chars
slash_first rest = chars-append (47 ∷ []) rest (IsUtf8-from_ascii (47 ∷ []) (IsAscii-from_all (47 ∷ []) (search rules)))

plain_below : (rest : List ℕ) → is_plain_text (47 ∷ rest) ≡ is_plain_text rest
unfolding is_utf8 chars lib.Utf8.encode
plain_below rest = rw (slash_first rest) refl

one_less : (rest : List ℕ) → is_of_length 2 1024 (47 ∷ rest) ≡ is_of_length 1 1023 rest
one_less rest = rw (leb-suc-suc 1 (length rest), leb-suc-suc (length rest) 1023) refl

slash_there : (a b c : Bool) → a && b && true && c ≡ a && b && c
slash_there true true c = refl
slash_there true false c = refl
slash_there false b c = refl

pub below_root : (rest : List ℕ) → is_legal_path (47 ∷ rest) ≡ (is_of_length 1 1023 rest && is_plain_text rest && list_all is_part (slice_split (λ b. b == 47) rest))
unfolding is_legal_path
below_root rest = rw (one_less rest, plain_below rest) (slash_there (is_of_length 1 1023 rest) (is_plain_text rest) (list_all is_part (slice_split (λ b. b == 47) rest)))
