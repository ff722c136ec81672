-- The words of a call.
use Rattle.std.specs.Prelude.{ℕ, List, [], ◌∷◌, Bool, false, codes}
use Rattle.std.specs.Str.{bytes_eq}

-- `run DIR`, with any word for DIR
abbrev pub is_run : List (List ℕ) → Bool
is_run [] = false
is_run (word ∷ []) = false
is_run (word ∷ (dir ∷ [])) = bytes_eq word (codes "run")
is_run (word ∷ (dir ∷ (more ∷ rest))) = false
