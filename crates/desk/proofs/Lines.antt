-- Words in a row, as they are written.
use Rattle.std.proofs.Common.{◌≡◌, ℕ, List, [], ◌∷◌, ◌++◌, map, refl, ap, sym, append-nil, append_assoc}
use Rattle.std.specs.List.{flat_map}
use Rattle.desk.specs.declared.line.Word.{Word}
use Rattle.desk.specs.Texts.{words, ended}
use Rattle.desk.specs.Words.{word_text}

-- the first word, and a blank before each other
pub words_from_first : (first : Word) (rest : List Word) → words (map word_text (first ∷ rest)) ≡ word_text first ++ flat_map (λ w. 32 ∷ word_text w) rest
unfolding words
words_from_first first [] = sym (append-nil _)
words_from_first first (next ∷ rest) = ap (λ t. word_text first ++ 32 ∷ t) (words_from_first next rest)

-- a line that began with its first word and went on with the others
pub whole_line : (first : Word) (rest line : List Word) (out begun done : List ℕ) → line ≡ first ∷ rest → begun ≡ out ++ word_text first
    → done ≡ begun ++ flat_map (λ w. 32 ∷ word_text w) rest → done ≡ out ++ words (map word_text line)
whole_line first rest line out begun done parts begins goes = rw (goes, begins, parts, words_from_first first rest, append_assoc) refl

-- a line and its end, and the others
pub ended_after : (out line : List ℕ) (lines : List (List ℕ)) → (out ++ ended (line ∷ [])) ++ ended lines ≡ out ++ ended (line ∷ lines)
unfolding ended
ended_after out line lines = rw (append-nil, append_assoc) refl
