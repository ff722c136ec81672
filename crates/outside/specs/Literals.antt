-- A text within a subject.
use Rattle.std.specs.Prelude.{ℕ, List, [], ◌∷◌, Bool, ◌||◌, nat_eq}
use Rattle.std.specs.List.{starts_with}

-- whether a subject contains a text
abbrev pub contains_text : List ℕ → List ℕ → Bool
contains_text [] text = starts_with nat_eq [] text
contains_text (b ∷ subject) text = starts_with nat_eq (b ∷ subject) text || contains_text subject text
