-- What a reader holds, and how it and its source move on.
use Rattle.std.specs.Prelude.{◌≡◌, ℕ, ◌+◌, ◌<◌, List, [], ◌∷◌, ◌++◌, length, Option, Bool, true, false}
use Rattle.std.specs.Io.KnownBytes.{Consumes, IsAtEnd}

-- a reader as contracts see it
pub record Reading : Type 0 where
  -- the bytes taken from the source and not yet used
  pub held : List ℕ
  -- how many more may be taken
  pub budget : ℕ
  -- whether the end of the source was met
  pub ended : Bool
  -- the line that is being read, or was read last
  pub line : List ℕ

-- a reader that has taken nothing
pub record Begins (budget : ℕ) (reader : Reading) : Type 0 where
  pub nothing_held : reader.held ≡ []
  pub whole_budget : reader.budget ≡ budget
  pub still_open : reader.ended ≡ false

-- From old to new these bytes were used. Those beyond the budget were taken too, and are lost.
pub record Moved (before now : Option (List ℕ)) (old new : Reading) (used beyond : List ℕ) : Type 0 where
  -- what was taken within the budget
  pub more : List ℕ
  pub took : Consumes before now (more ++ beyond)
  pub split : old.held ++ more ≡ used ++ new.held
  pub budget : old.budget ≡ new.budget + length more
  -- after the end nothing is taken
  pub done : old.ended ≡ true → (more ++ beyond ≡ []) × (new.ended ≡ true)
  pub end : (old.ended ≡ true → IsAtEnd before) → new.ended ≡ true → IsAtEnd now

-- what an input says, item by item: of these bytes, whose end was met or not
abbrev pub Items : Type 0 → Type 0
Items A = List ℕ → Bool → List A

-- these bytes are just this item, whatever follows
pub record IsItem {A : Type 0} (items : Items A) (used : List ℕ) (item : A) : Type 0 where
  pub first : (more : List ℕ) (ended : Bool) → items (used ++ more) ended ≡ item ∷ items more ended

-- an item was read, up to its end or up to the end of the source
pub record ReadsItem {A : Type 0} (items : Items A) (before now : Option (List ℕ)) (old new : Reading) (item : A) : Type 0 where
  pub used : List ℕ
  pub moved : Moved before now old new used []
  pub was_open : old.ended ≡ false
  pub some : 0 < length used
  pub whole : new.ended ≡ false → IsItem items used item
  pub last : new.ended ≡ true → items used true ≡ item ∷ []
  pub drained : new.ended ≡ true → new.held ≡ []

-- the end of the source was met, and no item was left
pub record MeetsEnd {A : Type 0} (items : Items A) (before now : Option (List ℕ)) (old new : Reading) : Type 0 where
  pub used : List ℕ
  pub moved : Moved before now old new used []
  pub ended : new.ended ≡ true
  pub nothing_held : new.held ≡ []
  pub again : old.ended ≡ true → used ≡ []
  pub none : items used true ≡ []

-- the source failed before an item was whole
pub record StopsAtFault {A : Type 0} (items : Items A) (before now : Option (List ℕ)) (old new : Reading) : Type 0 where
  pub used : List ℕ
  pub moved : Moved before now old new used []
  pub still_open : new.ended ≡ false
  pub nothing_held : new.held ≡ []
  pub none : items used false ≡ []

-- a byte was taken beyond the budget before an item was whole
pub record StopsOverBudget {A : Type 0} (items : Items A) (before now : Option (List ℕ)) (old new : Reading) : Type 0 where
  pub used : List ℕ
  pub extra : ℕ
  pub moved : Moved before now old new used (extra ∷ [])
  pub still_open : new.ended ≡ false
  pub nothing_held : new.held ≡ []
  pub spent : new.budget ≡ 0
  pub none : items used false ≡ []
