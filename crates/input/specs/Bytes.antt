-- How a reader takes the next byte.
use Rattle.std.specs.Prelude.{◌≡◌, ◌<◌, ℕ, List, [], ◌∷◌, length, Option, true, false, Result, Ok, Err}
use Rattle.input.specs.declared.reader.Stop.{Stop}
use Rattle.input.specs.declared.reader.Stop.TheVariants.{Ended, SourceFault, OverBudget}
use Rattle.input.specs.Reading.{Reading, Moved}

-- no further byte was taken within the budget, for this reason
abbrev pub Stops : Option (List ℕ) → Option (List ℕ) → Reading → Reading → Stop → Type 0
Stops before now old new Ended = Moved before now old new [] [] × (new.ended ≡ true) × (new.held ≡ [])
Stops before now old new SourceFault = Moved before now old new [] [] × (new.held ≡ []) × (new.ended ≡ false)
Stops before now old new OverBudget = (extra : ℕ) × Moved before now old new [] (extra ∷ []) × (new.held ≡ []) × (new.budget ≡ 0) × (new.ended ≡ false)

-- a further piece was taken, or none for a reason
abbrev pub Refills : {T : Type 0} → Option (List ℕ) → Option (List ℕ) → Reading → Reading → Result T Stop → Type 0
Refills before now old new (Ok done) = Moved before now old new [] [] × (0 < length new.held) × (old.ended ≡ false) × (new.ended ≡ false)
Refills before now old new (Err stop) = Stops before now old new stop

-- the next byte was used, or none for a reason
abbrev pub NextIs : Option (List ℕ) → Option (List ℕ) → Reading → Reading → Result ℕ Stop → Type 0
NextIs before now old new (Ok byte) = Moved before now old new (byte ∷ []) [] × (old.ended ≡ false) × (new.ended ≡ false)
NextIs before now old new (Err stop) = Stops before now old new stop
