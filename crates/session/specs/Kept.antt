-- What a crash at any instant leaves.
use Rattle.std.specs.Prelude.{◌⊎◌, ◌≤◌, ℕ, List, [], ◌∷◌, take}
use Rattle.bank.specs.Content.{Image}
use Rattle.bank.specs.View.{View, IsImage, LeavesOnly}
use Rattle.site_history.specs.Terms.{Terms}
use Rattle.site_history.specs.Steps.{HistoryStep}
use Rattle.site_history.specs.Histories.{Begins}
use Rattle.site_history.specs.Worlds.{World}
use Rattle.site_history.specs.Images.{Reads, ReadsAs}
use Rattle.session.specs.Rounds.{Round}
use Rattle.session.specs.declared.kept.Mark.{Mark}

-- From an instant on, from a world on: an image that a crash left while a round was in hand reads as the world before it or as
-- the one after it, each as its history or as that with the step which it owes; any other is one since the round's end. And
-- so on; behind the last round an image reads as the last world.
abbrev pub AreKept : Terms → View → ℕ → World → List Round → Type 0
AreKept terms v from w [] = (c : Image) → v.left_since from c → ReadsAs terms w c
AreKept terms v from w (round ∷ rounds) =
    ((c : Image) → v.left_since from c → v.left_since round.instant c ⊎ (ReadsAs terms w c ⊎ ReadsAs terms round.after.world c))
    × AreKept terms v round.instant round.after.world rounds

-- Each step that was acknowledged is held: whatever a crash left since the instant of a mark reads as a history that begins with
-- the first steps of the last history, as many as the mark counts.
abbrev pub AreHeld : Terms → View → List HistoryStep → List Mark → Type 0
AreHeld terms v last [] = Unit {0}
AreHeld terms v last (mark ∷ marks) = ((c : Image) → v.left_since mark.instant c → (steps : List HistoryStep) × Reads terms c steps × Begins (take mark.steps last) steps) × AreHeld terms v last marks

-- An image that a crash left while the store was opened is one that it might have left at entry; any other is one since it was open.
pub record IsOpening (entry v : View) (opened : ℕ) : Type 0 where
  pub later : entry.instant ≤ opened
  pub images : (c : Image) → v.left_since entry.instant c → v.left_since opened c ⊎ IsImage entry c

-- Time goes on from the one to the other: an image since an earlier instant is one from before, or one of this time.
abbrev pub Passes : View → View → Type 0
Passes old new = LeavesOnly old new (λ c. Unit {0})
