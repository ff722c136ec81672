-- How an engine that stands for a world with nothing open goes on while an event is served.
use Rattle.std.proofs.Common.{◌≡◌, inl, sym, ◌∙◌, ap, Bool}
use Rattle.std.specs.Prelude.{IsTrue}
use Rattle.bank.specs.Content.{Image}
use Rattle.bank.specs.View.{View, IsImage, OnlyRead, LeavesOnly}
use Rattle.bank.proofs.Instants.{weakened, joined}
use Rattle.journal.specs.State.{JournalState}
use Rattle.site_history.specs.Terms.{Terms}
use Rattle.site_history.specs.Site.{Fields}
use Rattle.site_history.specs.Worlds.{World, site_of}
use Rattle.site_history.specs.Images.{ReadsAs, ReadsBetween}
use Rattle.site_history.proofs.Reopenings.{images_after_reading, meanwhile_reading}
use Rattle.engine.specs.declared.engine.Engine.{Engine}
use Rattle.site_state.specs.Keeps.{Keeps}
use Rattle.engine.specs.StandsFor.{StandsFor, Moves}

-- An engine whose files, journal, count and clock are as they were stands for the same world, if each image still reads as it.
pub stands_still : (terms : Terms) → {B P : Type 0} (told : Bool) (view : B → View) (old new : Engine B P) (w : World) → StandsFor terms told view old w
    → ((fields : Fields) → Keeps old.site fields → Keeps new.site fields) → new.journal ≡ old.journal → new.steps ≡ old.steps → new.clock ≡ old.clock → new.due ≡ old.due
    → (IsTrue told → (c : Image) → IsImage (view new.bank) c → ReadsAs terms w c) → StandsFor terms told view new w
stands_still terms told view old new w s keeps journal steps clock due images = record {
  kept = s.kept;
  first = s.first;
  idle = s.idle;
  steps = steps ∙ s.steps;
  clock = clock ∙ s.clock;
  in_time = s.in_time;
  owed_in_time = s.owed_in_time;
  range = s.range;
  due = due ∙ s.due;
  in_step = λ not_due. let was = s.in_step (sym due ∙ not_due) in (
    was.0,
    record {
      keeps = keeps (site_of terms w).fields was.1.keeps;
      count = ap (λ (j : JournalState). j.count) journal ∙ was.1.count;
      place = ap (λ (j : JournalState). j.place) journal ∙ was.1.place;
    },
  );
  size = ap (λ (j : JournalState). j.size) journal ∙ s.size;
  images = λ t c image. images t c image;
}

module _ (terms : Terms) {B P : Type 0} (told : Bool) (view : B → View) (old new : Engine B P) (w : World) (s : StandsFor terms told view old w)
    (keeps : (fields : Fields) → Keeps old.site fields → Keeps new.site fields) (journal : new.journal ≡ old.journal) (steps : new.steps ≡ old.steps) (clock : new.clock ≡ old.clock) (due : new.due ≡ old.due)
    (only : IsTrue told → OnlyRead (view old.bank) (view new.bank)) where
  -- nothing was written meanwhile
  pub stands_read : StandsFor terms told view new w
  stands_read = stands_still terms told view old new w s keeps journal steps clock due
      (λ t c image. images_after_reading terms (view old.bank) (view new.bank) w (only t) (s.images t) c image)

  -- and so the world stays
  pub stays_here : Moves terms told view old new w w
  stays_here = record {
    stands = stands_read;
    meanwhile = λ t. weakened (view old.bank) (view new.bank) (ReadsAs terms w)
        (ReadsBetween terms w w) (meanwhile_reading terms (view old.bank) (view new.bank) w (only t) (s.images t)) (λ c reads. inl reads);
  }

-- While nothing is written each image reads as the world.
pub meanwhile_since : (terms : Terms) → {B P : Type 0} (told : Bool) (view : B → View) (old : Engine B P) (w : World) → StandsFor terms told view old w → (bank : B)
    → (IsTrue told → OnlyRead (view old.bank) (view bank)) → IsTrue told → LeavesOnly (view old.bank) (view bank) (ReadsAs terms w)
meanwhile_since terms told view old w s bank only t = meanwhile_reading terms (view old.bank) (view bank) w (only t) (s.images t)

-- What comes before a move leaves each image as it was.
pub moves_behind : (terms : Terms) → {B P : Type 0} (told : Bool) (view : B → View) (old mid new : Engine B P) (w w' : World)
    → (IsTrue told → LeavesOnly (view old.bank) (view mid.bank) (ReadsAs terms w)) → Moves terms told view mid new w w' → Moves terms told view old new w w'
moves_behind terms told view old mid new w w' before moves = record {
  stands = moves.stands;
  meanwhile = λ t. joined (view old.bank) (view mid.bank) (view new.bank) (ReadsBetween terms w w')
      (weakened (view old.bank) (view mid.bank) (ReadsAs terms w) (ReadsBetween terms w w') (before t) (λ c reads. inl reads))
      (moves.meanwhile t);
}
