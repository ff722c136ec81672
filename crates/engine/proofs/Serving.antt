-- An event, where a reopening is due and where none is.
use Rattle.std.proofs.Common.{◌≡◌, ◌⊎◌, inl, inr, ℕ, ◌<◌, ◌≤◌, ◌^◌, refl, sym, ◌∙◌, ap, subst, arith, Bool, true, false}
use Rattle.std.specs.Prelude.{IsTrue}
use Rattle.bank.specs.Content.{Content}
use Rattle.bank.specs.View.{View, IsImage, IsSound, LeavesOnly}
use Rattle.bank.proofs.Instants.{weakened, joined}
use Rattle.bank.proofs.Readings.{nothing_read}
use Rattle.journal.specs.State.{JournalState}
use Rattle.site_events.specs.declared.event.Event.{Event}
use Rattle.site_events.specs.declared.event.Event.TheVariants.{Configure as ConfigureEvent}
use Rattle.site_types.specs.declared.file.SiteTexts.{SiteTexts}
use Rattle.site_events.specs.declared.reply.Reply.{Reply}
use Rattle.site_history.specs.Terms.{Terms}
use Rattle.site_history.specs.Site.{Fields}
use Rattle.site_history.specs.Worlds.{World, site_of, at_moment}
use Rattle.site_history.specs.Turns.{moment_of, Turn, IsReopened, RefusesReopening, EventTurnBy, EventTurn, TellsConfiguration}
use Rattle.site_history.specs.Images.{ReadsAs, ReadsBetween}
use Rattle.site_history.proofs.Between.{between_reopened, event_reads}
use Rattle.site_history.proofs.Refusing.{tells_configuration}
use Rattle.engine.specs.declared.engine.Engine.{Engine}
use Rattle.site_state.specs.Keeps.{Keeps}
use Rattle.engine.specs.StandsFor.{StandsFor, Moves, IsRecovered, StaysFor}
use Rattle.engine.proofs.Turning.{stays_here}

module _ (terms : Terms) {B P : Type 0} (told : Bool) (view : B → View) (w : World) (n : ℕ) where
  -- Time goes on: the engine stands for the same world at a later moment.
  module _ (old new : Engine B P) (s : StandsFor terms told view old w) (bank : new.bank ≡ old.bank) (keeps : (fields : Fields) → Keeps old.site fields → Keeps new.site fields)
      (journal : new.journal ≡ old.journal) (steps : new.steps ≡ old.steps) (due : new.due ≡ old.due) (is : new.clock ≡ n) (later : w.clock ≤ n) (range : n < 2 ^ 40) where
    pub stands_later : StandsFor terms told view new (at_moment n w)
    stands_later = record {
      kept = record { fields = s.kept.fields; bytes = s.kept.bytes; history = s.kept.history };
      first = λ t. record { base = (s.first t).base; place = (s.first t).place };
      idle = s.idle;
      steps = steps ∙ s.steps;
      clock = is;
      in_time = omega (arith, s.in_time, later);
      owed_in_time = λ made e. omega (arith, s.owed_in_time made e, later);
      range = range;
      due = due ∙ s.due;
      in_step = λ not_due. let was = s.in_step (sym due ∙ not_due) in (
        was.0,
        record {
          keeps = keeps (site_of terms w).fields was.1.keeps;
          count = ap (λ (j : JournalState). j.count) journal ∙ was.1.count;
          place = ap (λ (j : JournalState). j.place) journal ∙ was.1.place;
        },
      );
      size = ap (λ (j : JournalState). j.size) journal ∙ s.size;
      images = λ t c image. s.images t c (subst (λ (b : B). IsImage (view b) c) bank image);
    }

  -- The event is served behind the later moment.
  pub moves_from : (old mid new : Engine B P) (w' : World) → mid.bank ≡ old.bank → Moves terms told view mid new (at_moment n w) w' → Moves terms told view old new w w'
  moves_from old mid new w' bank moves = record {
    stands = moves.stands;
    meanwhile = λ t. subst (λ (b : B). LeavesOnly (view b) (view new.bank) (ReadsBetween terms w w')) bank (moves.meanwhile t);
  }

  -- And where nothing else is done but that time goes on.
  pub stays_later : (old new : Engine B P) → StandsFor terms told view old w → new.bank ≡ old.bank → ((fields : Fields) → Keeps old.site fields → Keeps new.site fields) → new.journal ≡ old.journal
      → new.steps ≡ old.steps → new.due ≡ old.due → new.clock ≡ n → w.clock ≤ n → n < 2 ^ 40 → (IsTrue told → IsSound (view new.bank)) → Moves terms told view old new w (at_moment n w)
  stays_later old new s bank keeps journal steps due is later range sound = moves_from old new new (at_moment n w) bank
      (stays_here terms told view new new (at_moment n w) (stands_later old new s bank keeps journal steps due is later range) (λ fields kept. kept) refl refl refl refl
      (λ t. nothing_read (view new.bank) (sound t)))

module _ (terms : Terms) {B P : Type 0} (told : Bool) (view : B → View) (event : Event) (now area : ℕ) (reply : Reply) where
  -- what the turn of an event in a world is, and what the engine stands for then
  abbrev pub Served : Engine B P → Engine B P → Type 0
  Served old new = (w : World) → StandsFor terms told view old w → (w' : World) × Turn terms told w event (moment_of w.clock now) area reply w' × Moves terms told view old new w w'

  -- An event where no reopening is due.
  pub event_at_rest : (old new : Engine B P) (w : World) (s : StandsFor terms told view old w) (due : old.due ≡ false) → Served old new
      → (w' : World) × EventTurn terms told w event now area ((view old.bank).content 0) reply w' × Moves terms told view old new w w'
  event_at_rest old new w s due served =
      let turn = served w s in
      (turn.0, subst (λ (b : Bool). EventTurnBy terms b told w event now area ((view old.bank).content 0) reply turn.0) (sym due ∙ s.due) turn.1, turn.2)

  -- An event behind a reopening.
  pub event_reopened : (old mid new : Engine B P) (w : World) (s : StandsFor terms told view old w) (due : old.due ≡ true) → IsRecovered terms told view old mid w → Served mid new
      → (w' : World) × EventTurn terms told w event now area ((view old.bank).content 0) reply w' × Moves terms told view old new w w'
  event_reopened old mid new w s due recovered served =
      let turn = served recovered.world recovered.stands in (
        turn.0,
        subst (λ (b : Bool). EventTurnBy terms b told w event now area ((view old.bank).content 0) reply turn.0) (sym due ∙ s.due)
            (inl (recovered.world, recovered.reopened, turn.1)),
        record {
          stands = turn.2.stands;
          meanwhile = λ t. joined (view old.bank) (view mid.bank) (view new.bank) (ReadsBetween terms w turn.0)
              (weakened (view old.bank) (view mid.bank) (ReadsAs terms w) (ReadsBetween terms w turn.0) (recovered.meanwhile t) (λ c reads. inl reads))
              (weakened (view mid.bank) (view new.bank) (ReadsBetween terms recovered.world turn.0) (ReadsBetween terms w turn.0)
              (turn.2.meanwhile t)
              (λ c reads. between_reopened terms ((view old.bank).content 0) w recovered.world turn.0 c
              (subst (λ (b : Bool). IsReopened terms b ((view old.bank).content 0) w recovered.world) t recovered.reopened) reads));
        },
      )

  -- A reopening that is refused.
  pub event_refused : (old new : Engine B P) (w : World) (s : StandsFor terms told view old w) (due : old.due ≡ true) → RefusesReopening told reply → StaysFor terms told view old new w
      → (w' : World) × EventTurn terms told w event now area ((view old.bank).content 0) reply w' × Moves terms told view old new w w'
  event_refused old new w s due refuses stays = (
    w,
    subst (λ (b : Bool). EventTurnBy terms b told w event now area ((view old.bank).content 0) reply w) (sym due ∙ s.due) (inr (refuses, refl)),
    record {
      stands = stays.stands;
      meanwhile = λ t. weakened (view old.bank) (view new.bank) (ReadsAs terms w) (ReadsBetween terms w w) (stays.meanwhile t) (λ c reads. inl reads);
    },
  )

-- An event that configures the site tells the first command file that is wrong.
pub asked_told : (terms : Terms) (told : Bool) (w : World) (event : Event) (texts : SiteTexts) (now area : ℕ) (read : Content) (reply : Reply) (w' : World)
    → event ≡ ConfigureEvent texts → EventTurn terms told w event now area read reply w' → TellsConfiguration terms told w read texts reply
asked_told terms told w event texts now area read reply w' is turn =
    tells_configuration terms told w texts now area read reply w' (subst (λ (e : Event). EventTurn terms told w e now area read reply w') is turn)

-- Each image meanwhile reads as the world before an event or as the one after it.
pub either_world : (terms : Terms) → {B P : Type 0} (told : Bool) (view : B → View) (old new : Engine B P) (w w' : World) (event : Event) (now area : ℕ) (read : Content) (reply : Reply)
    → StandsFor terms told view old w → EventTurn terms told w event now area read reply w' → Moves terms told view old new w w' → IsTrue told
    → LeavesOnly (view old.bank) (view new.bank) (λ c. ReadsAs terms w c ⊎ ReadsAs terms w' c)
either_world terms told view old new w w' event now area read reply s turn moves t =
    weakened (view old.bank) (view new.bank) (ReadsBetween terms w w') (λ c. ReadsAs terms w c ⊎ ReadsAs terms w' c) (moves.meanwhile t)
    (λ c between. event_reads terms w w' c event now area read reply between (λ not_due. (s.in_step (s.due ∙ not_due)).0)
    (subst (λ (b : Bool). EventTurn terms b w event now area read reply w') t turn))
