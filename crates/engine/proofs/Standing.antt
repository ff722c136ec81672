-- What an engine stands for once its journal was read.
use Rattle.std.proofs.Common.{◌≡◌, inl, inr, ⊎_elim, ℕ, ◌<◌, ◌≤◌, ◌^◌, max, List, [], ◌∷◌, ◌++◌, refl, sym, ◌∙◌, ap, subst, arith, Bool, true, false, Some, None}
use Rattle.std.specs.Prelude.{IsTrue}
use Rattle.bank.specs.Content.{Image}
use Rattle.bank.specs.View.{View, IsImage, IsSound, OnlyRead, OnlyContent}
use Rattle.journal.specs.Records.{HoldsRecords}
use Rattle.journal.specs.State.{JournalState}
use Rattle.site_history.specs.Terms.{Terms}
use Rattle.site_history.specs.Site.{Fields, Site}
use Rattle.site_history.specs.Steps.{HistoryStep}
use Rattle.site_history.specs.Histories.{after, IsHistory, written_forms}
use Rattle.site_history.specs.Worlds.{World, site_of, at, new_world, IsFreshWorld, IsFromFirst, IsWithOrWithout}
use Rattle.site_history.specs.Turns.{IsFound}
use Rattle.site_history.specs.Images.{Reads, ReadsAs, IsSettled}
use Rattle.site_history.specs.Journals.{HoldsHistory, IsBadJournal}
use Rattle.site_history.proofs.HistoryLaws.{after-push}
use Rattle.site_history.proofs.WorldLaws.{first_stands, site_from_first}
use Rattle.site_history.proofs.JournalLaws.{bare, same_steps, same_fields, same_count, same_journal_length, not_bad_journal, bad_journal_same, holds_history_same}
use Rattle.site_history.proofs.Reopenings.{decided, images_after_reading, meanwhile_reading, found_settled}
use Rattle.site_state.specs.declared.state.SiteState.{SiteState}
use Rattle.engine.specs.declared.engine.Engine.{Engine}
use Rattle.engine.specs.declared.events.ShutCause.{ShutCause}
use Rattle.engine.specs.declared.events.ShutCause.TheVariants.{BankFault, BadJournal, NoMemory}
use Rattle.engine.specs.Journals.{TellsJournal}
use Rattle.engine.specs.Replayed.{IsReplayed}
use Rattle.site_state.specs.Keeps.{Keeps}
use Rattle.engine.specs.StandsFor.{StandsFor, IsRecovered, StaysFor}
use Rattle.engine.proofs.Turning.{stands_still}

-- what was replayed is also what another history leaves, whose steps are written alike
pub same_replayed : (terms : Terms) (journal : JournalState) (site : SiteState) (xs ys : List HistoryStep) → IsReplayed terms journal site xs → IsHistory terms ys → written_forms xs ≡ written_forms ys → IsReplayed terms journal site ys
same_replayed terms journal site xs ys h history forms =
    let alike : bare xs ≡ bare ys = same_steps terms xs ys h.history history forms in
    record {
      history = history;
      keeps = subst (λ (f : Fields). Keeps site f) (same_fields terms xs ys alike) h.keeps;
      count = h.count ∙ same_count xs ys alike;
      place = h.place ∙ same_journal_length xs ys alike;
    }

-- an engine that keeps what was replayed, with no reopening due
pub stands_at : (terms : Terms) → {B P : Type 0} (told : Bool) (view : B → View) (new : Engine B P) (steps : List HistoryStep) (clock : ℕ) → IsReplayed terms new.journal new.site steps
    → new.steps ≡ new.journal.count → new.clock ≡ clock → (after terms steps).fields.moment ≤ clock → clock < 2 ^ 40 → new.due ≡ false → new.journal.size ≡ terms.size
    → (IsTrue told → (c : Image) → IsImage (view new.bank) c → Reads terms c steps) → StandsFor terms told view new (at steps clock)
stands_at terms told view new steps clock h count same in_time range due size images = record {
  size = size;
  kept = first_stands terms steps clock h.history;
  first = λ t. record { base = refl; place = refl };
  idle = refl;
  steps = omega (arith, count, h.count);
  clock = same;
  in_time = in_time;
  owed_in_time = λ made e. absurd (let differs : None ≡ Some made = e in cc);
  range = range;
  due = due;
  in_step = λ not_due. (refl, record { keeps = h.keeps; count = omega (arith, h.count); place = h.place });
  images = λ is_told c image. inl (images is_told c image);
}

-- what a journal's area holds is the same where nothing was written
pub holds_before : (terms : Terms) (u v : View) (steps : List HistoryStep) → OnlyRead u v → IsHistory terms steps → HoldsRecords (v.content 0) 0 (written_forms steps) terms.size → HoldsHistory terms (u.content 0) steps
holds_before terms u v steps only history holds = holds_history_same terms (v.content 0) (u.content 0) steps (λ k. sym (only.content 0 k)) (record { history = history; records = holds })

-- no reopening leads to a step later than the clock
reopened_in_time : (terms : Terms) (w : World) (steps : List HistoryStep) → IsFromFirst w → IsWithOrWithout w steps → (site_of terms w).fields.moment ≤ w.clock
    → ((made : HistoryStep) → w.owed ≡ Some made → made.step.moment ≤ w.clock) → (after terms steps).fields.moment ≤ w.clock
reopened_in_time terms w steps first (inl is) in_time owed_in_time =
    subst (λ (l : List HistoryStep). (after terms l).fields.moment ≤ w.clock) (sym is) (subst (λ (s : Site). s.fields.moment ≤ w.clock) (site_from_first terms w first) in_time)
reopened_in_time terms w steps first (inr h) in_time owed_in_time =
    let last : (after terms steps).fields.moment ≡ h.0.step.moment = ap (λ (l : List HistoryStep). (after terms l).fields.moment) h.2 ∙ ap (λ (s : Site). s.fields.moment) (after-push terms w.history h.0) in
    omega (arith, last, owed_in_time h.0 h.1)

-- a journal is not bad where each image reads as a world
pub not_bad : (terms : Terms) (told : Bool) (u v : View) (w : World) (place : ℕ) → (IsTrue told → (c : Image) → IsImage u c → ReadsAs terms w c) → (IsTrue told → IsSound v) → (IsTrue told → OnlyRead u v)
    → (IsTrue told → IsBadJournal terms (v.content 0) place) → told ≡ false
not_bad terms false u v w place images sound only bad = refl
not_bad terms true u v w place images sound only bad =
    let now = images_after_reading terms u v w (only refl) (images refl) v.content (sound refl).reads_as_image in
    absurd (⊎_elim
    (λ (r : Reads terms v.content w.history). not_bad_journal terms (v.content 0) w.history place (record { history = r.history; records = r.records }) (bad refl))
    (λ (more : (made : HistoryStep) × (w.owed ≡ Some made) × Reads terms v.content (w.history ++ made ∷ [])).
    not_bad_journal terms (v.content 0) (w.history ++ more.0 ∷ []) place (record { history = more.2.history; records = more.2.records }) (bad refl))
    now)

-- a world of a history from the first site
fresh : (terms : Terms) (history : List HistoryStep) (clock : ℕ) → IsHistory terms history → IsFreshWorld terms (at history clock)
fresh terms history clock h = record { kept = first_stands terms history clock h; first = record { base = refl; place = refl }; idle = refl; ready = refl; nothing_owed = refl }

module _ (terms : Terms) {B P : Type 0} (view : B → View) (old new : Engine B P) (w : World) where
  -- nothing changed but the store, of which nothing was written
  pub stays : (told : Bool) → StandsFor terms told view old w → new.site ≡ old.site → new.journal ≡ old.journal → new.steps ≡ old.steps → new.clock ≡ old.clock → new.due ≡ old.due
      → (IsTrue told → OnlyRead (view old.bank) (view new.bank)) → StaysFor terms told view old new w
  stays told s site journal steps clock due only = record {
    stands = stands_still terms told view old new w s (λ fields keeps. subst (λ (x : SiteState). Keeps x fields) (sym site) keeps) journal steps clock due
        (λ is_told c image. images_after_reading terms (view old.bank) (view new.bank) w (only is_told) (s.images is_told) c image);
    meanwhile = λ is_told. meanwhile_reading terms (view old.bank) (view new.bank) w (only is_told) (s.images is_told);
  }

  -- the journal was read: the engine stands for the world that the reopening led to
  module _ (read : List HistoryStep) (h : IsReplayed terms new.journal new.site read) (count : new.steps ≡ new.journal.count) (clock : new.clock ≡ max old.clock new.site.moment)
      (due : new.due ≡ false) (size : new.journal.size ≡ old.journal.size) where
    recovered_untold : StandsFor terms false view old w → IsRecovered terms false view old new w
    recovered_untold s =
        let same : new.clock ≡ max w.clock (after terms read).fields.moment = omega (arith, clock, s.clock, h.keeps.moment) in
        record {
          world = at read (max w.clock (after terms read).fields.moment);
          reopened = (fresh terms read (max w.clock (after terms read).fields.moment) h.history, refl);
          stands = stands_at terms false view new read (max w.clock (after terms read).fields.moment) h count same (omega arith) (omega (arith, s.range, new.site.range, h.keeps.moment)) due (size ∙ s.size)
              (λ is_told. absurd (let differs : false ≡ true = is_told in cc));
          meanwhile = λ is_told. absurd (let differs : false ≡ true = is_told in cc);
        }

    recovered_told : StandsFor terms true view old w → IsSound (view new.bank) → OnlyRead (view old.bank) (view new.bank) → OnlyContent 0 (view new.bank)
        → HoldsRecords ((view new.bank).content 0) 0 (written_forms read) terms.size → IsRecovered terms true view old new w
    recovered_told s sound only durable holds =
        let images = images_after_reading terms (view old.bank) (view new.bank) w only (s.images refl) in
        let led = decided terms (view new.bank) durable (written_forms read) holds w sound images in
        let there = same_replayed terms new.journal new.site read led.0 h led.3 led.2 in
        let in_time = reopened_in_time terms w led.0 (s.first refl) led.1 s.in_time s.owed_in_time in
        record {
          world = at led.0 w.clock;
          reopened = (
            led.0,
            led.1,
            holds_before terms (view old.bank) (view new.bank) led.0 only led.3
                (subst (λ (forms : List (List ℕ)). HoldsRecords ((view new.bank).content 0) 0 forms terms.size) led.2 holds),
            refl,
          );
          stands = stands_at terms true view new led.0 w.clock there count (omega (arith, clock, s.clock, there.keeps.moment, in_time)) in_time s.range due (size ∙ s.size)
              (λ is_told c image. led.4 c image);
          meanwhile = λ is_told. meanwhile_reading terms (view old.bank) (view new.bank) w only (s.images refl);
        }

    pub recovered : (told : Bool) → StandsFor terms told view old w → (IsTrue told → IsSound (view new.bank)) → (IsTrue told → OnlyRead (view old.bank) (view new.bank)) → (IsTrue told → OnlyContent 0 (view new.bank))
        → (IsTrue told → HoldsRecords ((view new.bank).content 0) 0 (written_forms read) terms.size) → IsRecovered terms told view old new w
    recovered false s sound only durable holds = recovered_untold s
    recovered true s sound only durable holds = recovered_told s (sound refl) (only refl) (durable refl) (holds refl)

-- an engine that is opened stands for the world of the journal as read, whatever the store tells
pub stands_read : (terms : Terms) → {B P : Type 0} (view : B → View) (new : Engine B P) (read : List HistoryStep) → IsReplayed terms new.journal new.site read
    → new.steps ≡ new.journal.count → new.clock ≡ new.site.moment → new.due ≡ false → new.journal.size ≡ terms.size → StandsFor terms false view new (new_world terms read)
stands_read terms view new read h count clock due size =
    stands_at terms false view new read (after terms read).fields.moment h count (clock ∙ h.keeps.moment) (omega arith) (omega (arith, new.site.range, h.keeps.moment)) due size
    (λ is_told. absurd (let differs : false ≡ true = is_told in cc))

-- It stands for the world of the history that its store is settled for, or for that of the journal as read.
pub opened : (terms : Terms) → {B P : Type 0} (told : Bool) (view : B → View) (before : List HistoryStep) (u : View) (new : Engine B P) (read : List HistoryStep) → IsReplayed terms new.journal new.site read
    → new.steps ≡ new.journal.count → new.clock ≡ new.site.moment → new.due ≡ false → new.journal.size ≡ terms.size
    → (IsTrue told → IsSettled terms u before) → (IsTrue told → OnlyRead u (view new.bank)) → (IsTrue told → OnlyContent 0 (view new.bank))
    → (IsTrue told → HoldsRecords ((view new.bank).content 0) 0 (written_forms read) terms.size)
    → (found : World) × IsFound terms told before found × StandsFor terms told view new found
opened terms false view before u new read h count clock due size settled only durable holds =
    (new_world terms read, (fresh terms read (after terms read).fields.moment h.history, refl), stands_read terms view new read h count clock due size)
opened terms true view before u new read h count clock due size settled only durable holds =
    let found = found_settled terms u (view new.bank) before (settled refl) (only refl) (durable refl) (written_forms read) (holds refl) in
    let there = same_replayed terms new.journal new.site read before h (settled refl).now.history found.0 in (
      new_world terms before,
      refl,
      stands_at terms true view new before (after terms before).fields.moment there count (clock ∙ there.keeps.moment) (omega arith) (omega (arith, new.site.range, there.keeps.moment)) due size
          (λ is_told c image. found.1 c image),
    )

-- what a journal's area says is the same where nothing was written
pub tells_before : (terms : Terms) (u v : View) (cause : ShutCause) → OnlyRead u v → TellsJournal terms (v.content 0) cause → TellsJournal terms (u.content 0) cause
tells_before terms u v BankFault only tells = tt
tells_before terms u v (BadJournal place) only tells = bad_journal_same terms (v.content 0) (u.content 0) place (λ k. sym (only.content 0 k)) tells
tells_before terms u v NoMemory only tells = tt
