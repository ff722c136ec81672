-- A step's record is appended: what the engine stands for then.
use Rattle.std.proofs.Common.{◌≡◌, ◌⊎◌, inl, inr, ⊎_elim, ℕ, ◌+◌, ◌≤◌, [], ◌∷◌, ◌++◌, length, refl, sym, ◌∙◌, ap, subst, arith, Bool, true, false, Some, None}
use Rattle.std.specs.Prelude.{IsTrue}
use Rattle.bank.specs.Content.{Image}
use Rattle.bank.specs.View.{View, IsImage, IsSound, LeavesOnly, Wrote}
use Rattle.bank.proofs.Instants.{weakened}
use Rattle.journal.specs.Records.{AllHold, IsBeforeOrAfter, end_of}
use Rattle.site_history.specs.Terms.{Terms}
use Rattle.site_history.specs.Site.{Site}
use Rattle.site_history.specs.Steps.{HistoryStep, fields_after, effect, IsLegal, step_extents}
use Rattle.site_history.specs.Histories.{after, IsHistory, written_forms}
use Rattle.site_history.specs.Worlds.{World, site_of, steps_of, made_in, owing_in}
use Rattle.site_history.specs.Images.{extents, Reads, ReadsAs, ReadsBetween}
use Rattle.site_history.specs.Pinned.{StandInAll, IsPinned}
use Rattle.site_history.proofs.HistoryLaws.{history-push}
use Rattle.site_history.proofs.JournalLaws.{end_of-history}
use Rattle.site_history.proofs.ImageLaws.{image_reads}
use Rattle.site_history.proofs.Reopenings.{pinned_by_world}
use Rattle.site_history.proofs.Commits.{step_ready, commit_meanwhile, commit_pinned, commit_faulted}
use Rattle.site_history.proofs.WorldLaws.{site_from_first, history_from_first, site_made, moment_made, made_stands as made_on_base, steps_made, made_from_first}
use Rattle.site_history.proofs.Between.{between_whole, between_last}
use Rattle.engine.specs.declared.engine.Engine.{Engine}
use Rattle.site_state.specs.Keeps.{Keeps}
use Rattle.engine.specs.StandsFor.{IsInStep, StandsFor, Moves}
use Rattle.engine.specs.Ready.{IsReady}

module _ (terms : Terms) {B P : Type 0} (told : Bool) (view : B → View) (old new : Engine B P) (w : World) (made : HistoryStep) (ready : IsReady terms told view old w made) where
  -- nothing is owed, and the engine is in step with the world
  nothing_owed : w.owed ≡ None
  nothing_owed = (ready.stands.in_step ready.ready).0

  in_step_now : IsInStep terms old w
  in_step_now = (ready.stands.in_step ready.ready).1

  -- so many steps were made
  pub count_is : old.journal.count ≡ steps_of w
  count_is = in_step_now.count

  pub keeps_now : Keeps old.site (site_of terms w).fields
  keeps_now = in_step_now.keeps

  -- of a store that tells its content
  module _ (t : IsTrue told) where
    -- the journal goes on where the history's records end
    pub at_end : old.journal.place ≡ end_of 0 (written_forms w.history)
    at_end = in_step_now.place ∙ (ready.stands.first t).place ∙ sym (end_of-history w.history)

    history_now : IsHistory terms w.history
    history_now = history_from_first terms w (ready.stands.first t) ready.stands.kept

    site_now : site_of terms w ≡ after terms w.history
    site_now = site_from_first terms w (ready.stands.first t)

    legal_now : IsLegal terms (after terms w.history).fields made.step
    legal_now = subst (λ (s : Site). IsLegal terms s.fields made.step) site_now ready.legal

    -- also the history that the step makes
    history_then : IsHistory terms (w.history ++ made ∷ [])
    history_then = history-push terms w.history made history_now legal_now ready.bytes

    module _ (sound : IsSound (view old.bank)) where
      -- each image reads as the history, and whatever a crash leaves holds it
      pub pinned_now : IsPinned terms (view old.bank) w.history
      pinned_now = pinned_by_world terms (view old.bank) w sound nothing_owed (ready.stands.images t)

      pub records_now : AllHold (view old.bank) (written_forms w.history) old.journal.size
      records_now = subst (λ (n : ℕ). AllHold (view old.bank) (written_forms w.history) n) (sym ready.stands.size) pinned_now.records

      bytes_then : StandInAll (view old.bank) (extents (effect terms made (after terms w.history)))
      bytes_then = step_ready terms (view old.bank) w.history made history_now pinned_now legal_now ready.bytes
          (subst (λ (s : Site). StandInAll (view old.bank) (step_extents made s)) site_now (ready.stored t))

  module _ (clock : new.clock ≡ old.clock) (size : new.journal.size ≡ old.journal.size) (sound : IsTrue told → IsSound (view old.bank)) (sound_then : IsTrue told → IsSound (view new.bank))
      (meanwhile : IsTrue told → LeavesOnly (view old.bank) (view new.bank) (IsBeforeOrAfter (view old.bank) (written_forms w.history) old.payload.items old.journal.size)) where
    meanwhile_at : IsTrue told → LeavesOnly (view old.bank) (view new.bank) (IsBeforeOrAfter (view old.bank) (written_forms w.history) old.payload.items terms.size)
    meanwhile_at t = subst (λ (n : ℕ). LeavesOnly (view old.bank) (view new.bank) (IsBeforeOrAfter (view old.bank) (written_forms w.history) old.payload.items n)) ready.stands.size (meanwhile t)

    either_way : IsTrue told → LeavesOnly (view old.bank) (view new.bank) (λ c. Reads terms c w.history ⊎ Reads terms c (w.history ++ made ∷ []))
    either_way t = commit_meanwhile terms (view old.bank) (view new.bank) w.history made (history_now t) (legal_now t) ready.bytes (pinned_now t (sound t)) (bytes_then t (sound t))
        old.payload.items ready.form (meanwhile_at t)

    -- the journal failed: the step is owed
    module _ (steps : new.steps ≡ old.steps) (due : new.due ≡ true) where
      owing_images : IsTrue told → (c : Image) → IsImage (view new.bank) c → ReadsAs terms (owing_in (Some made) w) c
      owing_images t c image = (⊎_elim (λ was. inl was) (λ is. inr (made, refl, is))
          (commit_faulted terms (view old.bank) (view new.bank) w.history made (history_now t) (legal_now t) ready.bytes (pinned_now t (sound t)) (bytes_then t (sound t))
          old.payload.items ready.form (sound_then t) (meanwhile_at t) c image))

      owed_in_time : (owed : HistoryStep) → (owing_in (Some made) w).owed ≡ Some owed → owed.step.moment ≤ w.clock
      owed_in_time owed e =
          let same : made ≡ owed = cc in
          let at_it : owed.step.moment ≡ w.clock = ap (λ (m : HistoryStep). m.step.moment) (sym same) ∙ ready.moment ∙ ready.stands.clock in
          omega (arith, at_it)

      pub owed_stands : StandsFor terms told view new (owing_in (Some made) w)
      owed_stands = record {
        kept = record { fields = ready.stands.kept.fields; bytes = ready.stands.kept.bytes; history = ready.stands.kept.history };
        first = λ t. record { base = (ready.stands.first t).base; place = (ready.stands.first t).place };
        idle = refl;
        steps = steps ∙ ready.stands.steps;
        clock = clock ∙ ready.stands.clock;
        in_time = ready.stands.in_time;
        owed_in_time = owed_in_time;
        range = ready.stands.range;
        due = due;
        in_step = λ not_due. absurd (let no : true ≡ false = sym due ∙ not_due in cc);
        size = size ∙ ready.stands.size;
        images = owing_images;
      }

      pub owed_moves : Moves terms told view old new w (owing_in (Some made) w)
      owed_moves = record {
        stands = owed_stands;
        meanwhile = λ t. weakened (view old.bank) (view new.bank) (λ c. Reads terms c w.history ⊎ Reads terms c (w.history ++ made ∷ []))
            (ReadsBetween terms w (owing_in (Some made) w)) (either_way t)
            (λ c reads. ⊎_elim (λ was. inl (inl was)) (λ is. between_whole terms w (owing_in (Some made) w) c (made ∷ [], refl) is) reads);
      }

    -- the record is acknowledged: the step is made
    module _ (steps : new.steps ≡ old.journal.count + 1) (count : new.journal.count ≡ old.journal.count + 1) (place : new.journal.place ≡ old.journal.place + 5 + length old.payload.items)
        (due : new.due ≡ false) (keeps : Keeps new.site (fields_after terms made.step (site_of terms w).fields))
        (holds : IsTrue told → AllHold (view new.bank) (written_forms w.history ++ old.payload.items ∷ []) old.journal.size)
        (wrote : IsTrue told → Wrote 0 old.journal.place (6 + length old.payload.items) (view old.bank) (view new.bank)) where
      pinned_then : IsTrue told → IsPinned terms (view new.bank) (w.history ++ made ∷ [])
      pinned_then t = commit_pinned terms (view old.bank) (view new.bank) w.history made (history_now t) (legal_now t) ready.bytes (pinned_now t (sound t)) (bytes_then t (sound t))
          old.payload.items ready.form old.journal.place
          (subst (λ (n : ℕ). AllHold (view new.bank) (written_forms w.history ++ old.payload.items ∷ []) n) ready.stands.size (holds t)) (wrote t)

      pub made_stands : StandsFor terms told view new (made_in (Some made) w)
      made_stands = record {
        kept = made_on_base terms w made ready.stands.kept ready.legal ready.bytes;
        first = λ t. made_from_first w made (ready.stands.first t);
        idle = ready.stands.idle;
        steps = omega (arith, steps, count_is, steps_made w made);
        clock = clock ∙ ready.stands.clock;
        in_time = omega (arith, moment_made terms w made, ready.moment, ready.stands.clock);
        owed_in_time = ready.stands.owed_in_time;
        range = ready.stands.range;
        due = due ∙ sym ready.ready ∙ ready.stands.due;
        in_step = λ not_due. (
          nothing_owed,
          record {
            keeps = subst (λ (s : Site). Keeps new.site s.fields) (sym (site_made terms w made)) keeps;
            count = omega (arith, count, count_is, steps_made w made);
            place = omega (arith, place, in_step_now.place, ap length ready.form);
          },
        );
        size = size ∙ ready.stands.size;
        images = λ t c image. inl (image_reads terms (view new.bank) c (w.history ++ made ∷ []) (history_then t) (pinned_then t) image);
      }

      pub made_moves : Moves terms told view old new w (made_in (Some made) w)
      made_moves = record {
        stands = made_stands;
        meanwhile = λ t. weakened (view old.bank) (view new.bank) (λ c. Reads terms c w.history ⊎ Reads terms c (w.history ++ made ∷ []))
            (ReadsBetween terms w (made_in (Some made) w)) (either_way t)
            (λ c reads. ⊎_elim (λ was. inl (inl was)) (λ is. between_last terms w (made_in (Some made) w) c (made ∷ [], refl) is) reads);
      }
