-- The record of a step is appended to the journal, once the bytes of the step stand.
use Rattle.std.proofs.Common.{◌≡◌, ◌⊎◌, inl, inr, ⊎_elim, ℕ, ◌+◌, List, [], ◌∷◌, ◌++◌, length, refl, sym, ◌∙◌, ap, subst}
use Rattle.bank.specs.Content.{Image}
use Rattle.bank.specs.View.{View, IsImage, IsSound, LeavesOnly, Wrote}
use Rattle.bank.proofs.Instants.{weakened, joined}
use Rattle.journal.specs.Records.{HoldsRecords, AllHold, IsBeforeOrAfter}
use Rattle.journal.proofs.Held.{now_has}
use Rattle.step_codec.specs.Written.{written}
use Rattle.site_history.specs.Terms.{Terms}
use Rattle.site_history.specs.Site.{Site}
use Rattle.site_history.specs.Steps.{HistoryStep, effect, IsLegal, HasBytes, step_extents}
use Rattle.site_history.specs.Histories.{after, IsHistory, written_forms}
use Rattle.site_history.specs.Images.{extents, Reads}
use Rattle.site_history.specs.Extents.{AllStand}
use Rattle.site_history.specs.Pinned.{StandInAll, IsPinned}
use Rattle.site_history.proofs.HistoryLaws.{after-push, history-push}
use Rattle.site_history.proofs.Extents.{site_in_cache, stand_along, others_image}
use Rattle.site_history.proofs.KeptLaws.{distinct_inodes}
use Rattle.site_history.proofs.StepExtents.{effect_stands}

-- The written forms of a history and one step more.
pub written_forms-push : (steps : List HistoryStep) (made : HistoryStep) → written_forms (steps ++ made ∷ []) ≡ written_forms steps ++ written made.step ∷ []
written_forms-push [] made = refl
written_forms-push (s ∷ steps) made = ap (λ (l : List (List ℕ)). written s.step ∷ l) (written_forms-push steps made)

-- All bytes of the site after a step stand, if its history is pinned and what a put stores stands.
pub step_ready : (terms : Terms) (v : View) (steps : List HistoryStep) (made : HistoryStep) → IsHistory terms steps → IsPinned terms v steps → IsLegal terms (after terms steps).fields made.step → HasBytes made
    → StandInAll v (step_extents made (after terms steps)) → StandInAll v (extents (effect terms made (after terms steps)))
step_ready terms v steps made history h legal bytes ready = effect_stands terms v made (after terms steps) (distinct_inodes terms steps history) legal bytes h.bytes ready

module _ (terms : Terms) (v w : View) (steps : List HistoryStep) (made : HistoryStep) (history : IsHistory terms steps) (legal : IsLegal terms (after terms steps).fields made.step) (has : HasBytes made)
    (h : IsPinned terms v steps) (ready : StandInAll v (extents (effect terms made (after terms steps)))) (payload : List ℕ) (is : payload ≡ written made.step) where
  -- The history with the step.
  pub longer_history : IsHistory terms (steps ++ made ∷ [])
  longer_history = history-push terms steps made history legal has

  appended_forms : written_forms steps ++ payload ∷ [] ≡ written_forms (steps ++ made ∷ [])
  appended_forms = ap (λ (l : List ℕ). written_forms steps ++ l ∷ []) is ∙ sym (written_forms-push steps made)

  old_image : (c : Image) → IsBeforeOrAfter v (written_forms steps) payload terms.size c → HoldsRecords (c 0) 0 (written_forms steps) terms.size → Reads terms c steps
  old_image c appended old = record { history = history; records = old; bytes = others_image v c (extents (after terms steps)) (site_in_cache (after terms steps)) appended.others h.bytes }

  new_image : (c : Image) → IsBeforeOrAfter v (written_forms steps) payload terms.size c → HoldsRecords (c 0) 0 (written_forms steps ++ payload ∷ []) terms.size → Reads terms c (steps ++ made ∷ [])
  new_image c appended new = record {
    history = longer_history;
    records = subst (λ (l : List (List ℕ)). HoldsRecords (c 0) 0 l terms.size) appended_forms new;
    bytes = subst (λ (site : Site). AllStand c (extents site)) (sym (after-push terms steps made))
        (others_image v c (extents (effect terms made (after terms steps))) (site_in_cache (effect terms made (after terms steps))) appended.others ready);
  }

  either : (c : Image) → IsBeforeOrAfter v (written_forms steps) payload terms.size c → Reads terms c steps ⊎ Reads terms c (steps ++ made ∷ [])
  either c appended = ⊎_elim (λ old. inl (old_image c appended old)) (λ new. inr (new_image c appended new)) appended.records

  -- At each moment of the append what a crash leaves reads as the history, without the step or with it.
  pub commit_meanwhile : LeavesOnly v w (IsBeforeOrAfter v (written_forms steps) payload terms.size) → LeavesOnly v w (λ c. Reads terms c steps ⊎ Reads terms c (steps ++ made ∷ []))
  commit_meanwhile appended = weakened v w (IsBeforeOrAfter v (written_forms steps) payload terms.size) (λ c. Reads terms c steps ⊎ Reads terms c (steps ++ made ∷ [])) appended either

  -- Once the record is acknowledged, the store is pinned to the history with the step.
  pub commit_pinned : (place : ℕ) → AllHold w (written_forms steps ++ payload ∷ []) terms.size → Wrote 0 place (6 + length payload) v w → IsPinned terms w (steps ++ made ∷ [])
  commit_pinned place holds wrote = record {
    records = subst (λ (l : List (List ℕ)). AllHold w l terms.size) appended_forms holds;
    bytes = subst (λ (site : Site). StandInAll w (extents site)) (sym (after-push terms steps made))
        (stand_along v w (extents (effect terms made (after terms steps))) (site_in_cache (effect terms made (after terms steps))) wrote.other_images ready);
  }

  -- After a fault each image reads as the one or the other.
  pub commit_faulted : IsSound w → LeavesOnly v w (IsBeforeOrAfter v (written_forms steps) payload terms.size) → (c : Image) → IsImage w c → Reads terms c steps ⊎ Reads terms c (steps ++ made ∷ [])
  commit_faulted sound appended c image = now_has v w (λ c. Reads terms c steps ⊎ Reads terms c (steps ++ made ∷ [])) sound (commit_meanwhile appended) c image

-- First the bytes of a step are written, elsewhere, and then its record is appended: what a crash leaves in all that time.
pub put_meanwhile : (terms : Terms) (u v w : View) (steps : List HistoryStep) (made : HistoryStep) → LeavesOnly u v (λ c. Reads terms c steps)
    → LeavesOnly v w (λ c. Reads terms c steps ⊎ Reads terms c (steps ++ made ∷ [])) → LeavesOnly u w (λ c. Reads terms c steps ⊎ Reads terms c (steps ++ made ∷ []))
put_meanwhile terms u v w steps made first second = joined u v w (λ c. Reads terms c steps ⊎ Reads terms c (steps ++ made ∷ []))
    (weakened u v (λ c. Reads terms c steps) (λ c. Reads terms c steps ⊎ Reads terms c (steps ++ made ∷ [])) first (λ c reads. inl reads)) second
