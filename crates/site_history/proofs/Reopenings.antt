-- A reopening decides whether the step that is owed is there.
use Rattle.std.proofs.Common.{◌≡◌, inl, inr, ⊎_elim, ℕ, List, [], ◌∷◌, ◌++◌, length, Option, Some, None, refl, sym, ◌∙◌, ap, subst, arith, length-append}
use Rattle.std.proofs.lemmas.List.{length-map}
use Rattle.bank.specs.Content.{Image, Same}
use Rattle.bank.specs.View.{View, IsImage, IsSound, OnlyContent, OnlyRead, LeavesOnly}
use Rattle.bank.proofs.Instants.{weakened}
use Rattle.journal.specs.Records.{HoldsRecords}
use Rattle.journal.proofs.RecordLaws.{holds-same, one_list}
use Rattle.step_codec.specs.Written.{written}
use Rattle.site_history.specs.Terms.{Terms}
use Rattle.site_history.specs.Steps.{HistoryStep}
use Rattle.site_history.specs.Histories.{after, IsHistory, written_forms}
use Rattle.site_history.specs.Worlds.{World, IsWithOrWithout}
use Rattle.site_history.specs.Images.{extents, Reads, ReadsNear, IsSettled, ReadsAs, IsSettledAs}
use Rattle.site_history.specs.Journals.{HoldsHistory, IsBadJournal}
use Rattle.site_history.specs.Pinned.{IsPinned}
use Rattle.site_history.proofs.ImageLaws.{pinned_by_images, same_read, stand_in_fewer}
use Rattle.site_history.proofs.JournalLaws.{not_bad_journal}

-- A history with one step more has other written forms.
longer : (steps : List HistoryStep) (made : HistoryStep) → written_forms steps ≡ written_forms (steps ++ made ∷ []) → ⊥
longer steps made e = omega (
  arith,
  ap length e,
  length-map steps (λ (m : HistoryStep). written m.step),
  length-map (steps ++ made ∷ []) (λ (m : HistoryStep). written m.step),
  length-append steps (made ∷ []),
)

-- One value is owed.
one_owed : {A : Type 0} (o : Option A) (x y : A) → o ≡ Some x → o ≡ Some y → x ≡ y
one_owed o x y e f = let both : Some x ≡ Some y = sym e ∙ f in cc

-- Where no step is owed, an image that reads as a world reads as its history.
pub reads_alone : (terms : Terms) (w : World) (c : Image) → w.owed ≡ None → ReadsAs terms w c → Reads terms c w.history
reads_alone terms w c none (inl reads) = reads
reads_alone terms w c none (inr more) = absurd (let no : None ≡ Some more.0 = sym none ∙ more.1 in cc)

-- And then a store is pinned to the history if each of its images reads as the world.
pub pinned_by_world : (terms : Terms) (v : View) (w : World) → IsSound v → w.owed ≡ None → ((c : Image) → IsImage v c → ReadsAs terms w c) → IsPinned terms v w.history
pinned_by_world terms v w sound none images = pinned_by_images terms v w.history sound (λ c image. reads_alone terms w c none (images c image))

-- The journal of an image that reads as a history holds that history, and is not bad.
pub journal_of_image : (terms : Terms) (c : Image) (steps : List HistoryStep) → Reads terms c steps → HoldsHistory terms (c 0) steps
journal_of_image terms c steps reads = record { history = reads.history; records = reads.records }

pub never_bad : (terms : Terms) (v : View) (w : World) (place : ℕ) → IsSound v → ((c : Image) → IsImage v c → ReadsAs terms w c) → IsBadJournal terms (v.content 0) place → ⊥
never_bad terms v w place sound images bad = ⊎_elim
    (λ reads. not_bad_journal terms (v.content 0) w.history place (journal_of_image terms v.content w.history reads) bad)
    (λ more. not_bad_journal terms (v.content 0) (w.history ++ more.0 ∷ []) place (journal_of_image terms v.content (w.history ++ more.0 ∷ []) more.2) bad)
    (images v.content sound.reads_as_image)

-- Nor is that of a settled store.
pub settled_never_bad : (terms : Terms) (v : View) (steps : List HistoryStep) (place : ℕ) → IsSettled terms v steps → IsBadJournal terms (v.content 0) place → ⊥
settled_never_bad terms v steps place settled bad = not_bad_journal terms (v.content 0) steps place (journal_of_image terms v.content steps settled.now) bad

module _ (terms : Terms) (v : View) (only : OnlyContent 0 v) (payloads : List (List ℕ)) (read : HoldsRecords (v.content 0) 0 payloads terms.size) where
  -- The payloads that were read are the written forms of each history that an image reads as.
  pub read_as : (c : Image) (steps : List HistoryStep) → Same (v.content 0) (c 0) → Reads terms c steps → payloads ≡ written_forms steps
  read_as c steps same reads = one_list (v.content 0) 0 payloads (written_forms steps) terms.size read
      (holds-same (c 0) (v.content 0) 0 (written_forms steps) terms.size (λ k le. same k) reads.records)

  -- In each image a crash may leave of the journal what was read.
  journal_alike : (c : Image) → IsImage v c → Same (v.content 0) (c 0)
  journal_alike c image = only (c 0) (image 0)

  -- An image does not read as one history while the records read are those of a longer one, or of a shorter one.
  not_shorter : (c : Image) (steps : List HistoryStep) (made : HistoryStep) → IsImage v c → payloads ≡ written_forms (steps ++ made ∷ []) → Reads terms c steps → ⊥
  not_shorter c steps made image e reads = longer steps made (sym (read_as c steps (journal_alike c image) reads) ∙ e)

  not_longer_one : (c : Image) (steps : List HistoryStep) (made : HistoryStep) → IsImage v c → payloads ≡ written_forms steps → Reads terms c (steps ++ made ∷ []) → ⊥
  not_longer_one c steps made image e reads = longer steps made (sym e ∙ read_as c (steps ++ made ∷ []) (journal_alike c image) reads)

  module _ (w : World) (sound : IsSound v) (images : (c : Image) → IsImage v c → ReadsAs terms w c) where
    -- What a reopening leads to: each image reads as the one history whose records were read.
    abbrev pub LeadsTo : List HistoryStep → Type 0
    LeadsTo steps = IsWithOrWithout w steps × (payloads ≡ written_forms steps) × IsHistory terms steps × ((c : Image) → IsImage v c → Reads terms c steps)

    without_step : Reads terms v.content w.history → LeadsTo w.history
    without_step now =
        let e = read_as v.content w.history (λ k. refl) now in
        (inl refl, e, now.history, λ c image. ⊎_elim (λ reads. reads) (λ more. absurd (not_longer_one c w.history more.0 image e more.2)) (images c image))

    with_owed : (made : HistoryStep) → w.owed ≡ Some made → Reads terms v.content (w.history ++ made ∷ []) → LeadsTo (w.history ++ made ∷ [])
    with_owed made owed now =
        let e = read_as v.content (w.history ++ made ∷ []) (λ k. refl) now in (
          inr (made, owed, refl),
          e,
          now.history,
          λ c image. ⊎_elim
              (λ reads. absurd (not_shorter c w.history made image e reads))
              (λ more. subst (λ (m : HistoryStep). Reads terms c (w.history ++ m ∷ [])) (one_owed w.owed more.0 made more.1 owed) more.2)
              (images c image),
        )

    -- A reopening leads to the history, or to that with the step that is owed, and then each image reads as it.
    pub decided : (steps : List HistoryStep) × IsWithOrWithout w steps × (payloads ≡ written_forms steps) × IsHistory terms steps × ((c : Image) → IsImage v c → Reads terms c steps)
    decided = ⊎_elim
        (λ now. let h = without_step now in (w.history, h.0, h.1, h.2, h.3))
        (λ now. let h = with_owed now.0 now.1 now.2 in (w.history ++ now.0 ∷ [], h.0, h.1, h.2, h.3))
        (images v.content sound.reads_as_image)

-- Calls that wrote nothing leave each image as it read before.
pub images_after_reading : (terms : Terms) (u v : View) (w : World) → OnlyRead u v → ((c : Image) → IsImage u c → ReadsAs terms w c) → (c : Image) → IsImage v c → ReadsAs terms w c
images_after_reading terms u v w h images c image = images c (λ a. h.images a (c a) (image a))

-- And so they do at each moment meanwhile.
pub meanwhile_reading : (terms : Terms) (u v : View) (w : World) → OnlyRead u v → ((c : Image) → IsImage u c → ReadsAs terms w c) → LeavesOnly u v (ReadsAs terms w)
meanwhile_reading terms u v w h images = weakened u v (IsImage u) (ReadsAs terms w) h.meanwhile images

-- They leave a store settled.
pub settled_after_reading : (terms : Terms) (u v : View) (steps : List HistoryStep) → OnlyRead u v → IsSettled terms u steps → IsSettled terms v steps
settled_after_reading terms u v steps h settled = record {
  now = same_read terms u.content v.content steps h.content settled.now;
  each = λ c image. settled.each c (λ a. h.images a (c a) (image a));
}

-- They leave it pinned.
pub pinned_after_reading : (terms : Terms) (u v : View) (steps : List HistoryStep) → OnlyRead u v → IsPinned terms u steps → IsPinned terms v steps
pinned_after_reading terms u v steps h pinned = record {
  records = record { each = λ c left. pinned.records.each c (h.images 0 c left) };
  bytes = stand_in_fewer u v (extents (after terms steps)) h.images pinned.bytes;
}

module _ (terms : Terms) (v : View) (before : List HistoryStep) (settled : IsSettled terms v before) (only : OnlyContent 0 v) (payloads : List (List ℕ)) (read : HoldsRecords (v.content 0) 0 payloads terms.size) where
  settled_forms : payloads ≡ written_forms before
  settled_forms = read_as terms v only payloads read v.content before (λ k. refl) settled.now

  -- A store that is settled for a history, and whose journal is on the medium, reads as that history in each image.
  pub settled_read : (payloads ≡ written_forms before) × ((c : Image) → IsImage v c → Reads terms c before)
  settled_read = (settled_forms, λ c image. by_near c image (settled.each c image))
    where
      by_near : (c : Image) → IsImage v c → ReadsNear terms before c → Reads terms c before
      by_near c image (inl reads) = reads
      by_near c image (inr (inl less)) =
          absurd (not_shorter terms v only payloads read c less.0 less.1 image (settled_forms ∙ ap (λ (l : List HistoryStep). written_forms l) less.2) less.3)
      by_near c image (inr (inr more)) = absurd (not_longer_one terms v only payloads read c before more.0 image settled_forms more.1)

-- The first reopening: the store is settled for a history, nothing was written since, and the journal is on the medium.
pub found_settled : (terms : Terms) (u v : View) (before : List HistoryStep) → IsSettled terms u before → OnlyRead u v → OnlyContent 0 v → (payloads : List (List ℕ)) → HoldsRecords (v.content 0) 0 payloads terms.size
    → (payloads ≡ written_forms before) × ((c : Image) → IsImage v c → Reads terms c before)
found_settled terms u v before settled h only payloads read = settled_read terms v before (settled_after_reading terms u v before h settled) only payloads read

-- Where each image reads as a world, the store is settled for its history, or for that with the step that is owed.
pub settled_as : (terms : Terms) (v : View) (w : World) → IsSound v → ((c : Image) → IsImage v c → ReadsAs terms w c) → IsSettledAs terms v w
settled_as terms v w sound images = ⊎_elim
    (λ now. inl (record { now = now; each = λ c image. ⊎_elim (λ reads. inl reads) (λ more. inr (inr (more.0, more.2))) (images c image) }))
    (λ now. inr (
      now.0,
      now.1,
      record {
        now = now.2;
        each = λ c image. ⊎_elim
            (λ reads. inr (inl (w.history, now.0, refl, reads)))
            (λ more. inl (subst (λ (m : HistoryStep). Reads terms c (w.history ++ m ∷ [])) (one_owed w.owed more.0 now.0 more.1 now.1) more.2))
            (images c image);
      },
    ))
    (images v.content sound.reads_as_image)
