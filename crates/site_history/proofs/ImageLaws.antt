-- What images read as: where each of them reads as one history, and where two of them agree.
use Rattle.std.proofs.Common.{◌≡◌, ◌≢◌, inl, ℕ, ◌+◌, ◌-◌, ◌<◌, Bool, true, false, cond, ◌==◌, List, [], ◌∷◌, refl, sym, ◌∙◌, ap, subst, arith}
use Rattle.std.proofs.lemmas.Bool.{eq-eqb, eqb-true}
use Rattle.bank.specs.Content.{Content, Image, Stands, Same}
use Rattle.bank.specs.View.{View, IsImage, IsSound, OnlyContent}
use Rattle.bank.proofs.Spans.{Stands-same}
use Rattle.journal.proofs.Held.{agreeing_holds, fresh_holds}
use Rattle.site_history.specs.Terms.{Terms}
use Rattle.site_history.specs.Steps.{HistoryStep}
use Rattle.site_history.specs.Histories.{after, IsHistory, written_forms}
use Rattle.site_history.specs.Images.{extents, Reads, SameAt, AgreeingReadAlike, IsSettled}
use Rattle.site_history.specs.Extents.{Extent, AllStand}
use Rattle.site_history.specs.Pinned.{StandInAll, IsPinned}

-- An image with this content in one area, and elsewhere what a read gives.
abbrev pub with_area : View → ℕ → Content → Image
with_area v area c a = cond (a == area) c (v.content a)

-- It is one that a crash may leave, if a crash may leave the content.
pub with_area_is_image : (v : View) (area : ℕ) (c : Content) → IsSound v → v.may_leave area c → IsImage v (with_area v area c)
with_area_is_image v area c sound left a = by_test (a == area) (λ is. subst (λ (n : ℕ). v.may_leave n c) (sym (eqb-true a area is)) left)
  where
    by_test : (b : Bool) → (b ≡ true → v.may_leave a c) → v.may_leave a (cond b c (v.content a))
    by_test true there = there refl
    by_test false there = sound.reads_as_image a

-- In its area it has the content.
pub with_area_there : (v : View) (area : ℕ) (c : Content) → with_area v area c area ≡ c
with_area_there v area c = ap (λ (b : Bool). cond b c (v.content area)) (eq-eqb area area refl)

-- What stands in whatever a crash leaves of each area stands in each image.
pub stand_image : (v : View) (c : Image) (es : List Extent) → StandInAll v es → IsImage v c → AllStand c es
stand_image v c [] h image = tt
stand_image v c (e ∷ es) h image = (h.0 (c e.area) (image e.area), stand_image v c es h.1 image)

-- What stands in each image stands in whatever a crash leaves of each area.
pub images_stand : (v : View) (es : List Extent) → IsSound v → ((c : Image) → IsImage v c → AllStand c es) → StandInAll v es
images_stand v [] sound h = tt
images_stand v (e ∷ es) sound h = (
  λ c left. subst (λ (d : Content). Stands d e.place e.bytes) (with_area_there v e.area c)
      (h (with_area v e.area c) (with_area_is_image v e.area c sound left)).0,
  images_stand v es sound (λ c image. (h c image).1),
)

-- Each image of a store that is pinned to a history reads as that history.
pub image_reads : (terms : Terms) (v : View) (c : Image) (steps : List HistoryStep) → IsHistory terms steps → IsPinned terms v steps → IsImage v c → Reads terms c steps
image_reads terms v c steps history h image = record {
  history = history;
  records = h.records.each (c 0) (image 0);
  bytes = stand_image v c (extents (after terms steps)) h.bytes image;
}

-- A store is pinned to a history if each of its images reads as that history.
pub pinned_by_images : (terms : Terms) (v : View) (steps : List HistoryStep) → IsSound v → ((c : Image) → IsImage v c → Reads terms c steps) → IsPinned terms v steps
pinned_by_images terms v steps sound reads = record {
  records = record { each = λ c left. (reads (with_area v 0 c) (with_area_is_image v 0 c sound left)).records };
  bytes = images_stand v (extents (after terms steps)) sound (λ c image. (reads c image).bytes);
}

-- Bytes stand where the same bytes stand.
pub same_stand : (c d : Image) (es : List Extent) → SameAt c d es → AllStand c es → AllStand d es
same_stand c d [] same h = tt
same_stand c d (e ∷ es) same h = (
  Stands-same (c e.area) (d e.area) e.place e.bytes
      (λ k low high. let there : e.place + (k - e.place) ≡ k = omega arith in sym (ap (d e.area) there) ∙ same.0 (k - e.place) (omega arith) ∙ ap (c e.area) there) h.0,
  same_stand c d es same.1 h.1,
)

-- Two images that agree in the journal, below its size, and wherever a site's bytes lie read as the same histories.
pub agreeing_below : (terms : Terms) (c d : Image) (steps : List HistoryStep) → ((k : ℕ) → k < terms.size → d 0 k ≡ c 0 k) → SameAt c d (extents (after terms steps)) → Reads terms c steps → Reads terms d steps
agreeing_below terms c d steps journal files h = record {
  history = h.history;
  records = agreeing_holds (written_forms steps) terms.size (c 0) (d 0) journal h.records;
  bytes = same_stand c d (extents (after terms steps)) files h.bytes;
}

-- So they do where they agree in all of the journal's area.
pub agreeing_read : AgreeingReadAlike
agreeing_read terms c d steps agree h = agreeing_below terms c d steps agree.0 agree.1 h

-- Images with the same bytes everywhere are the same at each extent, and read as the same histories.
pub same_everywhere : (c d : Image) (es : List Extent) → ((a : ℕ) → Same (c a) (d a)) → SameAt c d es
same_everywhere c d [] same = tt
same_everywhere c d (e ∷ es) same = ((λ k lt. sym (same e.area (e.place + k))), same_everywhere c d es same)

pub same_read : (terms : Terms) (c d : Image) (steps : List HistoryStep) → ((a : ℕ) → Same (c a) (d a)) → Reads terms c steps → Reads terms d steps
same_read terms c d steps same reads = agreeing_read terms c d steps (λ k lt. sym (same 0 k), same_everywhere c d (extents (after terms steps)) same) reads

-- What stands in whatever a crash leaves still does where it leaves nothing else.
pub stand_in_fewer : (u v : View) (es : List Extent) → ((a : ℕ) (c : Content) → v.may_leave a c → u.may_leave a c) → StandInAll u es → StandInAll v es
stand_in_fewer u v [] fewer h = tt
stand_in_fewer u v (e ∷ es) fewer h = ((λ c left. h.0 c (fewer e.area c left)), stand_in_fewer u v es fewer h.1)

-- An image whose journal begins with a closed gate reads as the history of no step.
pub fresh_reads : (terms : Terms) (c : Image) → c 0 0 ≢ 1 → Reads terms c []
fresh_reads terms c shut = record { history = tt; records = fresh_holds (c 0) terms.size shut; bytes = tt }

-- A store of which each image does is settled for it.
pub fresh_settled : (terms : Terms) (v : View) → IsSound v → ((c : Image) → IsImage v c → c 0 0 ≢ 1) → IsSettled terms v []
fresh_settled terms v sound shut = record {
  now = fresh_reads terms v.content (shut v.content sound.reads_as_image);
  each = λ c image. inl (fresh_reads terms c (shut c image));
}

-- A store of which a crash leaves what it reads is settled for the history as which it reads.
pub crashed_settled : (terms : Terms) (v : View) (steps : List HistoryStep) → ((area : ℕ) → OnlyContent area v) → Reads terms v.content steps → IsSettled terms v steps
crashed_settled terms v steps only reads = record {
  now = reads;
  each = λ c image. inl (same_read terms v.content c steps (λ a. only a (c a) (image a)) reads);
}
