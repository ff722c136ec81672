-- What stays of the records while other things happen in the store.
use Rattle.std.proofs.Common.{◌≡◌, ◌≢◌, ◌⊎◌, inl, inr, ◌<◌, ◌≤◌, ℕ, ◌+◌, List, [], ◌∷◌, ◌++◌, length, refl, sym, ◌∙◌, ap, arith, length-append}
use Rattle.std.proofs.lemmas.Bool.{cases_lt}
use Rattle.std.specs.List.{All}
use Rattle.std.proofs.lemmas.List.Elements.{All-nil, All-cons}
use Rattle.bank.specs.Content.{Content, Image}
use Rattle.bank.specs.View.{View, IsImage, IsSound, IsTornImage, LeavesOnly, Wrote, OnlyRead}
use Rattle.journal.specs.Records.{IsPayload, AreRecords, end_of, IsEnd, HoldsRecords, AllHold}
use Rattle.journal.proofs.RecordLaws.{end-within, before-same, one_list}

-- what each image since an instant has, an image now has
pub now_has : (old new : View) (P : Image → Type 0) → IsSound new → LeavesOnly old new P → (c : Image) → IsImage new c → P c
now_has old new P sound h c image = h.each c (sound.counts_now old.instant c h.later image)

module _ (xs : List (List ℕ)) (size : ℕ) where
  -- an image holds the records, and so does what a read gives
  pub image_holds : (v : View) (c : Image) → AllHold v xs size → IsImage v c → HoldsRecords (c 0) 0 xs size
  image_holds v c hold image = hold.each (c 0) (image 0)

  pub content_holds : (v : View) → IsSound v → AllHold v xs size → HoldsRecords (v.content 0) 0 xs size
  content_holds v sound hold = hold.each (v.content 0) (sound.reads_as_image 0)

  -- after calls that wrote nothing, or in another area
  pub hold_read : (old new : View) → OnlyRead old new → AllHold old xs size → AllHold new xs size
  hold_read old new h hold = record { each = λ c left. hold.each c (h.images 0 c left) }

  pub hold_elsewhere : (area p n : ℕ) (old new : View) → area ≢ 0 → Wrote area p n old new → AllHold old xs size → AllHold new xs size
  hold_elsewhere area p n old new ne h hold = record { each = λ c left. hold.each c (h.other_images 0 c (λ e. ne (sym e)) left) }

  -- and at each instant meanwhile
  pub torn_holds : (area p n : ℕ) (v : View) (c : Image) → area ≢ 0 → AllHold v xs size → IsTornImage v area p n c → HoldsRecords (c 0) 0 xs size
  torn_holds area p n v c ne hold torn = hold.each (c 0) (torn.others 0 (λ e. ne (sym e)))

  -- two contents that agree within the area hold the same records
  pub agreeing_holds : (c d : Content) → ((k : ℕ) → k < size → d k ≡ c k) → HoldsRecords c 0 xs size → HoldsRecords d 0 xs size
  agreeing_holds c d agree h = record {
    records = before-same c d 0 xs size (λ k lt. agree k (omega (arith, lt, within))) h.records;
    shut = by_end h.shut (cases_lt (end_of 0 xs) size);
  }
    where
      within : end_of 0 xs ≤ size
      within = end-within c 0 xs size (omega arith) h.records

      by_end : IsEnd c (end_of 0 xs) size → (end_of 0 xs < size) ⊎ (size ≤ end_of 0 xs) → IsEnd d (end_of 0 xs) size
      by_end shut (inr past) = inr past
      by_end (inr past) (inl lt) = inr past
      by_end (inl shut) (inl lt) = inl (λ one. shut (sym (agree (end_of 0 xs) lt) ∙ one))

-- no content holds a list, and the list with one more
pub not_longer : (c : Content) (p : ℕ) (xs : List (List ℕ)) (x : List ℕ) (size : ℕ) → HoldsRecords c p xs size → HoldsRecords c p (xs ++ x ∷ []) size → ⊥
not_longer c p xs x size h k = omega (arith, ap (λ (l : List (List ℕ)). length l) (one_list c p xs (xs ++ x ∷ []) size h k), length-append xs (x ∷ []))

-- a fresh area holds no record
pub fresh_holds : (c : Content) (size : ℕ) → c 0 ≢ 1 → HoldsRecords c 0 [] size
fresh_holds c size shut = record { records = tt; shut = inl shut }

-- the records of a list after those of another
pub end-append : (p : ℕ) (xs ys : List (List ℕ)) → end_of p (xs ++ ys) ≡ end_of (end_of p xs) ys
end-append p [] ys = refl
end-append p (x ∷ xs) ys = end-append (p + 5 + length x) xs ys

pub records-front : (c : Content) (p : ℕ) (xs ys : List (List ℕ)) (size : ℕ) → AreRecords c p (xs ++ ys) size → AreRecords c p xs size
records-front c p [] ys size h = tt
records-front c p (x ∷ xs) ys size h = (h.0, records-front c (p + 5 + length x) xs ys size h.1)

pub records-back : (c : Content) (p : ℕ) (xs ys : List (List ℕ)) (size : ℕ) → AreRecords c p (xs ++ ys) size → AreRecords c (end_of p xs) ys size
records-back c p [] ys size h = h
records-back c p (x ∷ xs) ys size h = records-back c (p + 5 + length x) xs ys size h.1

-- each has a payload's length, and there are fewer than bytes
pub records-bounded : (c : Content) (p : ℕ) (xs : List (List ℕ)) (size : ℕ) → AreRecords c p xs size → All IsPayload xs
records-bounded c p [] size h = All-nil IsPayload
records-bounded c p (x ∷ xs) size h = All-cons IsPayload x xs h.0.bounded (records-bounded c (p + 5 + length x) xs size h.1)

pub count-below : (p : ℕ) (xs : List (List ℕ)) → p + length xs ≤ end_of p xs
count-below p [] = omega arith
count-below p (x ∷ xs) = omega (arith, count-below (p + 5 + length x) xs)
