-- What a crash leaves, one call after another.
use Rattle.std.proofs.Common.{◌≡◌, inl, inr, min, ℕ, ◌+◌, ◌-◌, ◌<◌, ◌≤◌, Bool, true, false, ◌&&◌, ◌||◌, ◌==◌, nat_le, nat_lt, cond, List, [], ◌∷◌, ◌++◌, subst, length, get_or, take, drop, reverse, refl, sym, ◌∙◌, ap, arith, suc}
use Rattle.std.specs.List.{list_any}
use Rattle.std.proofs.lemmas.Bool.{eqb-true, cases_lt}
use Rattle.std.proofs.lemmas.Bool.Decides.{nat_tests}
use Rattle.std.proofs.lemmas.List.{reverse-append, take_more, take_all, take-append-drop, length-drop}
use Rattle.std.proofs.Math.Seq.{drop-cons}
use Rattle.bank.specs.Content.{Image}
use Rattle.bank.specs.declared.call.Call.{Call}
use Rattle.bank.specs.declared.call.BankCall.{BankCall}
use Rattle.bank.specs.declared.call.BankCall.TheVariants.{Read, Write, Sync}
use Rattle.bank.specs.Past.{is_write, is_sync, is_write_of, is_sync_of, covers, content_of, LeftAfter, Leaves, IsImageAt, LeftSince}
use Rattle.bank.specs.Crash.{dropped, filled, chosen, picked, left_of}
use Rattle.bank.specs.declared.memory.MemoryBank.{MemoryBank}
use Rattle.bank.specs.Memory.{zeros, began, past_of, past_at}
use Rattle.bank.specs.Sound.{leaves_same, reads_as_image, counts_now}

-- a call is not both
never_both : (done same : Bool) (kind : BankCall) → done && is_write kind && same ≡ true → done && is_sync kind && same ≡ false
never_both false same kind h = refl
never_both true same Read h = absurd (cc)
never_both true same Write h = refl
never_both true same Sync h = absurd (cc)

first_of_three : (x y z : Bool) → x && y && z ≡ true → x ≡ true
first_of_three true y z h = refl
first_of_three false y z h = absurd (let e : false ≡ true = h in cc)

second_of_two : (x y : Bool) → x && y ≡ true → y ≡ true
second_of_two true y h = h
second_of_two false y h = absurd (let e : false ≡ true = h in cc)

writes_where : (call : Call) (a k : ℕ) → covers call a k ≡ true → is_write_of call a ≡ true
writes_where call a k h = first_of_three (is_write_of call a) (nat_le call.place k) (nat_lt k (call.place + length call.bytes)) h

syncs_not : (call : Call) (a k : ℕ) → covers call a k ≡ true → is_sync_of call a ≡ false
syncs_not call a k h = never_both call.done (call.area == a) call.kind (writes_where call a k h)

its_area : (call : Call) (a k : ℕ) → covers call a k ≡ true → call.area ≡ a
its_area call a k h = eqb-true call.area a (second_of_two (call.done && is_write call.kind) (call.area == a) (writes_where call a k h))

-- what is chosen after one call more
chosen_more : (drops keeps : Bool) (byte : ℕ) (start : Image) (call : Call) (past : List Call) (a k : ℕ)
    → chosen drops keeps byte start (call ∷ past) a k ≡ cond (is_sync_of call a) (content_of start past a k) (left_of call false drops keeps byte a k (chosen drops keeps byte start past a k))
chosen_more true keeps byte start call past a k = by_test (covers call a k)
  where
    by_test : (v : Bool) → cond (is_sync_of call a) (content_of start past a k) (dropped start past a k)
        ≡ cond (is_sync_of call a) (content_of start past a k) (cond v (dropped start past a k) (dropped start past a k))
    by_test true = refl
    by_test false = refl
chosen_more false true byte start call past a k = by_test (covers call a k) (is_sync_of call a) (syncs_not call a k)
  where
    by_test : (v y : Bool) → (v ≡ true → y ≡ false) → cond v (get_or call.bytes (k - call.place) 0) (content_of start past a k)
        ≡ cond y (content_of start past a k) (cond v (get_or call.bytes (k - call.place) 0) (content_of start past a k))
    by_test true true never = absurd (let e : true ≡ false = never refl in cc)
    by_test true false never = refl
    by_test false true never = refl
    by_test false false never = refl
chosen_more false false byte start call past a k = refl

-- what is left, where `after` says whether a later call synced the area
by_cases : (covered sync after synced drops keeps : Bool) (written byte was content other : ℕ) → was ≡ cond (sync || after) content other
    → (covered ≡ true → synced ≡ after) → (covered ≡ true → sync ≡ false)
    → cond covered (cond synced written (cond drops was (cond keeps written byte))) was
    ≡ cond after (cond covered written content) (cond sync content (cond covered (cond drops other (cond keeps written byte)) other))
by_cases true true after synced drops keeps written byte was content other e same never = absurd (let f : true ≡ false = never refl in cc)
by_cases true false after synced true keeps written byte was content other e same never = rw (same refl) (by_after after e)
  where
    by_after : (b : Bool) → was ≡ cond b content other → cond b written was ≡ cond b written other
    by_after true h = refl
    by_after false h = h
by_cases true false after synced false keeps written byte was content other e same never = ap (λ (b : Bool). cond b written (cond keeps written byte)) (same refl)
by_cases false true true synced drops keeps written byte was content other e same never = e
by_cases false true false synced drops keeps written byte was content other e same never = e
by_cases false false true synced drops keeps written byte was content other e same never = e
by_cases false false false synced drops keeps written byte was content other e same never = e

module _ (start : Image) (drops keeps : Bool) (byte : ℕ) where
  -- what is left of some calls, where those after them are known
  abbrev left_before : List Call → List Call → ℕ → ℕ → ℕ
  left_before past later a k = cond (list_any (λ (c : Call). is_sync_of c a) later) (content_of start past a k) (chosen drops keeps byte start past a k)

  left_more : (past later : List Call) (call : Call) (a k was : ℕ) → was ≡ left_before past (call ∷ later) a k
      → left_of call (list_any (λ (c : Call). is_sync_of c call.area) later) drops keeps byte a k was ≡ left_before (call ∷ past) later a k
  left_more past later call a k was e =
      by_cases (covers call a k) (is_sync_of call a) (list_any (λ (c : Call). is_sync_of c a) later) (list_any (λ (c : Call). is_sync_of c call.area) later) drops keeps
      (get_or call.bytes (k - call.place) 0) byte was (content_of start past a k) (chosen drops keeps byte start past a k) e
      (λ is. ap (λ (n : ℕ). list_any (λ (c : Call). is_sync_of c n) later) (its_area call a k is))
      (syncs_not call a k)
      ∙ ap (λ (n : ℕ). cond (list_any (λ (c : Call). is_sync_of c a) later) (content_of start (call ∷ past) a k) n) (sym (chosen_more drops keeps byte start call past a k))

  -- one call more
  pub left_step : (calls : List Call) (i : ℕ) (call : Call) (synced : Bool) (a k was now : ℕ) → i < length calls → get_or calls i call ≡ call
      → synced ≡ list_any (λ (c : Call). is_sync_of c call.area) (take (length calls - (i + 1)) (drop (i + 1) calls))
      → was ≡ left_before (reverse (take i calls)) (drop i calls) a k
      → now ≡ left_of call synced drops keeps byte a k was
      → now ≡ left_before (reverse (take (i + 1) calls)) (drop (i + 1) calls) a k
  left_step calls i call synced a k was now lt is later e step =
      let next : drop i calls ≡ call ∷ drop (i + 1) calls =
      drop-cons calls i call lt ∙ ap (λ (c : Call). c ∷ drop (suc i) calls) is
      ∙ ap (λ (n : ℕ). call ∷ drop n calls) (let e : suc i ≡ i + 1 = omega arith in e) in
      let upto : reverse (take (i + 1) calls) ≡ call ∷ reverse (take i calls) =
      ap (λ (l : List Call). reverse l) (take_more calls i call lt) ∙ reverse-append (take i calls) (get_or calls i call ∷ []) ∙ ap (λ (c : Call). c ∷ reverse (take i calls)) is in
      let rest : take (length calls - (i + 1)) (drop (i + 1) calls) ≡ drop (i + 1) calls =
      take_all (length calls - (i + 1)) (drop (i + 1) calls) (omega (arith, length-drop (i + 1) calls)) in
      step
      ∙ ap (λ (b : Bool). left_of call b drops keeps byte a k was) (later ∙ ap (λ (l : List Call). list_any (λ (c : Call). is_sync_of c call.area) l) rest)
      ∙ left_more (reverse (take i calls)) (drop (i + 1) calls) call a k was (e ∙ ap (λ (l : List Call). left_before (reverse (take i calls)) l a k) next)
      ∙ ap (λ (l : List Call). left_before l (drop (i + 1) calls) a k) (sym upto)

-- what is chosen is an image
pub dropped_is_image : (start : Image) (past : List Call) (a : ℕ) → Leaves start past a (dropped start past a)
dropped_is_image start [] a = λ k. refl
dropped_is_image start (call ∷ past) a = by_test (is_write_of call a) (is_sync_of call a) (never_both call.done (call.area == a) call.kind) (dropped_is_image start past a)
  where
    by_test : (w s : Bool) → (w ≡ true → s ≡ false) → Leaves start past a (dropped start past a)
        → LeftAfter w s call.place (length call.bytes) (content_of start past a) (λ d. Leaves start past a d) (λ k. cond s (content_of start past a k) (dropped start past a k))
    by_test true true never h = absurd (let e : true ≡ false = never refl in cc)
    by_test true false never h = (dropped start past a, h, λ k out. refl)
    by_test false true never h = λ k. refl
    by_test false false never h = h

pub filled_is_image : (byte : ℕ) (start : Image) (past : List Call) (a : ℕ) → Leaves start past a (filled byte start past a)
filled_is_image byte start [] a = λ k. refl
filled_is_image byte start (call ∷ past) a = by_test (is_write_of call a) (is_sync_of call a) refl refl (never_both call.done (call.area == a) call.kind) (filled_is_image byte start past a)
  where
    -- outside its range
    stays : (k : ℕ) → covers call a k ≡ false → is_sync_of call a ≡ false → filled byte start (call ∷ past) a k ≡ filled byte start past a k
    stays k out unsynced =
        ap (λ (b : Bool). cond b (content_of start past a k) (cond (covers call a k) byte (filled byte start past a k))) unsynced
        ∙ ap (λ (b : Bool). cond b byte (filled byte start past a k)) out

    uncovered : (w le lt : Bool) → w ≡ false → w && le && lt ≡ false
    uncovered w le lt e = ap (λ (b : Bool). b && le && lt) e

    by_test : (w s : Bool) → w ≡ is_write_of call a → s ≡ is_sync_of call a → (is_write_of call a ≡ true → is_sync_of call a ≡ false) → Leaves start past a (filled byte start past a)
        → LeftAfter w s call.place (length call.bytes) (content_of start past a) (λ d. Leaves start past a d) (filled byte start (call ∷ past) a)
    by_test true s ew es never h = (filled byte start past a, h, λ k out. stays k (grind (arith, nat_tests)) (never (sym ew)))
    by_test false true ew es never h = λ k. sym (ap (λ (b : Bool). cond b (content_of start past a k) (cond (covers call a k) byte (filled byte start past a k))) (sym es))
    by_test false false ew es never h = leaves_same start past a _ _ (λ k. sym (stays k (uncovered _ _ _ (sym ew)) (sym es))) h

pub picked_is_image : (pick : ℕ) (start : Image) (past : List Call) → IsImageAt start past (picked pick start past)
picked_is_image pick start past a = by_test (pick == 0) (pick == 1)
  where
    by_test : (drops keeps : Bool) → Leaves start past a (chosen drops keeps 165 start past a)
    by_test true keeps = dropped_is_image start past a
    by_test false true = reads_as_image start past a
    by_test false false = filled_is_image 165 start past a

-- a store that begins with what is left
module _ (m : MemoryBank) (pick instant count index : ℕ) (items before calls left result : List Call) (began_with : items ≡ m.before)
    (copied : before ≡ take index items) (whole : length items ≤ index) (recorded : calls ≡ m.calls) (cut : count ≡ min (length m.calls) instant)
    (added : (start : Image) (a k : ℕ) → content_of start (reverse left) a k ≡ picked pick (content_of start (reverse before)) (reverse (take count calls)) a k)
    (kept : result ≡ left) where
  same_before : before ≡ m.before
  same_before = copied ∙ take_all index items whole ∙ began_with

  same_calls : take count calls ≡ take instant m.calls
  same_calls = ap (λ (l : List Call). take count l) recorded ∙ elim (cases_lt (length m.calls) instant) [
    | inl lt ↦ take_all count m.calls (omega arith) ∙ sym (take_all instant m.calls (omega arith))
    | inr le ↦ ap (λ (n : ℕ). take n m.calls) (let e : count ≡ instant = omega arith in e)
  ]

  pub left_as_picked : (a k : ℕ) → content_of zeros (reverse result) a k ≡ picked pick (began m) (past_at m instant) a k
  left_as_picked a k =
      ap (λ (l : List Call). content_of zeros (reverse l) a k) kept ∙ added zeros a k
      ∙ ap (λ (l : List Call). picked pick (content_of zeros (reverse l)) (reverse (take count calls)) a k) same_before
      ∙ ap (λ (l : List Call). picked pick (began m) (reverse l) a k) same_calls

  pub left_is_image : IsImageAt (began m) (past_at m instant) (content_of zeros (reverse result))
  left_is_image a = leaves_same (began m) (past_at m instant) a _ _ (λ k. sym (left_as_picked a k)) (picked_is_image pick (began m) (past_at m instant) a)

-- an image at an earlier instant
left_later : (start : Image) (newer past : List Call) (t : ℕ) (c : Image) → t ≤ length past → IsImageAt start past c → LeftSince start (newer ++ past) t c
left_later start [] past t c le image = counts_now start past t c le image
left_later start (call ∷ newer) past t c le image = inr (left_later start newer past t c le image)

pub left_since : (m : MemoryBank) (instant t : ℕ) (c : Image) → t ≤ length (past_at m instant) → IsImageAt (began m) (past_at m instant) c → LeftSince (began m) (past_of m) t c
left_since m instant t c le image =
    subst (λ (l : List Call). LeftSince (began m) l t c)
    (sym (reverse-append (take instant m.calls) (drop instant m.calls)) ∙ ap (λ (l : List Call). reverse l) (take-append-drop instant m.calls))
    (left_later (began m) (reverse (drop instant m.calls)) (past_at m instant) t c le image)
