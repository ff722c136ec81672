-- What a crash leaves in each step of an append.
use Rattle.std.proofs.Common.{◌≡◌, ◌⊎◌, inl, inr, ◌<◌, ◌≤◌, ℕ, ◌+◌, List, [], ◌∷◌, ◌++◌, length, sym, ◌∙◌, subst, ap, arith, length-append}
use Rattle.std.proofs.lemmas.Bool.{cases_eq}
use Rattle.std.specs.Int.{w32, to_le_bytes}
use Rattle.bank.specs.Content.{Content, Stands, SameOutside}
use Rattle.bank.specs.View.{View, IsSound, Wrote, IsTornImage, LeavesOnly, OnlyContent}
use Rattle.bank.proofs.Spans.{Stands-front, Stands-back, Stands-same, Stands-append}
use Rattle.bank.proofs.Instants.{started, weakened, joined}
use Rattle.journal.specs.Records.{IsPayload, frame, HoldsRecords, end_of, AllHold, IsBeforeOrAfter}
use Rattle.journal.proofs.RecordLaws.{length-frame, end-push, before-same, records-push, holds-same}

-- in front of a closed gate
holds-shut : (c d : Content) (xs : List (List ℕ)) (size : ℕ) → ((k : ℕ) → k < end_of 0 xs → d k ≡ c k) → (d (end_of 0 xs) ≡ 1 → ⊥) → HoldsRecords c 0 xs size → HoldsRecords d 0 xs size
holds-shut c d xs size same shut h = record { records = before-same c d 0 xs size same h.records; shut = inl shut }

-- behind an open gate: the frame, and a closed gate behind it
holds-push : (c d : Content) (xs : List (List ℕ)) (x : List ℕ) (size : ℕ) → ((k : ℕ) → k < end_of 0 xs → d k ≡ c k) → IsPayload x → end_of 0 xs + 6 + length x ≤ size
    → d (end_of 0 xs) ≡ 1 → Stands d (end_of 0 xs + 1) (frame x ++ 0 ∷ []) → HoldsRecords c 0 xs size → HoldsRecords d 0 (xs ++ x ∷ []) size
holds-push c d xs x size same bounded room one stands h =
    let zero_gate : d (end_of 0 xs + 1 + length (frame x)) ≡ 0 = (Stands-back d (end_of 0 xs + 1) (frame x) (0 ∷ []) stands).0 in
    let there : end_of 0 xs + 1 + length (frame x) ≡ end_of 0 (xs ++ x ∷ []) = omega (arith, length-frame x, end-push 0 xs x) in
    record {
      records = records-push d 0 xs x size (before-same c d 0 xs size same h.records) (record {
        gate = one;
        framed = Stands-front d (end_of 0 xs + 1) (frame x) (0 ∷ []) stands;
        bounded = bounded;
        within = omega (arith, room);
      });
      shut = inl (λ open_gate. absurd (omega (arith, open_gate, zero_gate, ap d there)));
    }

module _ (p : ℕ) (xs : List (List ℕ)) (x : List ℕ) (size : ℕ) (e : p ≡ end_of 0 xs) where
  -- nothing was written
  pub untouched : (v : View) → IsSound v → AllHold v xs size → LeavesOnly v v (IsBeforeOrAfter v xs x size)
  untouched v sound hold = started v (IsBeforeOrAfter v xs x size) sound (λ c image. record { records = inl (hold.each (c 0) (image 0)); others = λ a ne. image a })

  -- while the frame is written behind the closed gate
  pub closed_meanwhile : (v w : View) → AllHold v xs size → Wrote 0 (p + 1) (5 + length x) v w → LeavesOnly v w (IsBeforeOrAfter v xs x size)
  closed_meanwhile v w hold h = weakened v w (IsTornImage v 0 (p + 1) (5 + length x)) (IsBeforeOrAfter v xs x size) h.meanwhile (λ c t. record {
    records = inl (holds-same t.torn.0 (c 0) 0 xs size (λ k le. t.torn.2 k (inl (omega (arith, le, e)))) (hold.each t.torn.0 t.torn.1));
    others = t.others;
  })

  module _ (v w : View) (sound : IsSound w) (hold : AllHold v xs size) (bounded : IsPayload x) (room : p + 6 + length x ≤ size)
      (h : Wrote 0 (p + 1) (5 + length x) v w) (only : OnlyContent 0 w) (behind : Stands (w.content 0) (p + 1) (frame x ++ 0 ∷ [])) where
    staged : HoldsRecords (w.content 0) 0 xs size
    staged =
        let d = h.images (w.content 0) (sound.reads_as_image 0) in
        holds-same d.0 (w.content 0) 0 xs size (λ k le. d.2 k (inl (omega (arith, le, e)))) (hold.each d.0 d.1)

    -- with the gate open
    opened : (c : Content) → ((k : ℕ) → (k < p) ⊎ (p + 1 ≤ k) → c k ≡ w.content 0 k) → c p ≡ 1 → HoldsRecords c 0 (xs ++ x ∷ []) size
    opened c same one = holds-push (w.content 0) c xs x size (λ k lt. same k (inl (omega (arith, lt, e)))) bounded (omega (arith, room, e)) (sym (ap c e) ∙ one)
        (subst (λ (n : ℕ). Stands c (n + 1) (frame x ++ 0 ∷ [])) e
        (Stands-same (w.content 0) c (p + 1) (frame x ++ 0 ∷ []) (λ k low high. same k (inr low)) behind)) staged

    either : (c : Content) → ((k : ℕ) → (k < p) ⊎ (p + 1 ≤ k) → c k ≡ w.content 0 k) → HoldsRecords c 0 xs size ⊎ HoldsRecords c 0 (xs ++ x ∷ []) size
    either c same = elim (cases_eq (c p) 1) [
      | inl one ↦ inr (opened c same one)
      | inr shut ↦ inl (holds-shut (w.content 0) c xs size (λ k lt. same k (inl (omega (arith, lt, e)))) (λ one. shut (ap c e ∙ one)) staged)
    ]

    -- while the gate is written
    pub gate_meanwhile : (u : View) → Wrote 0 p 1 w u → LeavesOnly v u (IsBeforeOrAfter v xs x size)
    gate_meanwhile u g = joined v w u (IsBeforeOrAfter v xs x size) (closed_meanwhile v w hold h)
        (weakened w u (IsTornImage w 0 p 1) (IsBeforeOrAfter v xs x size) g.meanwhile (λ c t. record {
          records = either (c 0) (λ k out. t.torn.2 k out ∙ sym (only t.torn.0 t.torn.1 k));
          others = λ a ne. h.other_images a (c a) ne (t.others a ne);
        }))

    -- and once it is on the medium
    pub acknowledged : (u : View) → Wrote 0 p 1 w u → OnlyContent 0 u → u.content 0 p ≡ 1 → AllHold u (xs ++ x ∷ []) size
    acknowledged u g only_then one = record {
      each = λ c left.
          let now = only_then c left in
          opened c (λ k out. sym (now k) ∙ g.content k out) (sym (now p) ∙ one);
    }

-- what stands after three writes, one behind the other
three_spans : (p : ℕ) (l x : List ℕ) (c1 c2 c3 : Content) → length l ≡ 4 → Stands c1 (p + 1) l → SameOutside (p + 5) (length x) c1 c2 → Stands c2 (p + 5) x
    → SameOutside (p + 5 + length x) 1 c2 c3 → Stands c3 (p + 5 + length x) (0 ∷ []) → Stands c3 (p + 1) ((l ++ x) ++ 0 ∷ [])
three_spans p l x c1 c2 c3 four first outside second outside_then third =
    let there : p + 1 + length l ≡ p + 5 = omega (arith, four) in
    let first_then : Stands c3 (p + 1) l = Stands-same c1 c3 (p + 1) l (λ k low high. outside_then k (inl (omega (arith, high, there))) ∙ outside k (inl (omega (arith, high, there)))) first in
    let second_then : Stands c3 (p + 5) x = Stands-same c2 c3 (p + 5) x (λ k low high. outside_then k (inl high)) second in
    let behind : p + 1 + length (l ++ x) ≡ p + 5 + length x = omega (arith, four, length-append l x) in
    Stands-append c3 (p + 1) (l ++ x) (0 ∷ [])
    (Stands-append c3 (p + 1) l x first_then (subst (λ (n : ℕ). Stands c3 n x) (sym there) second_then))
    (subst (λ (n : ℕ). Stands c3 n (0 ∷ [])) (sym behind) third)

pub three_writes : (p : ℕ) (l x : List ℕ) (c1 c2 c3 : Content) → l ≡ to_le_bytes w32 (length x) → Stands c1 (p + 1) l → SameOutside (p + 5) (length x) c1 c2 → Stands c2 (p + 5) x
    → SameOutside (p + 5 + length x) 1 c2 c3 → Stands c3 (p + 5 + length x) (0 ∷ []) → Stands c3 (p + 1) (frame x ++ 0 ∷ [])
unfolding frame
three_writes p l x c1 c2 c3 e first outside second outside_then third =
    subst (λ (m : List ℕ). Stands c3 (p + 1) ((m ++ x) ++ 0 ∷ [])) e (three_spans p l x c1 c2 c3 (ap (λ (m : List ℕ). length m) e) first outside second outside_then third)
