-- Lists of records in an area.
use Rattle.std.proofs.Common.{◌≡◌, inl, inr, ◌<◌, ◌≤◌, ℕ, ◌+◌, List, [], ◌∷◌, ◌++◌, length, refl, sym, ◌∙◌, ap, subst, ◌^◌, arith, length-append, Result, Ok, Err, OnOk}
use Rattle.std.proofs.lemmas.Nat.{from_le_bytes-to_le_bytes_4}
use Rattle.std.specs.Int.{w32, to_le_bytes, from_le_bytes}
use Rattle.bank.specs.Content.{Content, Stands, Same}
use Rattle.bank.specs.View.{View, OnlyContent}
use Rattle.bank.proofs.Spans.{Stands-front, Stands-back, Stands-same, Stands-only}
use Rattle.journal.specs.Records.{IsPayload, frame, IsRecord, AreRecords, end_of, IsEnd, HoldsRecords, IsBadLength, IsBadAt, AllHold}

pub length-frame : (x : List ℕ) → length (frame x) ≡ 4 + length x
unfolding frame
length-frame x = length-append (to_le_bytes w32 (length x)) x

-- the end lies behind the place
pub end-above : (p : ℕ) (xs : List (List ℕ)) → p ≤ end_of p xs
end-above p [] = omega arith
end-above p (x ∷ xs) = omega (arith, end-above (p + 5 + length x) xs)

pub end-push : (p : ℕ) (xs : List (List ℕ)) (x : List ℕ) → end_of p (xs ++ x ∷ []) ≡ end_of p xs + 5 + length x
end-push p [] x = refl
end-push p (y ∷ xs) x = end-push (p + 5 + length y) xs x

-- the same record, where the same bytes stand
record-same : (c d : Content) (p : ℕ) (x : List ℕ) (size end : ℕ) → p + 5 + length x ≤ end → ((k : ℕ) → k < end → d k ≡ c k) → IsRecord c p x size → IsRecord d p x size
record-same c d p x size end far same h = record {
  gate = same p (omega (arith, far)) ∙ h.gate;
  framed = Stands-same c d (p + 1) (frame x) (λ k low high. same k (omega (arith, far, high, length-frame x))) h.framed;
  bounded = h.bounded;
  within = h.within;
}

-- the same records, where the same bytes stand in front of their end
pub before-same : (c d : Content) (p : ℕ) (xs : List (List ℕ)) (size : ℕ) → ((k : ℕ) → k < end_of p xs → d k ≡ c k) → AreRecords c p xs size → AreRecords d p xs size
before-same c d p [] size same h = tt
before-same c d p (x ∷ xs) size same h = (
  record-same c d p x size (end_of (p + 5 + length x) xs) (end-above (p + 5 + length x) xs) same h.0,
  before-same c d (p + 5 + length x) xs size same h.1,
)

-- one record more
pub records-push : (c : Content) (p : ℕ) (xs : List (List ℕ)) (x : List ℕ) (size : ℕ) → AreRecords c p xs size → IsRecord c (end_of p xs) x size → AreRecords c p (xs ++ x ∷ []) size
records-push c p [] x size h r = (r, tt)
records-push c p (y ∷ xs) x size h r = (h.0, records-push c (p + 5 + length y) xs x size h.1 r)

-- the same list, where the same bytes stand up to its end
pub holds-same : (c d : Content) (p : ℕ) (xs : List (List ℕ)) (size : ℕ) → ((k : ℕ) → k ≤ end_of p xs → d k ≡ c k) → HoldsRecords c p xs size → HoldsRecords d p xs size
holds-same c d p xs size same h = record {
  records = before-same c d p xs size (λ k lt. same k (omega (arith, lt))) h.records;
  shut = by_end h.shut;
}
  where
    by_end : IsEnd c (end_of p xs) size → IsEnd d (end_of p xs) size
    by_end (inl shut) = inl (λ one. shut (sym (same (end_of p xs) (omega arith)) ∙ one))
    by_end (inr past) = inr past

-- no two lengths begin alike
one_number : (c : Content) (p m n : ℕ) → m < 2 ^ 32 → n < 2 ^ 32 → Stands c p (to_le_bytes w32 m) → Stands c p (to_le_bytes w32 n) → m ≡ n
one_number c p m n small_m small_n h k =
    let same : to_le_bytes w32 m ≡ to_le_bytes w32 n = Stands-only c p (to_le_bytes w32 m) (to_le_bytes w32 n) refl h k in
    sym (from_le_bytes-to_le_bytes_4 m small_m) ∙ ap (λ (l : List ℕ). from_le_bytes w32 l) same ∙ from_le_bytes-to_le_bytes_4 n small_n

framed_length : (c : Content) (p : ℕ) (x : List ℕ) → Stands c p (frame x) → Stands c p (to_le_bytes w32 (length x))
unfolding frame
framed_length c p x h = Stands-front c p (to_le_bytes w32 (length x)) x h

framed_payload : (c : Content) (p : ℕ) (x : List ℕ) → Stands c p (frame x) → Stands c (p + 4) x
unfolding frame
framed_payload c p x h = Stands-back c p (to_le_bytes w32 (length x)) x h

small : (x : List ℕ) → IsPayload x → length x < 2 ^ 32
small x h = omega (arith, h.1)

-- at a place stands one record
pub one_record : (c : Content) (p : ℕ) (x y : List ℕ) (size : ℕ) → IsRecord c p x size → IsRecord c p y size → x ≡ y
one_record c p x y size h k =
    let long = one_number c (p + 1) (length x) (length y) (small x h.bounded) (small y k.bounded) (framed_length c (p + 1) x h.framed) (framed_length c (p + 1) y k.framed) in
    Stands-only c (p + 1 + 4) x y long (framed_payload c (p + 1) x h.framed) (framed_payload c (p + 1) y k.framed)

-- and none where the journal ends
pub no_record : (c : Content) (p : ℕ) (x : List ℕ) (size : ℕ) → IsEnd c p size → IsRecord c p x size → ⊥
no_record c p x size (inl shut) h = shut h.gate
no_record c p x size (inr past) h = omega (arith, past, h.within)

-- nor where an open gate has a length that no record there has
pub not_bad_record : (c : Content) (p n : ℕ) (x : List ℕ) (size : ℕ) → n < 2 ^ 32 → Stands c (p + 1) (to_le_bytes w32 n) → IsBadLength p size n → IsRecord c p x size → ⊥
not_bad_record c p n x size lt stands bad h = by_case (one_number c (p + 1) n (length x) lt (small x h.bounded) stands (framed_length c (p + 1) x h.framed)) bad
  where
    by_case : n ≡ length x → IsBadLength p size n → ⊥
    by_case e (inl zero_long) = omega (arith, e, zero_long, h.bounded.0)
    by_case e (inr (inl long)) = omega (arith, e, long, h.bounded.1)
    by_case e (inr (inr past)) = omega (arith, e, past, h.within)

-- a content holds one list of records
pub one_list : (c : Content) (p : ℕ) (xs ys : List (List ℕ)) (size : ℕ) → HoldsRecords c p xs size → HoldsRecords c p ys size → xs ≡ ys
one_list c p xs ys size h k = by_list p xs ys h.records h.shut k.records k.shut
  where
    by_list : (p : ℕ) (xs ys : List (List ℕ)) → AreRecords c p xs size → IsEnd c (end_of p xs) size → AreRecords c p ys size → IsEnd c (end_of p ys) size → xs ≡ ys
    by_list p [] [] h shut k shut_too = refl
    by_list p [] (y ∷ ys) h shut k shut_too = absurd (no_record c p y size shut k.0)
    by_list p (x ∷ xs) [] h shut k shut_too = absurd (no_record c p x size shut_too h.0)
    by_list p (x ∷ xs) (y ∷ ys) h shut k shut_too =
        let head : x ≡ y = one_record c p x y size h.0 k.0 in
        let there : p + 5 + length y ≡ p + 5 + length x = ap (λ (l : List ℕ). p + 5 + length l) (sym head) in
        let tail : xs ≡ ys = by_list (p + 5 + length x) xs ys h.1 shut (subst (λ (n : ℕ). AreRecords c n ys size) there k.1) (subst (λ (n : ℕ). IsEnd c (end_of n ys) size) there shut_too) in
        cc

-- a content that holds records has no bad record behind some
pub not_bad : (c : Content) (place size : ℕ) (xs ys : List (List ℕ)) → HoldsRecords c 0 xs size → IsBadAt c place size ys → ⊥
not_bad c place size xs ys h b = by_list 0 xs ys h.records h.shut b.before b.behind
  where
    by_list : (p : ℕ) (xs ys : List (List ℕ)) → AreRecords c p xs size → IsEnd c (end_of p xs) size → AreRecords c p ys size → place ≡ end_of p ys → ⊥
    by_list p [] [] h (inl shut) k e = shut (ap c (sym e) ∙ b.gate)
    by_list p [] [] h (inr past) k e = omega (arith, past, e, b.inside)
    by_list p [] (y ∷ ys) h shut k e = no_record c p y size shut k.0
    by_list p (x ∷ xs) [] h shut k e = not_bad_record c place b.bad.0 x size b.bad.1 b.bad.2 b.bad.3 (subst (λ (n : ℕ). IsRecord c n x size) (sym e) h.0)
    by_list p (x ∷ xs) (y ∷ ys) h shut k e =
        let there : p + 5 + length y ≡ p + 5 + length x = ap (λ (l : List ℕ). p + 5 + length l) (sym (one_record c p x y size h.0 k.0)) in
        by_list (p + 5 + length x) xs ys h.1 shut (subst (λ (n : ℕ). AreRecords c n ys size) there k.1) (subst (λ (n : ℕ). place ≡ end_of n ys) there e)

-- and behind the same records
pub one_bad : (c : Content) (place there size : ℕ) (xs ys : List (List ℕ)) → IsBadAt c place size xs → IsBadAt c there size ys → xs ≡ ys
one_bad c place there size xs ys a b = by_list 0 xs ys a.before a.behind b.before b.behind
  where
    by_list : (p : ℕ) (xs ys : List (List ℕ)) → AreRecords c p xs size → place ≡ end_of p xs → AreRecords c p ys size → there ≡ end_of p ys → xs ≡ ys
    by_list p [] [] h d k e = refl
    by_list p [] (y ∷ ys) h d k e = absurd (not_bad_record c place a.bad.0 y size a.bad.1 a.bad.2 a.bad.3 (subst (λ (n : ℕ). IsRecord c n y size) (sym d) k.0))
    by_list p (x ∷ xs) [] h d k e = absurd (not_bad_record c there b.bad.0 x size b.bad.1 b.bad.2 b.bad.3 (subst (λ (n : ℕ). IsRecord c n x size) (sym e) h.0))
    by_list p (x ∷ xs) (y ∷ ys) h d k e =
        let head : x ≡ y = one_record c p x y size h.0 k.0 in
        let again : p + 5 + length y ≡ p + 5 + length x = ap (λ (l : List ℕ). p + 5 + length l) (sym head) in
        let tail : xs ≡ ys = by_list (p + 5 + length x) xs ys h.1 d (subst (λ (n : ℕ). AreRecords c n ys size) again k.1) (subst (λ (n : ℕ). there ≡ end_of n ys) again e) in
        cc

-- a bad record is the same where the same bytes stand
pub bad-same : (c d : Content) (place size : ℕ) (xs : List (List ℕ)) → Same c d → IsBadAt c place size xs → IsBadAt d place size xs
bad-same c d place size xs same b = record {
  before = before-same c d 0 xs size (λ k lt. sym (same k)) b.before;
  behind = b.behind;
  inside = b.inside;
  gate = sym (same place) ∙ b.gate;
  bad = (b.bad.0, b.bad.1, Stands-same c d (place + 1) (to_le_bytes w32 b.bad.0) (λ k low high. sym (same k)) b.bad.2, b.bad.3);
}

-- the place behind records lies in the area
pub end-within : (c : Content) (p : ℕ) (xs : List (List ℕ)) (size : ℕ) → p ≤ size → AreRecords c p xs size → end_of p xs ≤ size
end-within c p [] size le h = le
end-within c p (x ∷ xs) size le h = end-within c (p + 5 + length x) xs size h.0.within h.1

-- what a read gives is all that a crash leaves
pub all_hold : (v : View) (xs : List (List ℕ)) (size : ℕ) → OnlyContent 0 v → HoldsRecords (v.content 0) 0 xs size → AllHold v xs size
all_hold v xs size only h = record { each = λ c left. holds-same (v.content 0) c 0 xs size (λ k le. sym (only c left k)) h }

-- what an Ok has, through an implication
pub ok_then : {T E : Type 0} (r : Result T E) (P Q : Type 0) → (P → Q) → OnOk r P → OnOk r Q
ok_then (Ok x) P Q f h = f h
ok_then (Err x) P Q f h = tt
