-- Records read one by one, out of a stretch of the area in memory.
use Rattle.std.proofs.Common.{◌≡◌, ◌≢◌, ◌<◌, ◌≤◌, ℕ, ◌+◌, ◌-◌, List, [], ◌∷◌, ◌++◌, length, take, drop, length-drop, sym, ◌∙◌, ap, subst, ◌^◌, arith, Option, Some, None, MatchOption}
use Rattle.std.specs.Int.{w32, to_le_bytes}
use Rattle.std.specs.Prelude.{slice_range, slice_index}
use Rattle.std.proofs.lemmas.List.{take-append-drop, length-take-le}
use Rattle.std.proofs.lemmas.List.Folds.{drop_split}
use Rattle.bank.specs.Content.{Content, Stands}
use Rattle.bank.specs.View.{View, OnlyRead}
use Rattle.bank.proofs.Spans.{Stands-same, Stands-append, Stands-front, Stands-back}
use Rattle.journal.specs.Records.{IsPayload, frame, IsRecord}

-- a gate, a length, and as many bytes
read_frame : (c : Content) (p : ℕ) (body : List ℕ) → Stands c (p + 1) (to_le_bytes w32 (length body)) → Stands c (p + 5) body → Stands c (p + 1) (frame body)
unfolding frame
read_frame c p body h b =
    let there : p + 1 + 4 ≡ p + 5 = omega arith in
    Stands-append c (p + 1) (to_le_bytes w32 (length body)) body h (subst (λ (k : ℕ). Stands c k body) (sym there) b)

pub read_record : (c : Content) (p n size : ℕ) (body : List ℕ) → Stands c p (1 ∷ to_le_bytes w32 n) → Stands c (p + 5) body → length body ≡ n
    → IsPayload body → p + 5 + length body ≤ size → IsRecord c p body size
read_record c p n size body head stands long bounded within = record {
  gate = head.0;
  framed = read_frame c p body (subst (λ (m : ℕ). Stands c (p + 1) (to_le_bytes w32 m)) (sym long) head.1) stands;
  bounded = bounded;
  within = within;
}

-- a part of the bytes that stand from a place on
pub part_stands : (c : Content) (start place offset count : ℕ) (bytes : List ℕ) → Stands c start bytes → start + offset ≡ place → offset + count ≤ length bytes
    → Stands c place (slice_range bytes offset (offset + count))
part_stands c start place offset count bytes stands there within =
    let front : length (take offset bytes) ≡ offset = length-take-le offset bytes (omega (arith, within)) in
    let whole : Stands c start (take offset bytes ++ drop offset bytes) = subst (λ (l : List ℕ). Stands c start l) (sym (take-append-drop offset bytes)) stands in
    let behind : Stands c place (drop offset bytes) = subst (λ (n : ℕ). Stands c n (drop offset bytes)) (ap (λ (n : ℕ). start + n) front ∙ there)
    (Stands-back c start (take offset bytes) (drop offset bytes) whole) in
    Stands-front c place (slice_range bytes offset (offset + count)) (drop (offset + count) bytes)
    (subst (λ (l : List ℕ). Stands c place l) (drop_split bytes offset (offset + count) (omega arith)) behind)

pub length-part : (offset count : ℕ) (bytes : List ℕ) → offset + count ≤ length bytes → length (slice_range bytes offset (offset + count)) ≡ count
length-part offset count bytes within =
    length-take-le (offset + count - offset) (drop offset bytes) (omega (arith, length-drop offset bytes, within)) ∙ (omega arith)

-- what holds of the value that is there
pub some_has : {A : Type 0} (o : Option A) (x : A) (P : Type 0) (Q : A → Type 0) → o ≡ Some x → MatchOption o P Q → Q x
some_has {A = A} o x P Q e h = let M : Option A → Type 0 = λ r. MatchOption r P Q in subst M e h

-- what the bytes of a head say of the place where they stand
pub head_told : (c : Content) (place : ℕ) (head : List ℕ) (o : Option ℕ) → length head ≡ 5 → Stands c place head → MatchOption o (slice_index head 0 ≢ 1) (λ n. (n < 2 ^ 32) × (head ≡ 1 ∷ to_le_bytes w32 n))
    → MatchOption o (c place ≢ 1) (λ n. (n < 2 ^ 32) × Stands c place (1 ∷ to_le_bytes w32 n))
head_told c place [] o long stands h = absurd (omega (arith, long))
head_told c place (b ∷ head) None long stands h = λ one. h (sym stands.0 ∙ one)
head_told c place (b ∷ head) (Some n) long stands h = (h.0, subst (λ (l : List ℕ). Stands c place l) h.1 stands)

-- what stands behind reads stood before them
pub stood_before : (old new : View) (place : ℕ) (bytes : List ℕ) → OnlyRead old new → Stands (new.content 0) place bytes → Stands (old.content 0) place bytes
stood_before old new place bytes h stand = Stands-same (new.content 0) (old.content 0) place bytes (λ k low high. h.content 0 k) stand
