-- Bytes in pieces.
use Rattle.std.proofs.Common.{◌≡◌, inl, inr, refl, ℕ, ◌+◌, ◌-◌, ◌≤◌, ◌<◌, List, [], ◌∷◌, ◌++◌, length, take, drop, sym, ◌∙◌, ap, subst, arith, Option, Result, Ok, Err, take-append-drop, length-drop, append_assoc}
use Rattle.std.specs.Result.{IsErr}
use lib.Seq.{take-add}
use Rattle.std.proofs.lemmas.List.{take_rest}
use Rattle.std.proofs.KnownBytes.{Appends-trans, Appends-kept}
use Rattle.std.specs.Io.KnownBytes.{Appends, Keeps}
use Rattle.base.specs.Causes.{HasCause}
use Rattle.outside.specs.Streams.{IsCut, WritesAll, IsWritten}

-- a written piece joins what was written before
pub written_more : (a b c : Option (List ℕ)) (bs : List ℕ) (at n : ℕ) → at + n ≤ length bs → Appends a b (take at bs) → Appends b c (take n (take (length bs - at) (drop at bs))) → Appends a c (take (at + n) bs)
written_more a b c bs at n within p q =
    subst (λ (l : List ℕ). Appends a c l)
    (ap (λ (l : List ℕ). take at bs ++ take n l) (take_rest bs at) ∙ sym (take-add at n bs))
    (Appends-trans a b c (take at bs) (take n (take (length bs - at) (drop at bs))) p q)

-- a fault after a first part
pub written_front : {T E : Type 0} (a b c : Option (List ℕ)) (bs : List ℕ) (at : ℕ) (r : Result T E) → at < length bs → IsErr r → Appends a b (take at bs) → Keeps b c → WritesAll a c r bs
written_front a b c bs at (Ok x) more failed p q = absurd (cc)
written_front a b c bs at (Err x) more failed p q =
    (take at bs, drop at bs, sym (take-append-drop at bs), (λ none. omega (arith, ap length none, length-drop at bs)), Appends-kept a b c (take at bs) p q)

no_front : (xs ys : List ℕ) → xs ++ ys ≡ [] → xs ≡ []
no_front [] ys e = refl
no_front (x ∷ xs) ys e = absurd (cc)

-- what cuts a first piece cuts the whole
pub cut_before : (a b : Option (List ℕ)) (piece more : List ℕ) → IsCut a b piece → IsCut a b (piece ++ more)
cut_before a b piece more (front, lost, parts, some, p) =
    (front, lost ++ more, ap (λ (l : List ℕ). l ++ more) parts ∙ append_assoc front lost more, (λ none. some (no_front lost more none)), p)

-- one piece after another
pub written_then : {T E : Type 0} (a b c : Option (List ℕ)) (piece more : List ℕ) (r : Result T E) → Appends a b piece → WritesAll b c r more → WritesAll a c r (piece ++ more)
written_then a b c piece more (Ok x) p q = Appends-trans a b c piece more p q
written_then a b c piece more (Err x) p (front, lost, parts, some, q) =
    (piece ++ front, lost, ap (λ (l : List ℕ). piece ++ l) parts ∙ sym (append_assoc piece front lost), some, Appends-trans a b c piece front p q)

-- what is written whole or not, whatever is told of it
pub written_anyhow : {T E : Type 0} (a b : Option (List ℕ)) (faults faults' : ℕ) (r : Result T E) (bytes : List ℕ) → HasCause faults faults' r → WritesAll a b r bytes → IsWritten a b faults faults' bytes
written_anyhow a b faults faults' (Ok x) bytes cause p = inl p
written_anyhow a b faults faults' (Err x) bytes cause p = inr (p, cause.failed)
