-- Reading the items of a list one after the other, as a loop does.
use Rattle.std.proofs.Common.{◌≡◌, ℕ, suc, ◌-◌, ◌+◌, ◌≤◌, ◌<◌, List, [], ◌∷◌, ◌++◌, Result, Ok, Err, refl, sym, ap, ◌∙◌, append_assoc, arith}
use Rattle.std.proofs.lemmas.List.{append-nil}
use Rattle.step_codec.specs.declared.refusal.StepRefusal.{StepRefusal}
use Rattle.step_codec.specs.declared.refusal.StepRefusal.TheVariants.{Truncated, BadKind, BadField, NoMemory}
use Rattle.step_codec.specs.Forms.{Form, ◌>>=◌, items_at}
use Rattle.step_codec.specs.Reading.{Fails}

-- what was read before, and what is still read
abbrev pub with_front : {A : Type 0} → List A → Result (List A × List ℕ) StepRefusal → Result (List A × List ℕ) StepRefusal
with_front front read = read >>= λ x. Ok (front ++ x.0, x.1)

regroup : {A : Type 0} (front : List A) (n : A) (read : Result (List A × List ℕ) StepRefusal) → with_front front (read >>= λ x. Ok (n ∷ x.0, x.1)) ≡ with_front (front ++ n ∷ []) read
regroup {A} front n (Ok x) = ap (λ (ns : List A). Ok (ns, x.1)) (simp append_assoc)
regroup front n (Err f) = refl

pub goes_on : {A : Type 0} (item : Form A) (front : List A) (count i : ℕ) (bytes : List ℕ) (n : A) (after : List ℕ) (total : Result (List A × List ℕ) StepRefusal) → i < count → item.read bytes ≡ Ok (n, after)
    → with_front front (items_at item (count - i) bytes) ≡ total → with_front (front ++ n ∷ []) (items_at item (count - (i + 1)) after) ≡ total
unfolding items_at
goes_on item front count i bytes n after total lt h so_far =
    let k : count - i ≡ suc (count - (i + 1)) = omega arith in
    let one : with_front front (items_at item (count - i) bytes) ≡ with_front (front ++ n ∷ []) (items_at item (count - (i + 1)) after) = rw (k, h) (regroup front n (items_at item (count - (i + 1)) after)) in
    sym one ∙ so_far

stops : {A : Type 0} (e : StepRefusal) (item : Form A) (front : List A) (count i : ℕ) (bytes : List ℕ) (total : Result (List A × List ℕ) StepRefusal) → i < count → item.read bytes ≡ Err e
    → with_front front (items_at item (count - i) bytes) ≡ total → total ≡ Err e
unfolding items_at
stops e item front count i bytes total lt h so_far =
    let k : count - i ≡ suc (count - (i + 1)) = omega arith in
    let one : with_front front (items_at item (count - i) bytes) ≡ Err e = rw (k, h) refl in
    sym so_far ∙ one

pub ends : {A : Type 0} (e : StepRefusal) (item : Form A) (front : List A) (count i : ℕ) (bytes : List ℕ) (total : Result (List A × List ℕ) StepRefusal) → i < count → Fails e (item.read bytes)
    → with_front front (items_at item (count - i) bytes) ≡ total → Fails e total
ends NoMemory item front count i bytes total lt h so_far = tt
ends Truncated item front count i bytes total lt h so_far = stops Truncated item front count i bytes total lt h so_far
ends BadKind item front count i bytes total lt h so_far = stops BadKind item front count i bytes total lt h so_far
ends BadField item front count i bytes total lt h so_far = stops BadField item front count i bytes total lt h so_far

pub is_done : {A : Type 0} (item : Form A) (front : List A) (count i : ℕ) (bytes : List ℕ) (total : Result (List A × List ℕ) StepRefusal) → count ≤ i → with_front front (items_at item (count - i) bytes) ≡ total → total ≡ Ok (front, bytes)
unfolding items_at
is_done {A} item front count i bytes total le so_far =
    let k : count - i ≡ 0 = omega arith in
    let one : with_front front (items_at item (count - i) bytes) ≡ Ok (front, bytes) = rw k (ap (λ (ns : List A). Ok (ns, bytes)) (append-nil front)) in
    sym so_far ∙ one
