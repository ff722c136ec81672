-- Open blocks of a range, and those that runs leave free.
use Rattle.std.proofs.Common.{◌≡◌, ℕ, ◌+◌, ◌-◌, ◌<◌, ◌≤◌, Bool, true, false, cond, not, ◌||◌, List, [], ◌∷◌, ◌++◌, length, take, filter, get_or, refl, sym, ◌∙◌, ap, arith, suc, zero, count_by}
use Rattle.std.specs.List.{range_with_len}
use Rattle.std.proofs.lemmas.List.{append-nil, append_assoc, length-append, take_all}
use Rattle.std.proofs.lemmas.List.Elements.{filter-append}
use Rattle.site_types.specs.declared.file.Run.{Run}
use Rattle.cache_space.specs.Blocks.{is_in_runs, free_blocks, as_runs}
use Rattle.cache_space.specs.Flags.{is_open, open_blocks}
use Rattle.cache_space.specs.Space.{taken_by}
use Rattle.cache_space.proofs.RunLemmas.{is_in_runs-append}
use Rattle.cache_space.proofs.TakenBlocks.{length-taken_by, get_or-taken_by, count_by-taken_by}
use Rattle.std.proofs.lemmas.Bool.{true≢false, false≢true}

-- a range in two parts
pub range_with_len-add : (a m n : ℕ) → range_with_len a (m + n) ≡ range_with_len a m ++ range_with_len (a + m) n
range_with_len-add a zero n =
    let e : zero + n ≡ n = omega arith in
    let f : a + zero ≡ a = omega arith in
    rw (e, f)
range_with_len-add a (suc m) n =
    let e : suc m + n ≡ suc (m + n) = omega arith in
    let f : a + suc m ≡ a + 1 + m = omega arith in
    rw (e, f) (ap (λ rest. a ∷ rest) (range_with_len-add (a + 1) m n))

-- tests that agree within the range keep the same
pub filter-range_agree : (p q : ℕ → Bool) (a n : ℕ) → ((k : ℕ) → a ≤ k → k < a + n → p k ≡ q k) → filter p (range_with_len a n) ≡ filter q (range_with_len a n)
filter-range_agree p q a zero agree = refl
filter-range_agree p q a (suc n) agree =
    let here : p a ≡ q a = agree a (omega arith) (omega arith) in
    let rest : filter p (range_with_len (a + 1) n) ≡ filter q (range_with_len (a + 1) n) =
    filter-range_agree p q (a + 1) n (λ k low high. agree k (omega (arith, low)) (omega (arith, high))) in
    rw (here, rest)

pub filter-range_none : (p : ℕ → Bool) (a n : ℕ) → ((k : ℕ) → a ≤ k → k < a + n → p k ≡ false) → filter p (range_with_len a n) ≡ []
filter-range_none p a zero none = refl
filter-range_none p a (suc n) none =
    let here : p a ≡ false = none a (omega arith) (omega arith) in
    let rest : filter p (range_with_len (a + 1) n) ≡ [] =
    filter-range_none p (a + 1) n (λ k low high. none k (omega (arith, low)) (omega (arith, high))) in
    rw (here, rest)

-- one block more
pub open_blocks_more : (taken : List Bool) (but : List Run) (from n block : ℕ) → from + n ≡ block
    → open_blocks taken but from (n + 1) ≡ open_blocks taken but from n ++ cond (is_open taken but block) (block ∷ []) []
open_blocks_more taken but from n block e =
    ap (filter (is_open taken but)) (range_with_len-add from n 1) ∙ filter-append (is_open taken but) (range_with_len from n) (range_with_len (from + n) 1)
    ∙ ap (λ b. open_blocks taken but from n ++ cond (is_open taken but b) (b ∷ []) []) e

pub open_blocks-add : (taken : List Bool) (but : List Run) (from m n : ℕ) → open_blocks taken but from (m + n) ≡ open_blocks taken but from m ++ open_blocks taken but (from + m) n
open_blocks-add taken but from m n =
    ap (filter (is_open taken but)) (range_with_len-add from m n) ∙ filter-append (is_open taken but) (range_with_len from m) (range_with_len (from + m) n)

-- the first of two lists joined
pub take-append : {X : Type 0} (n : ℕ) (xs ys : List X) → take n (xs ++ ys) ≡ take n xs ++ take (n - length xs) ys
take-append zero [] ys = refl
take-append (suc n) [] ys = let e : suc n - 0 ≡ suc n = omega arith in rw e
take-append zero (x ∷ xs) ys = let e : 0 - length (x ∷ xs) ≡ 0 = omega arith in rw e
take-append (suc n) (x ∷ xs) ys = let e : suc n - length (x ∷ xs) ≡ n - length xs = omega arith in rw e (ap (λ rest. x ∷ rest) (take-append n xs ys))

-- what runs leave free
pub open_blocks-free : (taken : List Bool) (total : ℕ) (held but : List Run) → taken ≡ taken_by total held → open_blocks taken but 0 (length taken) ≡ free_blocks total (held ++ but)
open_blocks-free taken total held but is =
    let len : length taken ≡ total = ap length is ∙ length-taken_by total held in
    ap (open_blocks taken but 0) len
    ∙ filter-range_agree (is_open taken but) (λ block. not (is_in_runs (held ++ but) block)) 0 total (λ k low high.
    ap not (ap (λ b. b || is_in_runs but k) (ap (λ f. get_or f k true) is ∙ get_or-taken_by total held k true (omega (arith, high))) ∙ sym (is_in_runs-append held but k)))

-- what is wanted yet after some blocks
pub take-open_more : (wanted : ℕ) (xs : List ℕ) (block : ℕ) → length xs < wanted → take wanted (xs ++ block ∷ []) ≡ take wanted xs ++ block ∷ []
take-open_more wanted xs block lt =
    take-append wanted xs (block ∷ []) ∙ ap (λ ys. take wanted xs ++ ys) (take_all (wanted - length xs) (block ∷ []) (omega (arith, lt)))

-- where enough blocks stand in the first part of a range, the rest changes nothing
pub take-open_enough : (taken : List Bool) (but : List Run) (from m n wanted : ℕ) → m ≤ n → wanted ≤ length (open_blocks taken but from m)
    → (take wanted (open_blocks taken but from n) ≡ take wanted (open_blocks taken but from m)) × (wanted - length (open_blocks taken but from n) ≡ 0)
take-open_enough taken but from m n wanted le enough =
    let parts : open_blocks taken but from n ≡ open_blocks taken but from m ++ open_blocks taken but (from + m) (n - m) =
    ap (open_blocks taken but from) (sum n m le) ∙ open_blocks-add taken but from m (n - m) in
    let none : wanted - length (open_blocks taken but from m) ≡ 0 = omega (arith, enough) in (
      ap (take wanted) parts ∙ take-append wanted (open_blocks taken but from m) (open_blocks taken but (from + m) (n - m))
          ∙ ap (λ k. take wanted (open_blocks taken but from m) ++ take k (open_blocks taken but (from + m) (n - m))) none ∙ append-nil (take wanted (open_blocks taken but from m)),
      omega (arith, enough, ap length parts, length-append (open_blocks taken but from m) (open_blocks taken but (from + m) (n - m))),
    )
  where
    sum : (a b : ℕ) → b ≤ a → a ≡ b + (a - b)
    sum a b le = omega (arith, le)

-- a step of a loop over a range
pub left_at_open : (taken : List Bool) (but : List Run) (from n more block wanted left : ℕ) → from + n ≡ block → more ≡ n + 1 → is_open taken but block ≡ true
    → left ≡ wanted - length (open_blocks taken but from n) → left - 1 ≡ wanted - length (open_blocks taken but from more)
left_at_open taken but from n more block wanted left e one opened is =
    let longer : open_blocks taken but from more ≡ open_blocks taken but from n ++ block ∷ [] =
    ap (open_blocks taken but from) one ∙ open_blocks_more taken but from n block e ∙ ap (λ b. open_blocks taken but from n ++ cond b (block ∷ []) []) opened in
    omega (arith, is, ap length longer, length-append (open_blocks taken but from n) (block ∷ []))

pub open_blocks_same : (taken : List Bool) (but : List Run) (from n more block : ℕ) → from + n ≡ block → more ≡ n + 1 → is_open taken but block ≡ false
    → open_blocks taken but from n ≡ open_blocks taken but from more
open_blocks_same taken but from n more block e one closed = sym (
    ap (open_blocks taken but from) one ∙ open_blocks_more taken but from n block e
    ∙ ap (λ b. open_blocks taken but from n ++ cond b (block ∷ []) []) closed ∙ append-nil (open_blocks taken but from n))

pub as_runs-open_more : (taken : List Bool) (but : List Run) (from n more block wanted : ℕ) (blocks : List ℕ) → from + n ≡ block → more ≡ n + 1
    → is_open taken but block ≡ true → length (open_blocks taken but from n) < wanted
    → as_runs ((blocks ++ take wanted (open_blocks taken but from n)) ++ block ∷ []) ≡ as_runs (blocks ++ take wanted (open_blocks taken but from more))
as_runs-open_more taken but from n more block wanted blocks e one opened lt =
    ap as_runs (append_assoc blocks (take wanted (open_blocks taken but from n)) (block ∷ []) ∙ ap (λ xs. blocks ++ xs) (sym (
    ap (λ k. take wanted (open_blocks taken but from k)) one
    ∙ ap (take wanted) (open_blocks_more taken but from n block e ∙ ap (λ b. open_blocks taken but from n ++ cond b (block ∷ []) []) opened)
    ∙ take-open_more wanted (open_blocks taken but from n) block lt)))

-- a stronger test keeps fewer
pub length-filter_fewer : (p q : ℕ → Bool) (xs : List ℕ) → ((x : ℕ) → p x ≡ true → q x ≡ true) → length (filter p xs) ≤ length (filter q xs)
length-filter_fewer p q [] stronger = omega arith
length-filter_fewer p q (x ∷ xs) stronger = one (p x) (q x) (stronger x) (length-filter_fewer p q xs stronger)
  where
    one : (a b : Bool) → (a ≡ true → b ≡ true) → length (filter p xs) ≤ length (filter q xs)
        → length (cond a (x ∷ filter p xs) (filter p xs)) ≤ length (cond b (x ∷ filter q xs) (filter q xs))
    one true true h le = omega (arith, le)
    one true false h le = absurd (true≢false (sym (h refl)))
    one false true h le = omega (arith, le)
    one false false h le = le

not_either : (a b c : Bool) → c ≡ (a || b) → not c ≡ true → not a ≡ true
not_either false b c e h = refl
not_either true b c e h = absurd (false≢true (ap not (sym e) ∙ h))

-- runs that are passed over leave no more
pub open_blocks-few : (taken : List Bool) (total : ℕ) (held but : List Run) → taken ≡ taken_by total held → length (free_blocks total (held ++ but)) ≤ count_by not taken
open_blocks-few taken total held but is =
    let fewer = length-filter_fewer (λ block. not (is_in_runs (held ++ but) block)) (λ block. not (is_in_runs held block)) (range_with_len 0 total)
    (λ block. not_either (is_in_runs held block) (is_in_runs but block) (is_in_runs (held ++ but) block) (is_in_runs-append held but block)) in
    omega (arith, fewer, ap (count_by not) is ∙ count_by-taken_by total held)
