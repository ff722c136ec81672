-- Groups of blocks, and the marks of those that are full.
use Rattle.std.proofs.Common.{◌≡◌, ℕ, ◌+◌, ◌-◌, ◌*◌, ◌/◌, ◌<◌, ◌≤◌, min, Bool, true, false, not, ◌||◌, List, [], ◌++◌, length, take, get_or, sym, ◌∙◌, ap, arith}
use Rattle.std.proofs.lemmas.List.{append-nil, append_assoc, length-append}
use Rattle.site_types.specs.declared.file.Run.{Run}
use Rattle.cache_space.specs.Blocks.{is_in_runs, as_runs}
use Rattle.cache_space.specs.Flags.{is_open, open_blocks, FullAreTaken}
use Rattle.cache_space.proofs.OpenBlocks.{open_blocks-add, filter-range_none, take-append}

-- a search over one group more
sum : (from to n : ℕ) → to ≡ from + n → n ≡ to - from
sum from to n e = omega (arith, e)

two_parts : (taken : List Bool) (but : List Run) (from to n : ℕ) → to ≡ from + n → open_blocks taken but 0 to ≡ open_blocks taken but 0 from ++ open_blocks taken but from n
two_parts taken but from to n e =
    let zero_from : 0 + from ≡ from = omega arith in
    ap (open_blocks taken but 0) e ∙ open_blocks-add taken but 0 from n ∙ ap (λ k. open_blocks taken but 0 from ++ open_blocks taken but k n) zero_from

pub left_joined : (taken : List Bool) (but : List Run) (from to n wanted left : ℕ) → to ≡ from + n → left ≡ wanted - length (open_blocks taken but 0 from)
    → left - length (open_blocks taken but from n) ≡ wanted - length (open_blocks taken but 0 to)
left_joined taken but from to n wanted left e is =
    omega (arith, is, ap length (two_parts taken but from to n e), length-append (open_blocks taken but 0 from) (open_blocks taken but from n))

pub runs_joined : (taken : List Bool) (but : List Run) (from to n wanted left : ℕ) (blocks : List ℕ) → to ≡ from + n → left ≡ wanted - length (open_blocks taken but 0 from)
    → as_runs ((blocks ++ take wanted (open_blocks taken but 0 from)) ++ take left (open_blocks taken but from n)) ≡ as_runs (blocks ++ take wanted (open_blocks taken but 0 to))
runs_joined taken but from to n wanted left blocks e is =
    ap as_runs (append_assoc blocks (take wanted (open_blocks taken but 0 from)) (take left (open_blocks taken but from n))
    ∙ ap (λ xs. blocks ++ xs) (
    ap (λ k. take wanted (open_blocks taken but 0 from) ++ take k (open_blocks taken but from n)) is
    ∙ sym (take-append wanted (open_blocks taken but 0 from) (open_blocks taken but from n))
    ∙ ap (take wanted) (sym (two_parts taken but from to n e))))

-- a full group has no open block
pub open_blocks-full : (taken full : List Bool) (but : List Run) (group from to : ℕ) → FullAreTaken full taken → get_or full group false ≡ true
    → from ≡ min (group * 4096) (length taken) → to ≡ min ((group + 1) * 4096) (length taken) → open_blocks taken but 0 from ≡ open_blocks taken but 0 to
open_blocks-full taken full but group from to marks marked begins ends =
    let n : ℕ = to - from in
    let e : to ≡ from + n = omega (arith, begins, ends) in
    let none : open_blocks taken but from n ≡ [] = filter-range_none (is_open taken but) from n (λ k low high. closed k low (omega (arith, e, high))) in
    sym (two_parts taken but from to n e ∙ ap (λ xs. open_blocks taken but 0 from ++ xs) none ∙ append-nil (open_blocks taken but 0 from))
  where
    closed : (k : ℕ) → from ≤ k → k < to → is_open taken but k ≡ false
    closed k low high =
        let here : k / 4096 ≡ group = omega (arith, begins, ends, low, high) in
        let is_taken = marks k (omega (arith, ends, high)) (ap (λ g. get_or full g false) here ∙ marked) in
        ap (λ b. not (b || is_in_runs but k)) is_taken
