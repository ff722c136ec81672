-- The bytes of a made file, one after the other.
use Rattle.std.proofs.Common.{◌≡◌, ℕ, ◌+◌, ◌%◌, [], ◌∷◌, ◌++◌, map, arith}
use Rattle.std.specs.List.{range_with_len}
use Rattle.std.proofs.lemmas.List.FromFn.{map-range_with_len_more}

pub one_more_made : (seed n : ℕ) → map (λ k. (k + seed) % 256) (range_with_len 0 (n + 1)) ≡ map (λ k. (k + seed) % 256) (range_with_len 0 n) ++ ((n + seed) % 256 ∷ [])
one_more_made seed n = map-range_with_len_more (λ k. (k + seed) % 256) 0 n n (omega arith)
