-- Where a text is cut.
use Rattle.std.proofs.Common.{◌≡◌, Bool, List, length, None, not, arith}
use Rattle.std.specs.List.{position, position_or_len}
use Rattle.std.proofs.lemmas.List.Sums.{prefix_len-le-length}
use Rattle.std.proofs.lemmas.Grind.{common_steps}

-- where no element passes, the place is the length
pub none_passes : {X : Type 0} (p : X → Bool) (xs : List X) → None ≡ position p xs → length xs ≡ position_or_len p xs
none_passes p xs none = grind (arith, common_steps, prefix_len-le-length (λ x. not (p x)) xs)
