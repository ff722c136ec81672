-- What writing to the end of a vector leaves.
use Rattle.std.specs.Prelude.{◌≡◌, ℕ, ◌+◌, ◌<◌, ◌≤◌, List, ◌++◌, length, take, Result, OnOk, OnErr, vec_len, vec_capacity}
use Rattle.std.specs.Global.{Vec}

-- The bytes were added, or there was no room for them and no memory for more; then some of them may have been.
pub record Adds {T E : Type 0} (old new : Vec ℕ) (result : Result T E) (bytes : List ℕ) : Type 0 where
  pub ok : OnOk result (new.items ≡ old.items ++ bytes)
  pub len : OnOk result (vec_len new ≡ vec_len old + length bytes)
  pub kept : take (length old.items) new.items ≡ old.items
  pub room : vec_capacity old ≤ vec_capacity new
  pub full : OnErr result (vec_capacity old < vec_len old + length bytes)
