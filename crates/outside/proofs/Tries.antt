-- A read that is made again behind reads that gave nothing.
use Rattle.std.proofs.Common.{ℕ, List, sym, ◌∙◌, take, Option, None, Some, Result, Ok, Err}
use Rattle.std.proofs.KnownBytes.{Keeps-trans}
use Rattle.std.specs.Io.KnownBytes.{Consumes, Keeps, ReadConsumes}

pub consumed_after : (a b c : Option (List ℕ)) (bs : List ℕ) → Keeps a b → Consumes b c bs → Consumes a c bs
consumed_after None b c bs p q = tt
consumed_after (Some x) None c bs p q = absurd p
consumed_after (Some x) (Some y) None bs p q = absurd q
consumed_after (Some x) (Some y) (Some z) bs p q = sym p ∙ q

-- what the last read consumed is what all of them did
pub read_after : {E : Type 0} (a b c : Option (List ℕ)) (r : Result ℕ E) (buf : List ℕ) → Keeps a b → ReadConsumes b c r buf → ReadConsumes a c r buf
read_after a b c (Ok n) buf p q = (consumed_after a b c (take n buf) p q.0, q.1)
read_after a b c (Err e) buf p q = Keeps-trans a b c p q
