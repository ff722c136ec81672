-- What holds where a call succeeds.
use Rattle.std.proofs.Common.{Result, Ok, Err, OnOk}

pub carried : {A E : Type 0} {P Q : Type 0} (result : Result A E) → (P → Q) → OnOk result P → OnOk result Q
carried (Ok x) so holds = so holds
carried (Err e) so holds = tt
