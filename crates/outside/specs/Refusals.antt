-- The pattern last refused.
use Rattle.std.specs.Prelude.{ℕ, List, Result, Ok, Err}
use Rattle.outside.specs.declared.patterns.PatternFault.{PatternFault}
use Rattle.outside.specs.declared.patterns.PatternFault.TheVariants.{Failed, NoMemory}

-- the text last refused, after a call about a pattern of this text
abbrev pub refused_after : {T : Type 0} → Result T PatternFault → List ℕ → List ℕ → List ℕ
refused_after (Ok value) text before = before
refused_after (Err Failed) text before = text
refused_after (Err NoMemory) text before = before
