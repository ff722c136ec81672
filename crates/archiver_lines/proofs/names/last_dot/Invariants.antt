use Rattle.std.proofs.Common.{◌≡◌, ◌<◌, take}
use Rattle.std.specs.Prelude.{IfSome}
use Rattle.archiver_lines.specs.Names.{last_dot}
use Rattle.archiver_lines.proofs.names.last_dot.Given as goal

abbrev pub invariant-loop-place : goal.invariant-loop-place
invariant-loop-place l = record { place : l.last ≡ last_dot (take l.place l.field); within : IfSome l.last (λ at. at < l.place) }
