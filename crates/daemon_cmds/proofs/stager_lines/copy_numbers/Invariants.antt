use Rattle.std.proofs.Common.{◌≡◌, length}
use Rattle.daemon_cmds.specs.StagerRules.{copy_numbers}
use Rattle.daemon_cmds.proofs.CopyNumbers.{behind}
use Rattle.daemon_cmds.proofs.stager_lines.copy_numbers.Given as goal

abbrev pub invariant-loop-at : goal.invariant-loop-at
invariant-loop-at l = behind l.copies (copy_numbers l.rest) ≡ copy_numbers l.field

abbrev pub decreases-loop-at : goal.decreases-loop-at
decreases-loop-at l = length l.rest
