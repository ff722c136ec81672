use Rattle.std.proofs.Common.{◌≡◌, take}
use Rattle.bank.proofs.memory.MemoryBank.crashed.Given as goal

abbrev pub invariant-loop-call : goal.invariant-loop-call
invariant-loop-call l = l.before.items ≡ take l.call-index l.call-items
