use Rattle.std.proofs.Common.{◌≡◌, ◌+◌, List, get_or, reverse, subst}
use Rattle.std.proofs.lemmas.List.{take_all}
use Rattle.bank.specs.declared.call.Call.{Call}
use Rattle.bank.specs.Past.{content_of}
use Rattle.bank.proofs.Spans.{Stands-each}
use Rattle.bank.proofs.memory.fill.Goals as goal

pub returns : goal.returns
returns c = Stands-each _ _ _ (λ k lt.
    subst (λ (l : List Call). content_of (content_of (λ a n. 0) (reverse c.args.before.now)) (reverse l) c.args.area (c.args.place + k) ≡ get_or c.loop-call-2.piece k 0)
    (take_all c.loop-call-2.call-index c.args.calls.now c.loop-call-2-test.false) (c.loop-call-2.invariant k lt))
