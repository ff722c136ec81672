use Rattle.std.proofs.Common.{◌≡◌, ◌<◌, ◌+◌, ℕ, length, get_or, reverse, take}
use Rattle.bank.specs.Past.{content_of}
use Rattle.bank.proofs.memory.fill.Given as goal

abbrev pub invariant-loop-byte : goal.invariant-loop-byte
invariant-loop-byte l = (k : ℕ) → k < l.byte-index → get_or l.piece k 0 ≡ 0

abbrev pub invariant-loop-call : goal.invariant-loop-call
invariant-loop-call l = (k : ℕ) → k < length l.piece → content_of (λ a n. 0) (reverse (take l.call-index l.before)) l.area (l.place + k) ≡ get_or l.piece k 0

abbrev pub invariant-loop-call-2 : goal.invariant-loop-call-2
invariant-loop-call-2 l =
    (k : ℕ) → k < length l.piece → content_of (content_of (λ a n. 0) (reverse l.before)) (reverse (take l.call-index l.calls)) l.area (l.place + k) ≡ get_or l.piece k 0
