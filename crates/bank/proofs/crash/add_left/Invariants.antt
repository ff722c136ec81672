use Rattle.std.proofs.Common.{◌≡◌, ℕ, take, drop, reverse, if◌then◌else◌}
use Rattle.std.specs.List.{list_any}
use Rattle.bank.specs.Content.{Image}
use Rattle.bank.specs.Past.{is_sync_of, content_of}
use Rattle.bank.specs.Crash.{picked}
use Rattle.bank.proofs.crash.add_left.Given as goal

-- the calls to come say what was synced
abbrev pub invariant-loop-i : goal.invariant-loop-i
invariant-loop-i l =
    (start : Image) (a k : ℕ) → content_of start (reverse l.left.items) a k
    ≡ (if list_any (λ c. is_sync_of c a) (drop l.i l.calls)
    then content_of (content_of start (reverse l.fn.before.items)) (reverse (take l.i l.calls)) a k
    else picked l.pick (content_of start (reverse l.fn.before.items)) (reverse (take l.i l.calls)) a k)
