-- What a caller may want to know of lines and answers without opening their definitions.
use Rattle.std.proofs.Common.{◌≡◌, ℕ, ◌<◌, ◌≤◌, false, List, length, Err, refl, arith}
use Rattle.std.proofs.lemmas.Bool.{lt-ltb, le-ltb}
use Rattle.std.proofs.lemmas.Grind.{common_steps}
use Rattle.site_events.specs.declared.reply.LineRefusal.TheVariants.{LineTooLong}
use Rattle.desk.specs.Asks.{asked_of, command_of, is_skipped}

-- a line of over 4,096 bytes is too long, whatever its bytes
pub asked_of-long : (line : List ℕ) → 4096 < length line → asked_of line ≡ Err LineTooLong
unfolding asked_of
asked_of-long line long = rw (lt-ltb 4096 (length line) long) refl

-- a line of at most so many is what its words ask
pub asked_of-short : (line : List ℕ) → length line ≤ 4096 → asked_of line ≡ command_of line
unfolding asked_of
asked_of-short line short = rw (le-ltb 4096 (length line) short) refl

-- it is answered, also where it begins with `#`
pub is_skipped-long : (line : List ℕ) → 4096 < length line → is_skipped line ≡ false
unfolding is_skipped
is_skipped-long line long = grind (arith, common_steps)
