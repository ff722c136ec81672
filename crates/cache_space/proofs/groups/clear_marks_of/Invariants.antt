use Rattle.std.proofs.Common.{◌≡◌, ℕ, ◌<◌, ◌≤◌, ◌/◌, true, false, length, get_or}
use Rattle.cache_space.proofs.groups.clear_marks_of.Given as goal

abbrev pub invariant-loop-group : goal.invariant-loop-group
invariant-loop-group l = record {
  len : length l.full.items ≡ length l.fn.full.items;
  others : (group : ℕ) → get_or l.full.items group false ≡ true → get_or l.fn.full.items group false ≡ true;
  cleared : (group : ℕ) → l.run.first / 4096 ≤ group → group < l.group → get_or l.full.items group false ≡ false;
}
