use Rattle.std.proofs.Common.{◌≡◌, ◌+◌, take, length}
use Rattle.archiver_lines.specs.SectionRules.{pool_exprs}
use Rattle.archiver_lines.proofs.section_lines.room_behind_pool.Given as goal

abbrev pub invariant-loop-line : goal.invariant-loop-line
invariant-loop-line l = l.left + length (pool_exprs (take l.line-index l.pools) l.media l.pool) ≡ l.room
