use Rattle.std.proofs.Common.{◌≡◌, drop, map}
use Rattle.site_text.specs.Words.{named}
use Rattle.site_text.proofs.words.find_word.Given as goal

abbrev pub invariant-loop-entry : goal.invariant-loop-entry
invariant-loop-entry g l = named (map (λ e. (e.0.now, e.1)) (drop l.entry-index l.table)) l.word ≡ named (map (λ e. (e.0.now, e.1)) l.table) l.word
