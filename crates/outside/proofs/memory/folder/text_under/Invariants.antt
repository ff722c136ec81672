use Rattle.std.proofs.Common.{◌≡◌, drop}
use Rattle.outside.specs.Folders.{text_under}
use Rattle.outside.proofs.memory.folder.text_under.Given as goal

abbrev pub invariant-loop-named : goal.invariant-loop-named
invariant-loop-named l = text_under l.texts l.name ≡ text_under (drop l.named-index l.texts) l.name
