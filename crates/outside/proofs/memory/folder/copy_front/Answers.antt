use Rattle.std.proofs.Common.{◌∙◌, ap, take, ℕ}
use Rattle.std.proofs.lemmas.List.{take_min}
use Rattle.outside.specs.declared.folder.TheConstants.{LONGEST_READ}
use Rattle.outside.proofs.memory.folder.copy_front.Goals as goal

pub returns-in-Ok : goal.returns-in-Ok
returns-in-Ok c = c.in-Ok.ensures ∙ ap (λ (n : ℕ). take n c.args.text.now) c.min-length.ensures ∙ take_min LONGEST_READ c.args.text.now
