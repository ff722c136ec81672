use Rattle.std.proofs.Common.{◌≡◌, length}
use Rattle.site_text.specs.OptionSteps.{options_of}
use Rattle.site_text.proofs.options.read_options.Given as goal

abbrev pub invariant-loop-field : goal.invariant-loop-field
invariant-loop-field g l = options_of (g.T.OptionTable.options l.table) l.before l.fields ≡ options_of (g.T.OptionTable.options l.table) l.initial.before l.initial.fields

abbrev pub decreases-loop-field : goal.decreases-loop-field
decreases-loop-field g l = length l.fields
