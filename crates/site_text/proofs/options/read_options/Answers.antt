use Rattle.std.proofs.Common.{sym, ◌∙◌, refl}
use Rattle.site_text.specs.OptionSteps.{options_of}
use Rattle.site_text.proofs.OptionLoop.{goes, wrong_given, wrong_option, smaller}
use Rattle.site_text.proofs.options.read_options.Goals as goal

pub loop-field-smaller : goal.loop-field-smaller
loop-field-smaller g c = smaller (g.T.OptionTable.options c.args.table.now) _ _ c.given_at.new.fields c.loop-field.fields _ c.in-Some.ensures c.in-Ok.ensures

pub loop-field-preserved : goal.loop-field-preserved
loop-field-preserved g c = sym (goes (g.T.OptionTable.options c.args.table.now) c.loop-field.before c.add_given.new.before _ _ c.given_at.new.fields c.loop-field.fields _ c.in-Some.ensures c.in-Ok.ensures c.in-Ok-add_given.ensures) ∙ c.loop-field.invariant

pub returns-in-Err-add_given : goal.returns-in-Err-add_given
returns-in-Err-add_given g c = wrong_option (g.T.OptionTable.options c.args.table.now) c.loop-field.before _ _ c.given_at.new.fields c.loop-field.fields _ c.in-Err-add_given.error _ c.in-Some.ensures c.in-Ok.ensures c.in-Err-add_given.ensures c.loop-field.invariant

pub returns-in-Err : goal.returns-in-Err
returns-in-Err g c = wrong_given (g.T.OptionTable.options c.args.table.now) c.loop-field.before _ _ c.loop-field.fields c.in-Err.error _ c.in-Some.ensures c.in-Err.ensures c.loop-field.invariant

pub returns : goal.returns
unfolding options_of
returns g c = sym c.loop-field.invariant ∙ rw c.in_default.ensures.0 refl
