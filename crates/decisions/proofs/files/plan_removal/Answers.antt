use Rattle.std.proofs.Common.{None, arith}
use Rattle.site_events.specs.declared.reply.Reply.TheVariants.{Done}
use Rattle.site_types.specs.declared.step.StepKind.TheVariants.{Removed}
use Rattle.site_history.proofs.Turns.{remove-missing, remove-found}
use Rattle.decisions.proofs.Planned.{bare_recordable, finds_none, finds_file, nothing_planned}
use Rattle.decisions.proofs.files.plan_removal.Goals as goal

pub returns-in_default-clause-answers : goal.returns-in_default-clause-answers
returns-in_default-clause-answers c = λ terms count site running kept bytes keeps.
    remove-missing terms site running c.args.moment c.args.path
    (finds_none c.args.path c.as_slice.result.now site.fields.files _ c.as_slice.ensures (c.file_at.ensures.file site.fields keeps) c.in_default.is)

pub returns-clause-answers : goal.returns-clause-answers
returns-clause-answers c = λ terms count site running kept bytes keeps.
    nothing_planned terms site running c.args.moment None _ (Done c.in-Some.file.now.inode) (Removed c.in-Some.file.now.inode)
    (remove-found terms site running c.args.moment c.args.path c.in-Some.file.now (finds_file c.args.path c.as_slice.result.now site.fields.files _ c.in-Some.file c.as_slice.ensures (c.file_at.ensures.file site.fields keeps) c.in-Some.is))

pub returns-clause-performable : goal.returns-clause-performable
returns-clause-performable c = (bare_recordable c.args.site.now c.args.moment (Removed c.in-Some.file.now.inode) c.requires c.in-Some.ensures.inode (omega arith) tt tt tt, tt)
