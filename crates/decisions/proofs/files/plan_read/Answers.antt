use Rattle.std.proofs.Common.{None, ◌∙◌, arith}
use Rattle.site_types.specs.declared.step.StepKind.TheVariants.{Accessed}
use Rattle.site_history.proofs.Turns.{read-missing}
use Rattle.decisions.proofs.Planned.{bare_recordable, finds_none, finds_file, read_planned}
use Rattle.decisions.proofs.files.plan_read.Goals as goal

pub returns-in_default-clause-answers : goal.returns-in_default-clause-answers
returns-in_default-clause-answers c = λ terms count site running kept bytes keeps.
    read-missing terms site running c.args.moment c.args.path c.args.upto
    (finds_none c.args.path c.as_slice.result.now site.fields.files _ c.as_slice.ensures (c.file_at.ensures.file site.fields keeps) c.in_default.is)

pub returns-clause-answers : goal.returns-clause-answers
returns-clause-answers c = λ terms count site running kept bytes keeps.
    read_planned terms site running c.args.moment None c.args.path c.in-Some.file.now
    (finds_file c.args.path c.as_slice.result.now site.fields.files _ c.in-Some.file c.as_slice.ensures (c.file_at.ensures.file site.fields keeps) c.in-Some.is) count kept bytes c.args.upto
    _ c.in_ok-buffer.buffer (c.from_vec.ensures ∙ c.in_ok-runs.ensures.items ∙ c.as_slice-2.ensures) (omega (arith, c.in_ok-buffer.ensures.len, c.in_ok-buffer.buffer.ok, c.min-count.ensures))

pub returns-clause-performable : goal.returns-clause-performable
returns-clause-performable c = (bare_recordable c.args.site.now c.args.moment (Accessed c.in-Some.file.now.inode) c.requires c.in-Some.ensures.inode (omega arith) tt tt tt, tt)
