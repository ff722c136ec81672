use Rattle.std.proofs.Common.{ℕ, List, sym, ap, ◌∙◌}
use Rattle.daemon_cmds.specs.StagerRules.{copy_numbers}
use Rattle.daemon_cmds.proofs.CopyNumbers.{behind, numbers_read, goes_on, stops, ends, ends_wrong}
use Rattle.daemon_cmds.proofs.stager_lines.copy_numbers.Goals as goal

pub loop-at-preserved : goal.loop-at-preserved
loop-at-preserved c =
    ap (λ (copies : List ℕ). behind copies (copy_numbers c.cut_at.result.1.now)) c.in_ok-push-in-Ok.ensures.ok
    ∙ goes_on c.loop-at.copies c.loop-at.rest.now _ _ _ _ (sym c.in-Some.ensures.place) c.cut_at.ensures.before c.cut_at.ensures.behind (sym c.in-Ok.ensures) ∙ c.loop-at.invariant

pub returns-in-Err : goal.returns-in-Err
returns-in-Err c = sym c.loop-at.invariant ∙ stops c.loop-at.copies c.loop-at.rest.now _ _ _ (sym c.in-Some.ensures.place) c.cut_at.ensures.before (sym c.in-Err.ensures)

pub returns-in-Err-copy_number : goal.returns-in-Err-copy_number
returns-in-Err-copy_number c = sym c.loop-at.invariant ∙ ends_wrong c.loop-at.copies c.loop-at.rest.now _ (sym c.in_default.ensures.place) (sym c.in-Err-copy_number.ensures)

pub returns : goal.returns
returns c = sym c.loop-at.invariant ∙ ends c.loop-at.copies c.loop-at.rest.now _ (sym c.in_default.ensures.place) (sym c.in-Ok-copy_number.ensures)
    ∙ ap numbers_read (sym c.in_ok-push-in-Ok-copy_number.ensures.ok)
