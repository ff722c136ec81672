use Rattle.std.proofs.Common.{◌∙◌}
use Rattle.desk.proofs.BadJournals.{cut_at_words, cut_at_digits, line_ended}
use Rattle.desk.proofs.bad_journal.write_bad_journal.Goals as goal

pub returns-in_err-write_all-clause-bytes : goal.returns-in_err-write_all-clause-bytes
returns-in_err-write_all-clause-bytes g c = cut_at_words _ _ _ c.args.place c.from_residual.ensures.0 c.in_err-write_all.ensures.bytes

pub returns-in_err-write_all-2-clause-bytes : goal.returns-in_err-write_all-2-clause-bytes
returns-in_err-write_all-2-clause-bytes g c =
    cut_at_digits _ _ _ _ c.args.place _ (c.as_bytes.ensures.value ∙ c.format.ensures.text) c.from_residual-in_err-write_all-2.ensures.0 c.in_ok-write_all.ensures.bytes c.in_err-write_all-2.ensures.bytes

pub returns-clause-bytes : goal.returns-clause-bytes
returns-clause-bytes g c =
    line_ended _ _ _ _ _ c.args.place _ (c.as_bytes.ensures.value ∙ c.format.ensures.text) c.in_ok-write_all.ensures.bytes c.in_ok-write_all-2.ensures.bytes c.write_all-3.ensures.bytes
