use Rattle.site_text.proofs.FileMeaning.{something, one_meaning, not_both, one_refusal, said_is_read, read_is_said, wrong_is_refused, refused_is_wrong}
use Rattle.site_text.proofs.files.each_text_says_one_thing.Goals as goal

pub returns-clause-something : goal.returns-clause-something
returns-clause-something g c = something (g.F.CommandFile.line_of c.args.file.now) (g.F.CommandFile.line_says c.args.file.now) (g.F.CommandFile.line_wrong c.args.file.now) (g.F.CommandFile.open_section c.args.file.now)
    (record { says = g.met.F.CommandFile.reads_what_is_said c.args.file.now; wrong = g.met.F.CommandFile.refuses_what_is_wrong c.args.file.now })

pub returns-clause-one_meaning : goal.returns-clause-one_meaning
returns-clause-one_meaning g c = one_meaning (g.F.CommandFile.line_of c.args.file.now) (g.F.CommandFile.line_says c.args.file.now) (g.F.CommandFile.line_wrong c.args.file.now) (g.F.CommandFile.open_section c.args.file.now)
    (record { says = g.met.F.CommandFile.reads_what_is_said c.args.file.now; wrong = g.met.F.CommandFile.refuses_what_is_wrong c.args.file.now })

pub returns-clause-not_both : goal.returns-clause-not_both
returns-clause-not_both g c = not_both (g.F.CommandFile.line_of c.args.file.now) (g.F.CommandFile.line_says c.args.file.now) (g.F.CommandFile.line_wrong c.args.file.now) (g.F.CommandFile.open_section c.args.file.now)
    (record { says = g.met.F.CommandFile.reads_what_is_said c.args.file.now; wrong = g.met.F.CommandFile.refuses_what_is_wrong c.args.file.now })

pub returns-clause-one_refusal : goal.returns-clause-one_refusal
returns-clause-one_refusal g c = one_refusal (g.F.CommandFile.line_of c.args.file.now) (g.F.CommandFile.line_says c.args.file.now) (g.F.CommandFile.line_wrong c.args.file.now) (g.F.CommandFile.open_section c.args.file.now)
    (record { says = g.met.F.CommandFile.reads_what_is_said c.args.file.now; wrong = g.met.F.CommandFile.refuses_what_is_wrong c.args.file.now })

pub returns-clause-read : goal.returns-clause-read
returns-clause-read g c text said = (
  read_is_said (g.F.CommandFile.line_of c.args.file.now) (g.F.CommandFile.line_says c.args.file.now) (g.F.CommandFile.line_wrong c.args.file.now) (g.F.CommandFile.open_section c.args.file.now)
      (record { says = g.met.F.CommandFile.reads_what_is_said c.args.file.now; wrong = g.met.F.CommandFile.refuses_what_is_wrong c.args.file.now }) text said,
  said_is_read (g.F.CommandFile.line_of c.args.file.now) (g.F.CommandFile.line_says c.args.file.now) (g.F.CommandFile.line_wrong c.args.file.now) (g.F.CommandFile.open_section c.args.file.now)
      (record { says = g.met.F.CommandFile.reads_what_is_said c.args.file.now; wrong = g.met.F.CommandFile.refuses_what_is_wrong c.args.file.now }) text said,
)

pub returns-clause-refused : goal.returns-clause-refused
returns-clause-refused g c text refusal = (
  refused_is_wrong (g.F.CommandFile.line_of c.args.file.now) (g.F.CommandFile.line_says c.args.file.now) (g.F.CommandFile.line_wrong c.args.file.now) (g.F.CommandFile.open_section c.args.file.now)
      (record { says = g.met.F.CommandFile.reads_what_is_said c.args.file.now; wrong = g.met.F.CommandFile.refuses_what_is_wrong c.args.file.now }) text refusal,
  wrong_is_refused (g.F.CommandFile.line_of c.args.file.now) (g.F.CommandFile.line_says c.args.file.now) (g.F.CommandFile.line_wrong c.args.file.now) (g.F.CommandFile.open_section c.args.file.now)
      (record { says = g.met.F.CommandFile.reads_what_is_said c.args.file.now; wrong = g.met.F.CommandFile.refuses_what_is_wrong c.args.file.now }) text refusal,
)
