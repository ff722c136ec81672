use Rattle.outside.proofs.Pieces.{written_anyhow}
use Rattle.session.proofs.run.refuse.Goals as goal

pub returns-in-BadJournal-clause-bytes : goal.returns-in-BadJournal-clause-bytes
returns-in-BadJournal-clause-bytes g c = rw c.in-BadJournal.is (written_anyhow _ _ _ _ c.write_bad_journal.result _ c.write_bad_journal.ensures.cause c.write_bad_journal.ensures.bytes)
