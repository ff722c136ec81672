use Rattle.std.proofs.Common.{ℕ, ◌∙◌, subst}
use Rattle.bank.specs.Content.{Content}
use Rattle.bank.proofs.Readings.{read_then_read}
use Rattle.journal.specs.Records.{HoldsRecords}
use Rattle.site_history.specs.Histories.{written_forms}
use Rattle.engine.specs.Journals.{TellsJournal}
use Rattle.engine.proofs.Reading.{same_content, read_none, replayed, held}
use Rattle.engine.proofs.reopen.read_site.Goals as goal

pub replay_rest-requires-clause-so_far : goal.replay_rest-requires-clause-so_far
replay_rest-requires-clause-so_far g c = λ terms.
    read_none terms g.B.Bank.tells ((g.B.Bank.view c.open.new.bank).content 0) c.in-Ok.reader c.in-Ok-first.site c.in-Ok-first.ensures c.in-Ok.ensures.place c.in-Ok.ensures.count

pub returns-in-Err-clause-unchanged : goal.returns-in-Err-clause-unchanged
returns-in-Err-clause-unchanged g c = λ told. read_then_read _ _ _ (c.open.ensures.unchanged told) (c.replay_rest.ensures.unchanged told)

pub returns-in-Err-clause-bad : goal.returns-in-Err-clause-bad
returns-in-Err-clause-bad g c = λ told terms size.
    subst (λ (content : Content). TellsJournal terms content c.in-Err.cause) (same_content (g.B.Bank.view c.open.new.bank) (g.B.Bank.view c.replay_rest.new.bank) (c.replay_rest.ensures.unchanged told))
    (c.in-Err.ensures.bad told terms (c.in-Ok.ensures.size ∙ size))

pub returns-in-Ok-replay_rest-clause-unchanged : goal.returns-in-Ok-replay_rest-clause-unchanged
returns-in-Ok-replay_rest-clause-unchanged g c = λ told. read_then_read _ _ _ (c.open.ensures.unchanged told) (c.replay_rest.ensures.unchanged told)

pub returns-in-Ok-replay_rest-clause-read : goal.returns-in-Ok-replay_rest-clause-read
returns-in-Ok-replay_rest-clause-read g c = λ terms.
    let before = (g.B.Bank.view c.open.new.bank).content 0 in
    let h = c.in-Ok-replay_rest.ensures.read terms in (
      h.so_far.steps,
      replayed terms g.B.Bank.tells before c.into_journal.result c.replay_rest.new.reader c.replay_rest.new.site h c.into_journal.ensures.count c.into_journal.ensures.place,
      λ told. subst (λ (content : Content). HoldsRecords content 0 (written_forms h.so_far.steps) c.args.size)
          (same_content (g.B.Bank.view c.open.new.bank) (g.B.Bank.view c.replay_rest.new.bank) (c.replay_rest.ensures.unchanged told))
          (subst (λ (n : ℕ). HoldsRecords before 0 (written_forms h.so_far.steps) n) (c.replay_rest.ensures.size ∙ c.in-Ok.ensures.size)
          (held terms g.B.Bank.tells before c.replay_rest.new.reader c.replay_rest.new.site h told)),
    )
