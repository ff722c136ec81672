use Rattle.site_history.proofs.ImageLaws.{crashed_settled}
use Rattle.site_history.proofs.images.store_after_a_crash_is_settled.Goals as goal

pub returns : goal.returns
returns g c = λ told terms steps only reads. crashed_settled terms (g.B.Bank.view c.args.bank.now) steps only reads
