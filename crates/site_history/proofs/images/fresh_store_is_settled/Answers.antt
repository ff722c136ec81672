use Rattle.site_history.proofs.ImageLaws.{fresh_settled}
use Rattle.site_history.proofs.images.fresh_store_is_settled.Goals as goal

pub returns : goal.returns
returns g c = λ told terms shut. fresh_settled terms (g.B.Bank.view c.args.bank.now) (g.met.B.Bank.sound _ told) shut
