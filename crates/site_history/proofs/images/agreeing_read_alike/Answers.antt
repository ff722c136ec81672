use Rattle.site_history.proofs.ImageLaws.{agreeing_read}
use Rattle.site_history.proofs.images.agreeing_read_alike.Goals as goal

-- src/images.rt:7:1
pub returns : goal.returns
returns c = agreeing_read
