use Rattle.archiver_lines.proofs.ToldLaws.{where_added}
use Rattle.archiver_lines.proofs.known.Known.add.Goals as goal

pub returns : goal.returns
returns c = where_added c.args.site.now c.args.reading c.args.self.now c.add_reading.new.self c.add_reading.result c.add_reading.ensures
