use Rattle.configuration.proofs.AllFiles.{answer-read, answer-refused, answer-blocks}
use Rattle.configuration.proofs.read.read_configuration.Goals as goal

pub returns-clause-read : goal.returns-clause-read
returns-clause-read c = answer-read c.args.texts.now c.read_files.result c.read_files.ensures

pub returns-clause-refused : goal.returns-clause-refused
returns-clause-refused c = answer-refused c.args.texts.now c.read_files.result c.read_files.ensures

pub returns-clause-blocks : goal.returns-clause-blocks
returns-clause-blocks c = answer-blocks c.args.texts.now c.read_files.result c.read_files.ensures
