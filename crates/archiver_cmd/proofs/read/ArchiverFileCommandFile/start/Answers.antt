use Rattle.archiver_cmd.proofs.read.ArchiverFileCommandFile.start.Goals as goal

pub returns : goal.returns
returns c = c.new.ensures c.args.self.now.site.now
