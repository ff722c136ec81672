use Rattle.site_state.proofs.Asking.{answered_file, next_inode_is, next_created, inode_there_is, not_created}
use Rattle.site_state.proofs.state.SiteState.inode_of.Goals as goal

pub returns-in-Some-clause-inode : goal.returns-in-Some-clause-inode
returns-in-Some-clause-inode c = λ fields keeps. inode_there_is c.args.self.now fields keeps c.args.path.now c.in-Some.file.now (answered_file c.get.ensures.file c.in-Some.is)

pub returns-in-Some-clause-created : goal.returns-in-Some-clause-created
returns-in-Some-clause-created c = λ fields keeps. not_created c.args.self.now fields keeps c.args.path.now c.in-Some.file.now (answered_file c.get.ensures.file c.in-Some.is)

pub returns-in-None-clause-inode : goal.returns-in-None-clause-inode
returns-in-None-clause-inode c = λ fields keeps. next_inode_is c.args.self.now fields keeps c.args.path.now (answered_file c.get.ensures.file c.in-None.is)

pub returns-in-None-clause-created : goal.returns-in-None-clause-created
returns-in-None-clause-created c = λ fields keeps. next_created c.args.self.now fields keeps c.args.path.now (answered_file c.get.ensures.file c.in-None.is)
