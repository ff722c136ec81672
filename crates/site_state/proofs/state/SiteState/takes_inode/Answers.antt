use Rattle.std.proofs.Common.{sym, ◌∙◌}
use Rattle.site_state.proofs.Legality.{takes_there, takes_next, takes_other}
use Rattle.site_state.proofs.state.SiteState.takes_inode.Goals as goal

pub returns-in-Some : goal.returns-in-Some
returns-in-Some c = λ fields keeps.
    takes_there fields c.args.self.now.files.list c.as_slice.result.now c.args.path.now c.in-Some.index c.args.inode _ keeps.files c.as_slice.ensures (sym c.find.ensures ∙ c.in-Some.is)

pub returns-then-inode-self : goal.returns-then-inode-self
returns-then-inode-self c = λ fields keeps.
    takes_next fields c.args.self.now.files.list c.args.path.now c.args.inode c.args.self.now.next_inode c.has_place.result keeps.files keeps.next_inode (sym c.find.ensures ∙ c.in-None.is)
    c.if-inode-self.true (c.has_place.ensures fields keeps)

pub returns-else-inode-self : goal.returns-else-inode-self
returns-else-inode-self c = λ fields keeps.
    takes_other fields c.args.self.now.files.list c.args.path.now c.args.inode c.args.self.now.next_inode keeps.files keeps.next_inode (sym c.find.ensures ∙ c.in-None.is)
    c.if-inode-self.false
