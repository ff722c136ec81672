use Rattle.std.proofs.Common.{sym, ◌∙◌}
use Rattle.site_state.proofs.PathIndex.{path_of_found, path_of_none}
use Rattle.site_state.proofs.path_index.path_of.Goals as goal

pub returns-in-Some : goal.returns-in-Some
returns-in-Some c =
    c.as_slice.ensures
    ∙ sym (path_of_found c.args.files.now c.requires c.args.inode c.in-Some.index c.index-files-index.result (sym c.index_of_inode.ensures ∙ c.in-Some.is))

pub returns-in-None : goal.returns-in-None
returns-in-None c = sym (path_of_none c.args.files.now c.args.inode (sym c.index_of_inode.ensures ∙ c.in-None.is))
