use Rattle.std.proofs.Common.{sym, ◌∙◌}
use Rattle.site_state.proofs.PathIndex.{path_found, path_not_found}
use Rattle.site_state.proofs.path_index.index_of_path.Goals as goal

pub returns-in-Ok : goal.returns-in-Ok
returns-in-Ok c =
    c.index_of_inode.ensures
    ∙ path_found c.args.files.now c.args.by_path.now c.requires.rise c.requires.index c.args.path.now c.in-Ok.place c.in-Ok.ensures.bound c.in-Ok.ensures.place

pub returns-in-Err : goal.returns-in-Err
returns-in-Err c = sym (path_not_found c.args.files.now c.args.by_path.now c.requires.rise c.requires.index c.args.path.now c.in-Err.field-0 c.in-Err.ensures.place)
