use Rattle.site_state.proofs.PathIndex.{listed_at, place_for}
use Rattle.site_state.proofs.path_index.place_for_path.Goals as goal

pub unreachable-requires : goal.unreachable-requires
unreachable-requires c =
    listed_at c.args.files.now c.args.by_path.now c.requires.rise c.requires.index c.args.path.now c.in-Ok.field-0 c.in-Ok.ensures.bound c.in-Ok.ensures.place c.requires.path

pub returns-clause-place : goal.returns-clause-place
returns-clause-place c = place_for c.args.files.now c.args.by_path.now c.requires.rise c.requires.index c.args.path.now c.in-Err.place c.in-Err.ensures.place
