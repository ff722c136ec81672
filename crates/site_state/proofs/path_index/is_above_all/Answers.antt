use Rattle.std.proofs.Common.{sym, ◌∙◌, ap}
use Rattle.std.specs.Option.{option_copied}
use Rattle.site_state.proofs.PathIndex.{all_below}
use Rattle.site_state.proofs.path_index.is_above_all.Goals as goal

pub returns-in-Some : goal.returns-in-Some
returns-in-Some c = all_below c.args.files.now c.requires c.args.inode c.in-Some.last.now (sym c.last.ensures.value ∙ ap option_copied c.in-Some.is)
