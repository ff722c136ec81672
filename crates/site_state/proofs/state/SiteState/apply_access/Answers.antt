use Rattle.std.proofs.Common.{refl, sym, ◌∙◌}
use Rattle.site_history.specs.AccessedSteps.{accessed_at}
use Rattle.site_history.proofs.FileChanges.{accessed_leaves}
use Rattle.site_state.proofs.Effects.{changed_keeps, not_there}
use Rattle.site_state.proofs.state.SiteState.apply_access.Goals as goal

pub returns-in-Some : goal.returns-in-Some
returns-in-Some c = λ count fields kept keeps there.
    changed_keeps count fields kept c.args.self.now keeps c.args.inode c.in-Some.index (sym c.find_inode.ensures ∙ c.in-Some.is)
    c.args.moment (accessed_at c.args.moment) (accessed_leaves c.args.moment) _ c.access_at.ensures refl refl refl refl

pub returns-in_default : goal.returns-in_default
returns-in_default c = λ count fields kept keeps there.
    absurd (not_there fields c.args.inode c.args.self.now.files.list keeps.files (sym c.find_inode.ensures ∙ c.in_default.is) there)
