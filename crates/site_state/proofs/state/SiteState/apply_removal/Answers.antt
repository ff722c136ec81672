use Rattle.std.proofs.Common.{◌≡◌, List, ◌++◌, refl, sym, ◌∙◌, subst}
use Rattle.cache_space.specs.Space.{taken_by, AreApart}
use Rattle.site_types.specs.declared.file.Run.{Run}
use Rattle.site_state.proofs.Effects.{removed_list, removed_space, not_there}
use Rattle.site_state.proofs.state.SiteState.apply_removal.Goals as goal

pub returns-in-Some : goal.returns-in-Some
returns-in-Some c = λ count fields kept keeps there.
    let found = sym c.find_inode.ensures ∙ c.in-Some.is in
    record {
      files = removed_list count fields kept c.args.self.now keeps c.args.inode c.in-Some.index found _ c.remove-removed.ensures.list;
      next_inode = keeps.next_inode;
      moment = refl;
      configuration = keeps.configuration;
      space = removed_space count fields kept c.args.self.now keeps c.args.inode c.in-Some.index found c.remove-removed.result _ c.remove-removed.ensures.old
          (λ total kept taken apart. c.give.ensures total kept
          (subst (λ (l : List Run). c.args.self.now.space ≡ taken_by total (kept ++ l)) (sym c.as_slice.ensures) taken)
          (subst (λ (l : List Run). AreApart kept l) (sym c.as_slice.ensures) apart));
    }

pub returns-in_default : goal.returns-in_default
returns-in_default c = λ count fields kept keeps there.
    absurd (not_there fields c.args.inode c.args.self.now.files.list keeps.files (sym c.find_inode.ensures ∙ c.in_default.is) there)
