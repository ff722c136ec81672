use Rattle.std.proofs.Common.{◌≡◌, ℕ, List, refl, sym, ◌∙◌, ap, None, Some, Option}
use Rattle.std.specs.Prelude.{position}
use Rattle.std.specs.Str.{bytes_eq}
use Rattle.site_types.specs.declared.file.FileRec.{FileRec}
use Rattle.site_history.specs.Site.{file_at}
use Rattle.site_state.proofs.Legality.{file_at-none}
use Rattle.site_state.proofs.Effects.{replaced_list, replaced_next, replaced_space, new_above, new_list, new_next, new_space}
use Rattle.site_state.proofs.state.SiteState.apply_put.Goals as goal

-- what was found is that of the put's path
asked : (path slice : List ℕ) (files : List FileRec) (o p : Option ℕ) → slice ≡ path → o ≡ position (λ (file : FileRec). bytes_eq file.path slice) files → o ≡ p
    → position (λ (file : FileRec). bytes_eq file.path path) files ≡ p
asked path slice files o p same is e = ap (λ (l : List ℕ). position (λ (file : FileRec). bytes_eq file.path l) files) (sym same) ∙ sym is ∙ e

pub push-requires-clause-room : goal.push-requires-clause-room
push-requires-clause-room c = c.requires.room (file_at-none c.args.put.path c.args.self.now.files.list (asked c.args.put.path _ c.args.self.now.files.list _ None c.as_slice-2.ensures c.find.ensures c.in-None.is))

pub push-requires-clause-path : goal.push-requires-clause-path
push-requires-clause-path c =
    ap (λ (file : FileRec). file_at file.path c.args.self.now.files.list) c.new_file.ensures
    ∙ file_at-none c.args.put.path c.args.self.now.files.list (asked c.args.put.path _ c.args.self.now.files.list _ None c.as_slice-2.ensures c.find.ensures c.in-None.is)

pub returns-in-Some : goal.returns-in-Some
returns-in-Some c = λ terms count fields kept few keeps legal.
    let found = asked c.args.put.path _ c.args.self.now.files.list _ (Some c.in-Some.index) c.as_slice-2.ensures c.find.ensures c.in-Some.is in
    record {
      files = replaced_list count fields kept c.args.self.now keeps terms c.args.moment c.args.put legal c.in-Some.index found _ few c.store_at-replaced.ensures.list;
      next_inode = replaced_next count fields kept c.args.self.now keeps terms c.args.moment c.args.put legal c.in-Some.index found;
      moment = refl;
      configuration = keeps.configuration;
      space = replaced_space count fields kept c.args.self.now keeps terms c.args.moment c.args.put legal c.in-Some.index found
          c.as_slice-in-Some.result.now c.as_slice.result.now c.hold.new.self _ c.as_slice.ensures
          (λ file is. c.as_slice-in-Some.ensures ∙ c.store_at-replaced.ensures.runs file is)
          c.hold.ensures c.give.ensures;
    }

pub returns-in-None : goal.returns-in-None
returns-in-None c = λ terms count fields kept few keeps legal.
    let found = asked c.args.put.path _ c.args.self.now.files.list _ None c.as_slice-2.ensures c.find.ensures c.in-None.is in
    record {
      files = new_list count fields kept c.args.self.now keeps terms c.args.moment c.args.put legal found c.new_file.result _ c.new_file.ensures
          (c.push.ensures.added (new_above count fields kept c.args.self.now keeps terms c.args.moment c.args.put legal found c.new_file.result c.new_file.ensures));
      next_inode = new_next count fields kept c.args.self.now keeps terms c.args.moment c.args.put legal found _ c.saturating_add-self.ensures;
      moment = refl;
      configuration = keeps.configuration;
      space = new_space count fields kept c.args.self.now keeps terms c.args.moment c.args.put legal found c.as_slice.result.now _ c.as_slice.ensures c.hold.ensures;
    }
