use Rattle.std.proofs.Common.{◌≡◌, ℕ, ◌<◌, List, length, get_or, Some, refl, sym, ◌∙◌, ap, subst}
use Rattle.std.specs.Prelude.{slice_get}
use Rattle.std.proofs.lemmas.Option.{slice_get_read}
use Rattle.site_types.specs.declared.file.FileRec.{FileRec}
use Rattle.site_state.specs.FileList.{FileList}
use Rattle.site_state.proofs.Indexed.{indexed-remove}
use Rattle.site_state.proofs.files.Files.remove.Goals as goal

-- what is given stood at the index
removed_there : (items list : List FileRec) (index : ℕ) (removed : FileRec) → items ≡ list → index < length list → removed ≡ get_or items index removed → slice_get items index ≡ Some removed
removed_there items list index removed same within is =
    slice_get_read items (length items) index removed refl (subst (λ (l : List FileRec). index < length l) (sym same) within) is

pub invariant_of-self : goal.invariant_of-self
invariant_of-self c =
    let same = ap (λ (v : FileList). v.list) c.self.view_is in
    let there = removed_there c.self.inside.items.items c.args.self.now.list c.args.index c.remove-2.result same c.requires c.remove-2.ensures.value in
    let at : slice_get c.self.inside.by_path.items c.place_of_file-place.result ≡ Some c.remove-2.result.inode =
    ap (λ (l : List ℕ). slice_get l c.place_of_file-place.result) (sym c.deref-2.ensures.value)
    ∙ c.place_of_file-place.ensures c.remove-2.result (ap (λ (l : List FileRec). slice_get l c.args.index) c.deref.ensures.value ∙ there) in
    indexed-remove c.self.inside c.self.invariant c.args.index c.remove-2.result there c.place_of_file-place.result at _ c.remove-2.ensures.items c.remove.ensures.items

pub returns-clause-old : goal.returns-clause-old
returns-clause-old c =
    let same = ap (λ (v : FileList). v.list) c.self.view_is in
    ap (λ (l : List FileRec). slice_get l c.args.index) (sym same)
    ∙ removed_there c.self.inside.items.items c.args.self.now.list c.args.index c.remove-2.result same c.requires c.remove-2.ensures.value
