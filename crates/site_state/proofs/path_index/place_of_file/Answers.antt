use Rattle.std.proofs.Common.{◌≡◌, ℕ, List, get_or, sym, ◌∙◌, ap, subst}
use Rattle.std.specs.Cmp.Lexicographic.{slice_cmp}
use Rattle.std.specs.Ordering.{nat_cmp}
use Rattle.std.specs.declared.cmp.Ordering.TheVariants.{Equal}
use Rattle.std.proofs.lemmas.Option.{get_or_from_slice_get}
use Rattle.site_types.specs.declared.file.FileRec.{FileRec}
use Rattle.site_state.specs.PathIndex.{path_of}
use Rattle.site_state.proofs.PathIndex.{no_path, inode_at_place}
use Rattle.site_state.proofs.path_index.place_of_file.Goals as goal

pub unreachable-requires : goal.unreachable-requires
unreachable-requires c =
    no_path c.args.files.now c.args.by_path.now c.requires.rise c.requires.index c.as_slice.result.now c.in-Err.field-0 c.in-Err.ensures.place
    c.args.index c.index-files-index.result c.requires.within (sym c.as_slice.ensures)

pub returns : goal.returns
returns c = λ file is.
    let same : c.as_slice.result.now ≡ file.path = c.as_slice.ensures ∙ ap (λ (f : FileRec). f.path) (get_or_from_slice_get c.args.files.now c.args.index file c.index-files-index.result is) in
    inode_at_place c.args.files.now c.args.by_path.now c.requires.rise c.requires.index c.args.index file is c.in-Ok.place c.in-Ok.ensures.bound
    (λ e. subst (λ (l : List ℕ). slice_cmp nat_cmp (path_of c.args.files.now (get_or c.args.by_path.now c.in-Ok.place e)) l ≡ Equal) same (c.in-Ok.ensures.place e))
