use Rattle.std.proofs.Common.{◌≡◌, ℕ, ◌≤◌, ◌<◌, List, [], ◌∷◌, ◌++◌, length, subst, arith}
use Rattle.std.specs.Prelude.{All, insert}
use Rattle.std.proofs.lemmas.Grind.{common_steps}
use Rattle.site_types.specs.declared.file.FileRec.{FileRec}
use Rattle.site_state.specs.PathIndex.{IsPlaceFor}
use Rattle.site_state.proofs.Indexed.{indexed-push}
use Rattle.site_state.proofs.files.Files.push.Goals as goal

-- the place is that of the file's path in the index
place_there : (path path_seen : List ℕ) (files files_seen : List FileRec) (by_path by_path_seen : List ℕ) (place : ℕ) → path_seen ≡ path → files_seen ≡ files → by_path_seen ≡ by_path
    → IsPlaceFor path_seen files_seen by_path_seen place → IsPlaceFor path files by_path place
place_there path path_seen files files_seen by_path by_path_seen place same_path same_files same_index at =
    subst (λ (l : List ℕ). IsPlaceFor l files by_path place) same_path
    (subst (λ (l : List FileRec). IsPlaceFor path_seen l by_path place) same_files (subst (λ (l : List ℕ). IsPlaceFor path_seen files_seen l place) same_index at))

pub invariant_of-self : goal.invariant_of-self
invariant_of-self c =
    let above : All (λ (other : FileRec). other.inode < c.args.file.inode) c.self.inside.items.items =
    subst (λ (l : List FileRec). All (λ (other : FileRec). other.inode < c.args.file.inode) l) c.deref.ensures.value (c.is_above_all.ensures.0 c.if-not-is_above_all.false) in
    let items : c.push.new.self.items ≡ c.self.inside.items.items ++ c.args.file ∷ [] = grind (arith, common_steps) in
    let by_path : c.insert.new.self.items ≡ insert c.self.inside.by_path.items c.place_for_path-place.result c.args.file.inode = grind (arith, common_steps) in
    indexed-push c.self.inside c.self.invariant c.args.file c.requires.inode above c.place_for_path-place.result
    (subst (λ (l : List ℕ). c.place_for_path-place.result ≤ length l) c.deref-3.ensures.value c.place_for_path-place.ensures.bound)
    (place_there c.args.file.path _ c.self.inside.items.items _ c.self.inside.by_path.items _ c.place_for_path-place.result c.as_slice.ensures c.deref-2.ensures.value c.deref-3.ensures.value c.place_for_path-place.ensures.place)
    _ items by_path
