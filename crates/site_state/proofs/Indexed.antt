-- The files' fields after each edit: they are still indexed.
use Rattle.std.proofs.Common.{◌≡◌, ℕ, ◌<◌, ◌≤◌, List, [], ◌∷◌, ◌++◌, length, get_or, set, refl, sym, ◌∙◌, ap, subst, Some}
use Rattle.std.specs.Prelude.{All, slice_get, insert, remove}
use Rattle.std.specs.Vec.{with_item}
use Rattle.std.proofs.lemmas.List.Elements.{All-set, All-push}
use Rattle.std.proofs.lemmas.Option.{slice_get_within, slice_get_read, get_or_from_slice_get}
use Rattle.site_types.specs.Ranges.{IsInode}
use Rattle.site_types.specs.declared.file.FileRec.{FileRec}
use Rattle.site_state.specs.declared.files.Files.TheInside.{Inside}
use Rattle.site_state.specs.PathIndex.{RiseByInode, IsPathIndex, IsPlaceFor}
use Rattle.site_state.specs.Inside.{AreIndexed}
use Rattle.site_state.proofs.Orders.{behind_remove}
use Rattle.site_state.proofs.PathIndex.{rise-set, index-set, rise-push, index-push, rise-remove, index-remove}

-- the file that stands at a place is the one that the code reads there
pub file_there : (items list : List FileRec) (index : ℕ) (now file : FileRec) → items ≡ list → now ≡ get_or items index now → slice_get list index ≡ Some file → now ≡ file
file_there items list index now file same is there = is ∙ ap (λ (l : List FileRec). get_or l index now) same ∙ get_or_from_slice_get list index file now there

-- one change of the file at a place, as the code makes it, is that of the file that stands there
pub changed_there : (items list : List FileRec) (index : ℕ) (now : FileRec) (change : FileRec → FileRec) → items ≡ list → now ≡ get_or items index now
    → (file : FileRec) → slice_get list index ≡ Some file → set items index (change now) ≡ set list index (change file)
changed_there items list index now change same is file there =
    ap (λ (l : List FileRec). set l index (change now)) same ∙ ap (λ (f : FileRec). set list index (change f)) (file_there items list index now file same is there)

module _ (files : Inside) (indexed : AreIndexed files) where
  -- a file was written over by one of its inode and its path
  module _ (index : ℕ) (now new : FileRec) (within : index < length files.items.items) (is : now ≡ get_or files.items.items index now) (inode : new.inode ≡ now.inode) (path : new.path ≡ now.path) where
    here : (d : FileRec) → get_or files.items.items index d ≡ now
    here d = get_or_from_slice_get files.items.items index now d (slice_get_read files.items.items (length files.items.items) index now refl within is)

    same_inode : (d : FileRec) → new.inode ≡ (get_or files.items.items index d).inode
    same_inode d = inode ∙ sym (ap (λ (file : FileRec). file.inode) (here d))

    same_path : (d : FileRec) → new.path ≡ (get_or files.items.items index d).path
    same_path d = path ∙ sym (ap (λ (file : FileRec). file.path) (here d))

    pub indexed-set : AreIndexed (record { items = with_item files.items index new; by_path = files.by_path })
    indexed-set = record {
      inodes = All-set (λ (file : FileRec). IsInode file.inode) files.items.items index new
          (subst (λ (n : ℕ). IsInode n) (sym (same_inode now)) (indexed.inodes index now within)) indexed.inodes;
      rise = rise-set files.items.items files.by_path.items indexed.rise indexed.index index new same_inode same_path;
      index = index-set files.items.items files.by_path.items indexed.rise indexed.index index new same_inode same_path;
    }

  -- a file went behind the others, and its inode to its path's place
  pub indexed-push : (file : FileRec) → IsInode file.inode → All (λ (other : FileRec). other.inode < file.inode) files.items.items → (place : ℕ) → place ≤ length files.by_path.items
      → IsPlaceFor file.path files.items.items files.by_path.items place
      → (new : Inside) → new.items.items ≡ files.items.items ++ file ∷ [] → new.by_path.items ≡ insert files.by_path.items place file.inode → AreIndexed new
  indexed-push file inode above place within for_path new items by_path = record {
    inodes = subst (λ (l : List FileRec). All (λ (other : FileRec). IsInode other.inode) l) (sym items)
        (All-push (λ (other : FileRec). IsInode other.inode) files.items.items file indexed.inodes inode);
    rise = subst (λ (l : List FileRec). RiseByInode l) (sym items) (rise-push files.items.items files.by_path.items indexed.rise indexed.index file above);
    index = subst (λ (l : List FileRec). IsPathIndex l new.by_path.items) (sym items)
        (subst (λ (l : List ℕ). IsPathIndex (files.items.items ++ file ∷ []) l) (sym by_path)
        (index-push files.items.items files.by_path.items indexed.rise indexed.index file above place within for_path));
  }

  -- a file went, and its inode from the index
  module _ (index : ℕ) (removed : FileRec) (is : slice_get files.items.items index ≡ Some removed) (place : ℕ) (at : slice_get files.by_path.items place ≡ Some removed.inode) where
    within : index < length files.items.items
    within = slice_get_within files.items.items index removed is

    same : (d : ℕ) (e : FileRec) → get_or files.by_path.items place d ≡ (get_or files.items.items index e).inode
    same d e = get_or_from_slice_get files.by_path.items place removed.inode d at
        ∙ sym (ap (λ (file : FileRec). file.inode) (get_or_from_slice_get files.items.items index removed e is))

    pub indexed-remove : (new : Inside) → new.items.items ≡ remove files.items.items index → new.by_path.items ≡ remove files.by_path.items place → AreIndexed new
    indexed-remove new items by_path = record {
      inodes = subst (λ (l : List FileRec). All (λ (file : FileRec). IsInode file.inode) l) (sym items)
          (λ k d k_in. behind_remove files.items.items index (λ (file : FileRec). IsInode file.inode) k d within k_in (λ j j_in differs. indexed.inodes j d j_in));
      rise = subst (λ (l : List FileRec). RiseByInode l) (sym items) (rise-remove files.items.items files.by_path.items indexed.rise indexed.index index within);
      index = subst (λ (l : List FileRec). IsPathIndex l new.by_path.items) (sym items)
          (subst (λ (l : List ℕ). IsPathIndex (remove files.items.items index) l) (sym by_path)
          (index-remove files.items.items files.by_path.items indexed.rise indexed.index index within place (slice_get_within files.by_path.items place removed.inode at) same));
    }
