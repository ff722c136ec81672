-- What the code's changes of the files and of the space make, in the words of steps.
use Rattle.std.proofs.Common.{◌≡◌, ℕ, ◌+◌, ◌<◌, ◌≤◌, ◌^◌, min, List, [], ◌∷◌, ◌++◌, length, get_or, set, sym, ◌∙◌, ap, subst, arith, Bool, true, false, Option, Some, None, eqb-true}
use Rattle.std.specs.Prelude.{All, ◌==◌, position, slice_get, remove, is_some}
use Rattle.std.specs.List.{list_any}
use Rattle.std.specs.Option.{option_map_or}
use Rattle.std.specs.Str.{bytes_eq}
use Rattle.site_types.specs.declared.step.PutStep.{PutStep}
use Rattle.site_types.specs.declared.file.FileRec.{FileRec}
use Rattle.site_types.specs.declared.file.Run.{Run}
use Rattle.cache_space.specs.Space.{taken_by, AreApart}
use Rattle.site_history.specs.Terms.{Terms}
use Rattle.site_history.specs.Site.{Fields, file_at, held_runs, cache_blocks}
use Rattle.site_history.specs.Changes.{with_file, without_file, changed_at, with_change, IsThere}
use Rattle.site_history.specs.PutSteps.{stored_file, IsLegalPut, next_after, put_effect}
use Rattle.site_history.specs.Steps.{dated}
use Rattle.site_history.proofs.FileLaws.{with_file-new, with_file-set, without_file-remove, all_at, below_at}
use Rattle.site_history.proofs.ChangedFiles.{LeavesBytes, changed-set, held-changed}
use Rattle.site_history.specs.Kept.{AreBelow, IsKept, IsFileKept}
use Rattle.site_history.proofs.HeldRuns.{held-push, replaced-taken, replaced-apart, removed-taken, removed-apart}
use Rattle.site_state.specs.declared.state.SiteState.{SiteState}
use Rattle.site_state.specs.Keeps.{Keeps}
use Rattle.site_state.proofs.Places.{FirstAt, first_at, is_some-position, first-within, first-slice_get, first-get_or}
use Rattle.site_state.proofs.Legality.{at_path, file_at-some, file_at-none, inode_next}

-- the place of a file's inode
pub at_inode : (inode : ℕ) (files : List FileRec) (place : ℕ) → position (λ (file : FileRec). file.inode == inode) files ≡ Some place
    → FirstAt (λ (file : FileRec). file.inode == inode) files 0 place
at_inode inode files place e = first_at (λ (file : FileRec). file.inode == inode) files place e

-- where no place is found, the file is not there
pub not_there : (fields : Fields) (inode : ℕ) (files : List FileRec) → files ≡ fields.files → position (λ (file : FileRec). file.inode == inode) files ≡ None → IsThere fields inode → ⊥
not_there fields inode files same e there =
    let fails : false ≡ true = sym (ap is_some e) ∙ is_some-position (λ (file : FileRec). file.inode == inode) files
    ∙ ap (λ (l : List FileRec). list_any (λ (file : FileRec). file.inode == inode) l) same ∙ there in
    cc

module _ (count : ℕ) (fields : Fields) (kept : IsKept count fields) (old : SiteState) (keeps : Keeps old fields) where
  -- the file at the place of an inode
  module _ (inode index : ℕ) (found : position (λ (file : FileRec). file.inode == inode) old.files.list ≡ Some index) where
    at : FirstAt (λ (file : FileRec). file.inode == inode) old.files.list 0 index
    at = at_inode inode old.files.list index found

    pub inode_within : index < length old.files.list
    inode_within = first-within (λ (file : FileRec). file.inode == inode) old.files.list index at

    within_fields : index < length fields.files
    within_fields = subst (λ (l : List FileRec). index < length l) keeps.files inode_within

    here : (d : FileRec) → get_or fields.files index d ≡ at.item
    here d = ap (λ (l : List FileRec). get_or l index d) (sym keeps.files) ∙ first-get_or (λ (file : FileRec). file.inode == inode) old.files.list index at d

    of_inode : (get_or fields.files index at.item).inode ≡ inode
    of_inode = ap (λ (f : FileRec). f.inode) (here at.item) ∙ eqb-true at.item.inode inode at.passes

    -- a change of that file is one change in the list
    changed_list : (change : FileRec → FileRec) (new : List FileRec) → ((file : FileRec) → slice_get old.files.list index ≡ Some file → new ≡ set old.files.list index (change file))
        → new ≡ changed_at inode change fields.files
    changed_list change new changed =
        changed at.item (first-slice_get (λ (file : FileRec). file.inode == inode) old.files.list index at)
        ∙ ap (λ (l : List FileRec). set l index (change at.item)) keeps.files
        ∙ ap (λ (f : FileRec). set fields.files index (change f)) (sym (here at.item))
        ∙ sym (changed-set inode change 1 fields.files index at.item kept.rising within_fields of_inode)

    -- and where it leaves the file's bytes, it is all that changes, but for the moment
    pub changed_keeps : (moment : ℕ) (change : FileRec → FileRec) → LeavesBytes change → (new : SiteState)
        → ((file : FileRec) → slice_get old.files.list index ≡ Some file → new.files.list ≡ set old.files.list index (change file))
        → new.next_inode ≡ old.next_inode → new.moment ≡ moment → new.configuration ≡ old.configuration → new.space ≡ old.space
        → Keeps new (dated moment (with_change inode change fields))
    changed_keeps moment change leaves new changed next_inode at_moment configuration space = record {
      files = changed_list change new.files.list changed;
      next_inode = next_inode ∙ keeps.next_inode;
      moment = at_moment;
      configuration = configuration ∙ keeps.configuration;
      space = space ∙ keeps.space ∙ ap (λ (l : List Run). taken_by (cache_blocks fields) l) (sym (held-changed inode change leaves fields.files));
    }

    -- a removal is one change in the list too
    pub removed_list : (new : List FileRec) → new ≡ remove old.files.list index → new ≡ without_file inode fields.files
    removed_list new changed =
        changed
        ∙ ap (λ (l : List FileRec). remove l index) keeps.files
        ∙ sym (without_file-remove 1 inode fields.files index at.item kept.rising within_fields of_inode)

    -- after which the blocks of the file are free
    pub removed_space : (file : FileRec) (space : List Bool) → slice_get old.files.list index ≡ Some file
        → ((total : ℕ) (kept : List Run) → old.space ≡ taken_by total (kept ++ file.runs) → AreApart kept file.runs → space ≡ taken_by total kept)
        → space ≡ taken_by (cache_blocks fields) (held_runs (without_file inode fields.files))
    removed_space file space is gives =
        let both : Some file ≡ Some at.item = sym is ∙ first-slice_get (λ (f : FileRec). f.inode == inode) old.files.list index at in
        let one : file ≡ at.item = cc in
        let runs : (get_or fields.files index at.item).runs ≡ file.runs = ap (λ (f : FileRec). f.runs) (here at.item ∙ sym one) in
        gives (cache_blocks fields) (held_runs (remove fields.files index))
        (keeps.space ∙ removed-taken (cache_blocks fields) fields.files index at.item within_fields
        ∙ ap (λ (l : List Run). taken_by (cache_blocks fields) (held_runs (remove fields.files index) ++ l)) runs)
        (subst (λ (l : List Run). AreApart (held_runs (remove fields.files index)) l) runs
        (removed-apart (cache_blocks fields) fields.files index at.item within_fields kept.disjoint))
        ∙ ap (λ (l : List FileRec). taken_by (cache_blocks fields) (held_runs l))
        (sym (without_file-remove 1 inode fields.files index at.item kept.rising within_fields of_inode))

  -- a put that is legal
  module _ (terms : Terms) (moment : ℕ) (put : PutStep) (legal : IsLegalPut fields put) where
    -- the effect of a put where the file of its path is known
    put_files : (o : Option FileRec) → file_at put.path fields.files ≡ o
        → with_file (stored_file o moment put) fields.files ≡ (put_effect terms moment put fields).files
    put_files o e = ap (λ (x : Option FileRec). with_file (stored_file x moment put) fields.files) (sym e)

    put_next : (o : Option FileRec) → file_at put.path fields.files ≡ o
        → option_map_or (λ (file : FileRec). fields.next_inode) o (fields.next_inode + 1) ≡ next_after fields put.path
    put_next o e = ap (λ (x : Option FileRec). option_map_or (λ (file : FileRec). fields.next_inode) x (fields.next_inode + 1)) (sym e)

    -- the path has a file, which is replaced
    module _ (index : ℕ) (found : position (λ (file : FileRec). bytes_eq file.path put.path) old.files.list ≡ Some index) where
      at_file : FirstAt (λ (file : FileRec). bytes_eq file.path put.path) old.files.list 0 index
      at_file = at_path put.path old.files.list index found

      pub path_within : index < length old.files.list
      path_within = first-within (λ (file : FileRec). bytes_eq file.path put.path) old.files.list index at_file

      replaced_within : index < length fields.files
      replaced_within = subst (λ (l : List FileRec). index < length l) keeps.files path_within

      replaced_here : (d : FileRec) → get_or fields.files index d ≡ at_file.item
      replaced_here d = ap (λ (l : List FileRec). get_or l index d) (sym keeps.files) ∙ first-get_or (λ (file : FileRec). bytes_eq file.path put.path) old.files.list index at_file d

      there : file_at put.path fields.files ≡ Some at_file.item
      there = ap (λ (l : List FileRec). file_at put.path l) (sym keeps.files) ∙ file_at-some put.path old.files.list index at_file

      kept_file : IsFileKept count fields.moment at_file.item
      kept_file = subst (λ (f : FileRec). IsFileKept count fields.moment f) (replaced_here at_file.item)
          (all_at (IsFileKept count fields.moment) fields.files index at_file.item kept.files replaced_within)

      set_with : set fields.files index (stored_file (Some at_file.item) moment put) ≡ with_file (stored_file (Some at_file.item) moment put) fields.files
      set_with = sym (with_file-set 1 (stored_file (Some at_file.item) moment put) fields.files index at_file.item kept.rising replaced_within
          (ap (λ (f : FileRec). f.inode) (replaced_here at_file.item)))

      pub replaced_list : (new : List FileRec) → count + 1 < 2 ^ 64
          → ((file : FileRec) → slice_get old.files.list index ≡ Some file → file.generation + 1 < 2 ^ 64 → new ≡ set old.files.list index (stored_file (Some file) moment put))
          → new ≡ (put_effect terms moment put fields).files
      replaced_list new few changed =
          changed at_file.item (first-slice_get (λ (file : FileRec). bytes_eq file.path put.path) old.files.list index at_file) (omega (arith, few, kept_file.generation))
          ∙ ap (λ (l : List FileRec). set l index (stored_file (Some at_file.item) moment put)) keeps.files
          ∙ set_with
          ∙ put_files (Some at_file.item) there

      pub replaced_next : old.next_inode ≡ next_after fields put.path
      replaced_next = keeps.next_inode ∙ put_next (Some at_file.item) there

      -- once the new runs are held the old ones are given
      pub replaced_space : (runs given : List Run) (held_too space : List Bool) → given ≡ put.runs
          → ((file : FileRec) → slice_get old.files.list index ≡ Some file → runs ≡ file.runs)
          → ((total : ℕ) (held : List Run) → old.space ≡ taken_by total held → held_too ≡ taken_by total (held ++ given))
          → ((total : ℕ) (kept : List Run) → held_too ≡ taken_by total (kept ++ runs) → AreApart kept runs → space ≡ taken_by total kept)
          → space ≡ taken_by (cache_blocks fields) (held_runs (put_effect terms moment put fields).files)
      replaced_space runs given held_too space same of_file holds gives =
          let there_now = first-slice_get (λ (file : FileRec). bytes_eq file.path put.path) old.files.list index at_file in
          let before : (get_or fields.files index at_file.item).runs ≡ runs = ap (λ (f : FileRec). f.runs) (replaced_here at_file.item) ∙ sym (of_file at_file.item there_now) in
          let new = stored_file (Some at_file.item) moment put in
          gives (cache_blocks fields) (held_runs (set fields.files index new))
          (holds (cache_blocks fields) (held_runs fields.files) keeps.space
          ∙ ap (λ (l : List Run). taken_by (cache_blocks fields) (held_runs fields.files ++ l)) same
          ∙ replaced-taken (cache_blocks fields) fields.files index at_file.item replaced_within new
          ∙ ap (λ (l : List Run). taken_by (cache_blocks fields) (held_runs (set fields.files index new) ++ l)) before)
          (subst (λ (l : List Run). AreApart (held_runs (set fields.files index new)) l) before
          (replaced-apart (cache_blocks fields) fields.files index at_file.item replaced_within new kept.disjoint legal.free.1))
          ∙ ap (λ (l : List FileRec). taken_by (cache_blocks fields) (held_runs l)) (set_with ∙ put_files (Some at_file.item) there)

    -- the path has none: the file is new
    module _ (found : position (λ (file : FileRec). bytes_eq file.path put.path) old.files.list ≡ None) where
      pub not_yet : file_at put.path old.files.list ≡ None
      not_yet = file_at-none put.path old.files.list found

      none : file_at put.path fields.files ≡ None
      none = ap (λ (l : List FileRec). file_at put.path l) (sym keeps.files) ∙ not_yet

      new_inode : put.inode ≡ fields.next_inode
      new_inode = ((inode_next fields put.path put.inode none).0 (legal.inode, legal.fits)).0

      new_fits : fields.next_inode ≤ 4294967294
      new_fits = ((inode_next fields put.path put.inode none).0 (legal.inode, legal.fits)).1.1

      -- its inode is above those of the others
      pub new_above : (file : FileRec) → file ≡ stored_file None moment put → All (λ (other : FileRec). other.inode < file.inode) old.files.list
      new_above file is =
          let inode : file.inode ≡ fields.next_inode = ap (λ (f : FileRec). f.inode) is ∙ new_inode in
          subst (λ (l : List FileRec). All (λ (other : FileRec). other.inode < file.inode) l) (sym keeps.files)
          (λ k d k_in. omega (arith, below_at fields.next_inode fields.files k d kept.below k_in, inode))

      -- it goes behind the others
      pub new_list : (file : FileRec) (new : List FileRec) → file ≡ stored_file None moment put → new ≡ old.files.list ++ file ∷ [] → new ≡ (put_effect terms moment put fields).files
      new_list file new is pushed =
          pushed
          ∙ ap (λ (l : List FileRec). l ++ file ∷ []) keeps.files
          ∙ ap (λ (f : FileRec). fields.files ++ f ∷ []) is
          ∙ sym (with_file-new (stored_file None moment put) fields.files (subst (λ (n : ℕ). AreBelow n fields.files) (sym new_inode) kept.below))
          ∙ put_files None none

      pub new_next : (next : ℕ) → next ≡ min (old.next_inode + 1) 4294967295 → next ≡ next_after fields put.path
      new_next next is =
          let more : next ≡ fields.next_inode + 1 = omega (arith, is, keeps.next_inode, new_fits) in
          more ∙ put_next None none

      pub new_space : (given : List Run) (space : List Bool) → given ≡ put.runs
          → ((total : ℕ) (held : List Run) → old.space ≡ taken_by total held → space ≡ taken_by total (held ++ given))
          → space ≡ taken_by (cache_blocks fields) (held_runs (put_effect terms moment put fields).files)
      new_space given space same holds =
          holds (cache_blocks fields) (held_runs fields.files) keeps.space
          ∙ ap (λ (l : List Run). taken_by (cache_blocks fields) (held_runs fields.files ++ l)) same
          ∙ ap (λ (l : List Run). taken_by (cache_blocks fields) l) (sym (held-push fields.files (stored_file None moment put)))
          ∙ ap (λ (l : List FileRec). taken_by (cache_blocks fields) (held_runs l))
          (sym (with_file-new (stored_file None moment put) fields.files (subst (λ (n : ℕ). AreBelow n fields.files) (sym new_inode) kept.below)) ∙ put_files None none)
