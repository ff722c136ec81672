-- The bytes of a site still stand after each step.
use Rattle.std.proofs.Common.{◌≡◌, inl, inr, ℕ, Bool, true, false, not, cond, ◌==◌, List, [], ◌∷◌, length, take, Option, Some, None, refl, sym, ◌∙◌, ap, subst, arith}
use Rattle.std.specs.Prelude.{flat_map}
use Rattle.std.proofs.lemmas.Bool.{cases_eq, eq-eqb, ne_eqb}
use Rattle.std.proofs.lemmas.List.{take_all}
use Rattle.bank.specs.View.{View}
use Rattle.site_types.specs.declared.file.FileRec.{FileRec}
use Rattle.site_types.specs.declared.file.Run.{Run}
use Rattle.site_types.specs.declared.step.PutStep.{PutStep}
use Rattle.site_types.specs.declared.step.StepKind.{StepKind}
use Rattle.site_types.specs.declared.step.StepKind.TheVariants.{Configured, Put, Accessed, Removed}
use Rattle.site_history.specs.Terms.{Terms}
use Rattle.site_history.specs.Site.{FileBytes, Site, file_at, bytes_of}
use Rattle.site_history.specs.Changes.{with_file, with_bytes, without_file, changed_at, without_bytes}
use Rattle.site_history.specs.Steps.{HistoryStep, effect, IsLegal, HasBytes, step_extents}
use Rattle.site_history.specs.AccessedSteps.{accessed_at}
use Rattle.site_history.specs.PutSteps.{stored_file, inode_for, put_effect}
use Rattle.site_history.specs.Images.{extents_of, extents}
use Rattle.site_history.specs.Extents.{Extent, extents_over}
use Rattle.site_history.specs.Pinned.{StandInAll}
use Rattle.site_history.proofs.ByteEffects.{stored_inode}
use Rattle.site_history.proofs.Extents.{stand_append, stand_front, stand_back}
use Rattle.site_history.proofs.DistinctInodes.{HasNone, AreDistinct}
use Rattle.site_history.proofs.ChangedFiles.{LeavesBytes}
use Rattle.site_history.proofs.FileChanges.{accessed_leaves}
use Rattle.site_history.proofs.FileBytesLaws.{bytes_of-with, bytes_of-with_other, bytes_of-without}

-- Where the bytes of an inode are the same, so are the extents of its file.
same_extents : (before now : List FileBytes) (file : FileRec) → bytes_of now file.inode ≡ bytes_of before file.inode → extents_of now file ≡ extents_of before file
same_extents before now file same = ap (λ (bytes : List ℕ). extents_over file.runs (take file.cached bytes)) same

module _ (v : View) where
  stand_others : (new : FileBytes) (contents : List FileBytes) (files : List FileRec) → HasNone new.inode files
      → StandInAll v (flat_map (extents_of contents) files) → StandInAll v (flat_map (extents_of (with_bytes new contents)) files)
  stand_others new contents [] none h = tt
  stand_others new contents (file ∷ files) none h = stand_append v (extents_of (with_bytes new contents) file) (flat_map (extents_of (with_bytes new contents)) files)
      (subst (λ (es : List Extent). StandInAll v es) (sym (same_extents contents (with_bytes new contents) file (bytes_of-with_other new contents file.inode none.0)))
      (stand_front v (extents_of contents file) (flat_map (extents_of contents) files) h))
      (stand_others new contents files none.1 (stand_back v (extents_of contents file) (flat_map (extents_of contents) files) h))

  -- The extents of a file that was put are those of the bytes that were put.
  stand_new : (new : FileRec) (bytes : FileBytes) (contents : List FileBytes) → new.inode ≡ bytes.inode → StandInAll v (extents_over new.runs (take new.cached bytes.bytes))
      → StandInAll v (extents_of (with_bytes bytes contents) new)
  stand_new new bytes contents same h =
      let is : bytes_of (with_bytes bytes contents) new.inode ≡ bytes.bytes = ap (λ (i : ℕ). bytes_of (with_bytes bytes contents) i) same ∙ bytes_of-with bytes contents in
      subst (λ (l : List ℕ). StandInAll v (extents_over new.runs (take new.cached l))) (sym is) h

  with_stands : (new : FileRec) (bytes : FileBytes) (contents : List FileBytes) (files : List FileRec) → new.inode ≡ bytes.inode → AreDistinct files
      → StandInAll v (extents_over new.runs (take new.cached bytes.bytes)) → StandInAll v (flat_map (extents_of contents) files)
      → StandInAll v (flat_map (extents_of (with_bytes bytes contents)) (with_file new files))
  with_stands new bytes contents [] same distinct ready h = stand_append v (extents_of (with_bytes bytes contents) new) [] (stand_new new bytes contents same ready) tt
  with_stands new bytes contents (file ∷ files) same distinct ready h = elim (cases_eq file.inode new.inode) [
    | inl there ↦ subst (λ (b : Bool). StandInAll v (flat_map (extents_of (with_bytes bytes contents)) (cond b (new ∷ files) (file ∷ with_file new files))))
        (sym (eq-eqb file.inode new.inode there))
        (stand_append v (extents_of (with_bytes bytes contents) new) (flat_map (extents_of (with_bytes bytes contents)) files)
        (stand_new new bytes contents same ready)
        (stand_others bytes contents files (subst (λ (i : ℕ). HasNone i files) (there ∙ same) distinct.0)
        (stand_back v (extents_of contents file) (flat_map (extents_of contents) files) h)))
    | inr other ↦ subst (λ (b : Bool). StandInAll v (flat_map (extents_of (with_bytes bytes contents)) (cond b (new ∷ files) (file ∷ with_file new files))))
        (sym (ne_eqb file.inode new.inode other))
        (stand_append v (extents_of (with_bytes bytes contents) file) (flat_map (extents_of (with_bytes bytes contents)) (with_file new files))
        (subst (λ (es : List Extent). StandInAll v es)
        (sym (same_extents contents (with_bytes bytes contents) file (bytes_of-with_other bytes contents file.inode (λ e. other (e ∙ sym same)))))
        (stand_front v (extents_of contents file) (flat_map (extents_of contents) files) h))
        (with_stands new bytes contents files same distinct.1 ready (stand_back v (extents_of contents file) (flat_map (extents_of contents) files) h)))
  ]

  -- A file that is changed keeps its bytes at their place.
  module _ (inode : ℕ) (change : FileRec → FileRec) (leaves : LeavesBytes change) (contents : List FileBytes) where
    changed_extents : (file : FileRec) (b : Bool) → extents_of contents (cond b (change file) file) ≡ extents_of contents file
    changed_extents file true =
        ap (λ (runs : List Run). extents_over runs (take (change file).cached (bytes_of contents (change file).inode))) (leaves.runs file)
        ∙ ap (λ (n : ℕ). extents_over file.runs (take n (bytes_of contents (change file).inode))) (leaves.cached file)
        ∙ ap (λ (i : ℕ). extents_over file.runs (take file.cached (bytes_of contents i))) (leaves.inode file)
    changed_extents file false = refl

    changed_stands : (files : List FileRec) → StandInAll v (flat_map (extents_of contents) files) → StandInAll v (flat_map (extents_of contents) (changed_at inode change files))
    changed_stands [] h = tt
    changed_stands (file ∷ files) h =
        let now = cond (file.inode == inode) (change file) file in
        stand_append v (extents_of contents now) (flat_map (extents_of contents) (changed_at inode change files))
        (subst (λ (es : List Extent). StandInAll v es) (sym (changed_extents file (file.inode == inode))) (stand_front v (extents_of contents file) (flat_map (extents_of contents) files) h))
        (changed_stands files (stand_back v (extents_of contents file) (flat_map (extents_of contents) files) h))

  -- The other files keep theirs where one is removed.
  pub removed_stands : (inode : ℕ) (contents : List FileBytes) (files : List FileRec) → StandInAll v (flat_map (extents_of contents) files)
      → StandInAll v (flat_map (extents_of (without_bytes inode contents)) (without_file inode files))
  removed_stands inode contents [] h = tt
  removed_stands inode contents (file ∷ files) h = elim (cases_eq file.inode inode) [
    | inl there ↦ subst (λ (b : Bool). StandInAll v (flat_map (extents_of (without_bytes inode contents)) (cond (not b) (file ∷ without_file inode files) (without_file inode files))))
        (sym (eq-eqb file.inode inode there))
        (removed_stands inode contents files (stand_back v (extents_of contents file) (flat_map (extents_of contents) files) h))
    | inr other ↦ subst (λ (b : Bool). StandInAll v (flat_map (extents_of (without_bytes inode contents)) (cond (not b) (file ∷ without_file inode files) (without_file inode files))))
        (sym (ne_eqb file.inode inode other))
        (stand_append v (extents_of (without_bytes inode contents) file) (flat_map (extents_of (without_bytes inode contents)) (without_file inode files))
        (subst (λ (es : List Extent). StandInAll v es)
        (sym (same_extents contents (without_bytes inode contents) file (bytes_of-without inode contents file.inode other)))
        (stand_front v (extents_of contents file) (flat_map (extents_of contents) files) h))
        (removed_stands inode contents files (stand_back v (extents_of contents file) (flat_map (extents_of contents) files) h)))
  ]

-- The file of a put has its runs and as many cached bytes as its length.
stored_extents : (o : Option FileRec) (moment : ℕ) (put : PutStep) (bytes : List ℕ) → length bytes ≡ put.length
    → extents_over (stored_file o moment put).runs (take (stored_file o moment put).cached bytes) ≡ extents_over put.runs bytes
stored_extents None moment put bytes long = ap (λ (l : List ℕ). extents_over put.runs l) (take_all put.length bytes (omega (arith, long)))
stored_extents (Some file) moment put bytes long = ap (λ (l : List ℕ). extents_over put.runs l) (take_all put.length bytes (omega (arith, long)))

pub put_stands : (terms : Terms) (v : View) (moment : ℕ) (put : PutStep) (bytes : List ℕ) (site : Site) → AreDistinct site.fields.files → put.inode ≡ inode_for site.fields put.path → length bytes ≡ put.length
    → StandInAll v (extents site) → StandInAll v (extents_over put.runs bytes)
    → StandInAll v (extents (record { fields = put_effect terms moment put site.fields; contents = with_bytes (record { inode = put.inode; bytes = bytes }) site.contents }))
put_stands terms v moment put bytes site distinct inode long h ready =
    let o = file_at put.path site.fields.files in
    with_stands v (stored_file o moment put) (record { inode = put.inode; bytes = bytes }) site.contents site.fields.files
    (stored_inode o moment site.fields.next_inode put inode) distinct
    (subst (λ (es : List Extent). StandInAll v es) (sym (stored_extents o moment put bytes long)) ready) h

-- If the bytes of a site stand, and those of a put do, then after the legal step so do those of the site.
pub effect_stands : (terms : Terms) (v : View) (made : HistoryStep) (site : Site) → AreDistinct site.fields.files → IsLegal terms site.fields made.step → HasBytes made
    → StandInAll v (extents site) → StandInAll v (step_extents made site) → StandInAll v (extents (effect terms made site))
effect_stands terms v made site distinct legal bytes h ready = by_kind made.step.kind made.step.moment made.bytes legal bytes ready
  where
    by_kind : (kind : StepKind) (moment : ℕ) (l : List ℕ) → IsLegal terms site.fields (record { moment = moment; kind = kind })
        → HasBytes (record { step = record { moment = moment; kind = kind }; bytes = l }) → StandInAll v (step_extents (record { step = record { moment = moment; kind = kind }; bytes = l }) site)
        → StandInAll v (extents (effect terms (record { step = record { moment = moment; kind = kind }; bytes = l }) site))
    by_kind (Put put) moment l legal long ready =
        put_stands terms v moment put l site distinct legal.2.inode long h ready
    by_kind (Accessed inode) moment l legal long ready = changed_stands v inode (accessed_at moment) (accessed_leaves moment) site.contents site.fields.files h
    by_kind (Removed inode) moment l legal long ready = removed_stands v inode site.contents site.fields.files h
    by_kind (Configured texts) moment l legal long ready = h
    by_kind _ moment l legal long ready = absurd legal.2
