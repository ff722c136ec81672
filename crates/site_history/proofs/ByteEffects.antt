-- Each file has all its bytes after each step.
use Rattle.std.proofs.Common.{◌≡◌, inl, inr, ℕ, Bool, not, cond, List, [], ◌∷◌, length, Option, Some, None, refl, sym, ◌∙◌, ap, subst}
use Rattle.std.specs.Option.{option_map_or}
use Rattle.std.specs.List.{AllByRecursion}
use Rattle.std.proofs.lemmas.Bool.{cases_eq, eq-eqb, ne_eqb}
use Rattle.site_types.specs.declared.file.FileRec.{FileRec}
use Rattle.site_types.specs.declared.step.PutStep.{PutStep}
use Rattle.site_types.specs.declared.step.StepKind.{StepKind}
use Rattle.site_types.specs.declared.step.StepKind.TheVariants.{Configured, Put, Accessed, Removed}
use Rattle.site_history.specs.Terms.{Terms}
use Rattle.site_history.specs.Site.{FileBytes, Site, file_at, bytes_of}
use Rattle.site_history.specs.Changes.{with_file, without_file, changed_at, with_bytes, without_bytes}
use Rattle.site_history.specs.PutSteps.{stored_file}
use Rattle.site_history.specs.AccessedSteps.{accessed_at}
use Rattle.site_history.specs.Steps.{HistoryStep, effect, IsLegal, HasBytes}
use Rattle.site_history.specs.Kept.{HaveAllBytes}
use Rattle.site_history.proofs.ByteLaws.{bytes_of-with_same, bytes_of-with_other, bytes_of-without}
use Rattle.site_history.proofs.DistinctInodes.{HasNone, AreDistinct}
use Rattle.site_history.proofs.ChangedFiles.{LeavesBytes, all-changed}
use Rattle.site_history.proofs.FileChanges.{accessed_leaves}

-- these files have all their bytes
abbrev HaveBytes : List FileBytes → List FileRec → Type 0
HaveBytes contents files = AllByRecursion (λ (file : FileRec). length (bytes_of contents file.inode) ≡ file.length) files

-- The file of a put has its inode and its length.
pub stored_inode : (o : Option FileRec) (moment next : ℕ) (put : PutStep) → put.inode ≡ option_map_or (λ (file : FileRec). file.inode) o next → (stored_file o moment put).inode ≡ put.inode
stored_inode None moment next put is = refl
stored_inode (Some file) moment next put is = sym is

stored_length : (o : Option FileRec) (moment : ℕ) (put : PutStep) → (stored_file o moment put).length ≡ put.length
stored_length None moment put = refl
stored_length (Some file) moment put = refl

-- a put of one file
module _ (new : FileRec) (bytes : FileBytes) (contents : List FileBytes) (same : new.inode ≡ bytes.inode) (long : length bytes.bytes ≡ new.length) where
  new_has : length (bytes_of (with_bytes bytes contents) new.inode) ≡ new.length
  new_has = ap (λ (i : ℕ). length (bytes_of (with_bytes bytes contents) i)) same ∙ ap length (bytes_of-with_same bytes contents) ∙ long

  others_have : (files : List FileRec) → HasNone bytes.inode files → HaveBytes contents files → HaveBytes (with_bytes bytes contents) files
  others_have [] none h = tt
  others_have (file ∷ files) none h = (ap length (bytes_of-with_other bytes contents file.inode none.0) ∙ h.0, others_have files none.1 h.1)

  put_have : (files : List FileRec) → AreDistinct files → HaveBytes contents files → HaveBytes (with_bytes bytes contents) (with_file new files)
  put_have [] distinct h = (new_has, tt)
  put_have (file ∷ files) distinct h = elim (cases_eq file.inode new.inode) [
    | inl there ↦ subst (λ (b : Bool). HaveBytes (with_bytes bytes contents) (cond b (new ∷ files) (file ∷ with_file new files))) (sym (eq-eqb file.inode new.inode there))
        (new_has, others_have files (subst (λ (i : ℕ). HasNone i files) (there ∙ same) distinct.0) h.1)
    | inr other ↦ subst (λ (b : Bool). HaveBytes (with_bytes bytes contents) (cond b (new ∷ files) (file ∷ with_file new files))) (sym (ne_eqb file.inode new.inode other))
        (ap length (bytes_of-with_other bytes contents file.inode (λ e. other (e ∙ sym same))) ∙ h.0, put_have files distinct.1 h.1)
  ]

changed_have : (inode : ℕ) (change : FileRec → FileRec) → LeavesBytes change → (contents : List FileBytes) (files : List FileRec) → HaveBytes contents files
    → HaveBytes contents (changed_at inode change files)
changed_have inode change leaves contents files h = all-changed inode change (λ (file : FileRec). length (bytes_of contents file.inode) ≡ file.length)
    (λ (file : FileRec). length (bytes_of contents file.inode) ≡ file.length) files
    (λ file has. ap (λ (i : ℕ). length (bytes_of contents i)) (leaves.inode file) ∙ has ∙ sym (leaves.length file)) (λ file has. has) h

removed_have : (inode : ℕ) (contents : List FileBytes) (files : List FileRec) → HaveBytes contents files → HaveBytes (without_bytes inode contents) (without_file inode files)
removed_have inode contents [] h = tt
removed_have inode contents (file ∷ files) h = elim (cases_eq file.inode inode) [
  | inl there ↦ subst (λ (b : Bool). HaveBytes (without_bytes inode contents) (cond (not b) (file ∷ without_file inode files) (without_file inode files)))
      (sym (eq-eqb file.inode inode there)) (removed_have inode contents files h.1)
  | inr other ↦ subst (λ (b : Bool). HaveBytes (without_bytes inode contents) (cond (not b) (file ∷ without_file inode files) (without_file inode files)))
      (sym (ne_eqb file.inode inode other))
      (ap length (bytes_of-without inode contents file.inode other) ∙ h.0, removed_have inode contents files h.1)
]

bytes_by : (terms : Terms) (site : Site) (moment : ℕ) (kind : StepKind) (bytes : List ℕ) → AreDistinct site.fields.files → HaveAllBytes site
    → IsLegal terms site.fields (record { moment = moment; kind = kind }) → HasBytes (record { step = record { moment = moment; kind = kind }; bytes = bytes })
    → HaveAllBytes (effect terms (record { step = record { moment = moment; kind = kind }; bytes = bytes }) site)
bytes_by terms site moment (Put put) bytes distinct h legal has =
    let o = file_at put.path site.fields.files in
    put_have (stored_file o moment put) (record { inode = put.inode; bytes = bytes }) site.contents
    (stored_inode o moment site.fields.next_inode put legal.2.inode) (has ∙ sym (stored_length o moment put)) site.fields.files distinct h
bytes_by terms site moment (Accessed inode) bytes distinct h legal has = changed_have inode (accessed_at moment) (accessed_leaves moment) site.contents site.fields.files h
bytes_by terms site moment (Removed inode) bytes distinct h legal has = removed_have inode site.contents site.fields.files h
bytes_by terms site moment (Configured texts) bytes distinct h legal has = h
bytes_by terms site moment _ bytes distinct h legal has = absurd legal.2

pub bytes_effect : (terms : Terms) (site : Site) (made : HistoryStep) → AreDistinct site.fields.files → HaveAllBytes site → IsLegal terms site.fields made.step → HasBytes made
    → HaveAllBytes (effect terms made site)
bytes_effect terms site made distinct h legal has = bytes_by terms site made.step.moment made.step.kind made.bytes distinct h legal has
