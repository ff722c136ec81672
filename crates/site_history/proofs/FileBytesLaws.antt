-- The bytes of a file, after those of one are put or go.
use Rattle.std.proofs.Common.{◌≡◌, ◌≢◌, ◌⊎◌, inl, inr, ℕ, Bool, not, cond, ◌==◌, List, [], ◌∷◌, Some, refl, sym, ◌∙◌, ap}
use Rattle.std.specs.Prelude.{find}
use Rattle.std.specs.Option.{option_map_or}
use Rattle.std.proofs.lemmas.Bool.{cases_eq, eq-eqb, ne_eqb}
use Rattle.site_history.specs.Site.{FileBytes, bytes_of}
use Rattle.site_history.specs.Changes.{with_bytes, without_bytes}

-- The bytes of an inode, where a list begins with those of this inode, or of another.
bytes_here : (file : FileBytes) (contents : List FileBytes) (inode : ℕ) → file.inode ≡ inode → bytes_of (file ∷ contents) inode ≡ file.bytes
bytes_here file contents inode same =
    ap (λ (b : Bool). option_map_or (λ (f : FileBytes). f.bytes) (cond b (Some file) (find (λ (f : FileBytes). f.inode == inode) contents)) []) (eq-eqb file.inode inode same)

bytes_behind : (file : FileBytes) (contents : List FileBytes) (inode : ℕ) → file.inode ≢ inode → bytes_of (file ∷ contents) inode ≡ bytes_of contents inode
bytes_behind file contents inode other =
    ap (λ (b : Bool). option_map_or (λ (f : FileBytes). f.bytes) (cond b (Some file) (find (λ (f : FileBytes). f.inode == inode) contents)) []) (ne_eqb file.inode inode other)

-- The list with bytes, where it begins with those of their inode, or of another.
with_here : (new file : FileBytes) (contents : List FileBytes) → file.inode ≡ new.inode → with_bytes new (file ∷ contents) ≡ new ∷ contents
with_here new file contents same = ap (λ (b : Bool). cond b (new ∷ contents) (file ∷ with_bytes new contents)) (eq-eqb file.inode new.inode same)

with_behind : (new file : FileBytes) (contents : List FileBytes) → file.inode ≢ new.inode → with_bytes new (file ∷ contents) ≡ file ∷ with_bytes new contents
with_behind new file contents other = ap (λ (b : Bool). cond b (new ∷ contents) (file ∷ with_bytes new contents)) (ne_eqb file.inode new.inode other)

-- A file that was put has the bytes of the put.
pub bytes_of-with : (new : FileBytes) (contents : List FileBytes) → bytes_of (with_bytes new contents) new.inode ≡ new.bytes
bytes_of-with new [] = bytes_here new [] new.inode refl
bytes_of-with new (file ∷ contents) = elim (cases_eq file.inode new.inode) [
  | inl same ↦ ap (λ (l : List FileBytes). bytes_of l new.inode) (with_here new file contents same) ∙ bytes_here new contents new.inode refl
  | inr other ↦ ap (λ (l : List FileBytes). bytes_of l new.inode) (with_behind new file contents other)
      ∙ bytes_behind file (with_bytes new contents) new.inode other ∙ bytes_of-with new contents
]

-- Another file has the bytes that it had.
pub bytes_of-with_other : (new : FileBytes) (contents : List FileBytes) (inode : ℕ) → inode ≢ new.inode → bytes_of (with_bytes new contents) inode ≡ bytes_of contents inode
bytes_of-with_other new [] inode other = bytes_behind new [] inode (λ e. other (sym e))
bytes_of-with_other new (file ∷ contents) inode other = elim (cases_eq file.inode new.inode) [
  | inl same ↦ ap (λ (l : List FileBytes). bytes_of l inode) (with_here new file contents same)
      ∙ bytes_behind new contents inode (λ e. other (sym e)) ∙ sym (bytes_behind file contents inode (λ e. other (sym e ∙ same)))
  | inr ne ↦ ap (λ (l : List FileBytes). bytes_of l inode) (with_behind new file contents ne)
      ∙ by_first (cases_eq file.inode inode) (bytes_of-with_other new contents inode other)
]
  where
    by_first : (file.inode ≡ inode) ⊎ (file.inode ≢ inode) → bytes_of (with_bytes new contents) inode ≡ bytes_of contents inode
        → bytes_of (file ∷ with_bytes new contents) inode ≡ bytes_of (file ∷ contents) inode
    by_first (inl same) rest = bytes_here file (with_bytes new contents) inode same ∙ sym (bytes_here file contents inode same)
    by_first (inr ne) rest = bytes_behind file (with_bytes new contents) inode ne ∙ rest ∙ sym (bytes_behind file contents inode ne)

-- So it has where a file is removed.
pub bytes_of-without : (removed : ℕ) (contents : List FileBytes) (inode : ℕ) → inode ≢ removed → bytes_of (without_bytes removed contents) inode ≡ bytes_of contents inode
bytes_of-without removed [] inode other = refl
bytes_of-without removed (file ∷ contents) inode other = elim (cases_eq file.inode removed) [
  | inl same ↦ ap (λ (b : Bool). bytes_of (cond (not b) (file ∷ without_bytes removed contents) (without_bytes removed contents)) inode) (eq-eqb file.inode removed same)
      ∙ bytes_of-without removed contents inode other ∙ sym (bytes_behind file contents inode (λ e. other (sym e ∙ same)))
  | inr ne ↦ ap (λ (b : Bool). bytes_of (cond (not b) (file ∷ without_bytes removed contents) (without_bytes removed contents)) inode) (ne_eqb file.inode removed ne)
      ∙ by_first (cases_eq file.inode inode) (bytes_of-without removed contents inode other)
]
  where
    by_first : (file.inode ≡ inode) ⊎ (file.inode ≢ inode) → bytes_of (without_bytes removed contents) inode ≡ bytes_of contents inode
        → bytes_of (file ∷ without_bytes removed contents) inode ≡ bytes_of (file ∷ contents) inode
    by_first (inl same) rest = bytes_here file (without_bytes removed contents) inode same ∙ sym (bytes_here file contents inode same)
    by_first (inr ne) rest = bytes_behind file (without_bytes removed contents) inode ne ∙ rest ∙ sym (bytes_behind file contents inode ne)
