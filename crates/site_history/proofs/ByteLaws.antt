-- The bytes of files after a put and after a removal.
use Rattle.std.proofs.Common.{◌≡◌, ℕ, List, [], ◌∷◌, refl, ◌∙◌, ap, sym, Bool, true, false, cond, not, Option, Some, None}
use Rattle.std.specs.Prelude.{◌==◌, find}
use Rattle.std.specs.Option.{option_map_or}
use Rattle.std.proofs.lemmas.Bool.{eq-eqb, ne_eqb, eqb-true}
use Rattle.site_history.specs.Site.{FileBytes, bytes_of}
use Rattle.site_history.specs.Changes.{with_bytes, without_bytes}

abbrev bytes_found : Option FileBytes → List ℕ
bytes_found o = option_map_or (λ (file : FileBytes). file.bytes) o []

abbrev find_bytes : List FileBytes → ℕ → Option FileBytes
find_bytes contents inode = find (λ (file : FileBytes). file.inode == inode) contents

find-with_same : (new : FileBytes) (contents : List FileBytes) → find_bytes (with_bytes new contents) new.inode ≡ Some new
find-with_same new [] = ap (λ (b : Bool). cond b (Some new) None) (eq-eqb new.inode new.inode refl)
find-with_same new (file ∷ contents) = by_test (file.inode == new.inode) refl (find-with_same new contents)
  where
    by_test : (b : Bool) → (file.inode == new.inode) ≡ b → find_bytes (with_bytes new contents) new.inode ≡ Some new
        → find_bytes (cond b (new ∷ contents) (file ∷ with_bytes new contents)) new.inode ≡ Some new
    by_test true e rest = ap (λ (t : Bool). cond t (Some new) (find_bytes contents new.inode)) (eq-eqb new.inode new.inode refl)
    by_test false e rest = ap (λ (t : Bool). cond t (Some file) (find_bytes (with_bytes new contents) new.inode)) e ∙ rest

find-with_other : (new : FileBytes) (contents : List FileBytes) (inode : ℕ) → (inode ≡ new.inode → ⊥) → find_bytes (with_bytes new contents) inode ≡ find_bytes contents inode
find-with_other new [] inode other = ap (λ (b : Bool). cond b (Some new) None) (ne_eqb new.inode inode (λ e. other (sym e)))
find-with_other new (file ∷ contents) inode other = by_test (file.inode == new.inode) refl (find-with_other new contents inode other)
  where
    not_new : (new.inode == inode) ≡ false
    not_new = ne_eqb new.inode inode (λ e. other (sym e))

    by_test : (b : Bool) → (file.inode == new.inode) ≡ b → find_bytes (with_bytes new contents) inode ≡ find_bytes contents inode
        → find_bytes (cond b (new ∷ contents) (file ∷ with_bytes new contents)) inode ≡ find_bytes (file ∷ contents) inode
    by_test true e rest =
        ap (λ (t : Bool). cond t (Some new) (find_bytes contents inode)) not_new
        ∙ sym (ap (λ (t : Bool). cond t (Some file) (find_bytes contents inode))
        (ne_eqb file.inode inode (λ same. other (sym same ∙ eqb-true file.inode new.inode e))))
    by_test false e rest = ap (λ (o : Option FileBytes). cond (file.inode == inode) (Some file) o) rest

find-without : (gone : ℕ) (contents : List FileBytes) (inode : ℕ) → (inode ≡ gone → ⊥) → find_bytes (without_bytes gone contents) inode ≡ find_bytes contents inode
find-without gone [] inode other = refl
find-without gone (file ∷ contents) inode other = by_test (file.inode == gone) refl (find-without gone contents inode other)
  where
    by_test : (b : Bool) → (file.inode == gone) ≡ b → find_bytes (without_bytes gone contents) inode ≡ find_bytes contents inode
        → find_bytes (cond (not b) (file ∷ without_bytes gone contents) (without_bytes gone contents)) inode ≡ find_bytes (file ∷ contents) inode
    by_test true e rest = rest ∙ sym (ap (λ (t : Bool). cond t (Some file) (find_bytes contents inode))
        (ne_eqb file.inode inode (λ same. other (sym same ∙ eqb-true file.inode gone e))))
    by_test false e rest = ap (λ (o : Option FileBytes). cond (file.inode == inode) (Some file) o) rest

-- the file that is put has the put's bytes
pub bytes_of-with_same : (new : FileBytes) (contents : List FileBytes) → bytes_of (with_bytes new contents) new.inode ≡ new.bytes
bytes_of-with_same new contents = ap bytes_found (find-with_same new contents)

-- another file keeps its own
pub bytes_of-with_other : (new : FileBytes) (contents : List FileBytes) (inode : ℕ) → (inode ≡ new.inode → ⊥) → bytes_of (with_bytes new contents) inode ≡ bytes_of contents inode
bytes_of-with_other new contents inode other = ap bytes_found (find-with_other new contents inode other)

-- also where one is removed
pub bytes_of-without : (gone : ℕ) (contents : List FileBytes) (inode : ℕ) → (inode ≡ gone → ⊥) → bytes_of (without_bytes gone contents) inode ≡ bytes_of contents inode
bytes_of-without gone contents inode other = ap bytes_found (find-without gone contents inode other)
