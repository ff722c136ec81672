-- What the code's tests of a step say of it.
use Rattle.std.proofs.Common.{refl, arith, get_or, zero-add, eqb-true, ◌≡◌, ℕ, ◌<◌, ◌≤◌, List, ◌∷◌, ◌++◌, length, sym, ◌∙◌, ap, Bool, Option, Some, None}
use Rattle.std.specs.Prelude.{◌↔◌, MatchOption, IsTrue, ◌==◌, position}
use Rattle.std.specs.Option.{option_map_or}
use Rattle.std.specs.Str.{bytes_eq}
use Rattle.std.proofs.lemmas.Bool.Decides.{nat_tests}
use Rattle.site_types.specs.declared.file.FileRec.{FileRec}
use Rattle.site_types.specs.declared.file.SiteTexts.{SiteTexts}
use Rattle.site_types.specs.declared.step.StepKind.{StepKind}
use Rattle.site_types.specs.declared.step.StepKind.TheVariants.{Configured}
use Rattle.site_history.specs.Terms.{Terms}
use Rattle.site_history.specs.Site.{Fields, file_at}
use Rattle.configuration.specs.ConfigurationSteps.{refusal_of}
use Rattle.site_history.specs.Steps.{IsLegal}
use Rattle.site_state.specs.Legal.{IsLegalSoFar}
use Rattle.site_history.specs.PutSteps.{inode_for}
use Rattle.site_state.proofs.Places.{FirstAt, first_at, none_passes, find-first, find-none, get_or-at, first-get_or}

-- the place of a path's file
pub at_path : (path : List ℕ) (files : List FileRec) (place : ℕ) → position (λ (file : FileRec). bytes_eq file.path path) files ≡ Some place
    → FirstAt (λ (file : FileRec). bytes_eq file.path path) files 0 place
at_path path files place e = first_at (λ (file : FileRec). bytes_eq file.path path) files place e

pub file_at-some : (path : List ℕ) (files : List FileRec) (place : ℕ) (at : FirstAt (λ (file : FileRec). bytes_eq file.path path) files 0 place) → file_at path files ≡ Some at.item
file_at-some path files place at = ap (λ (l : List FileRec). file_at path l) at.whole
    ∙ find-first (λ (file : FileRec). bytes_eq file.path path) at.front at.item at.back at.fails at.passes

pub file_at-none : (path : List ℕ) (files : List FileRec) → position (λ (file : FileRec). bytes_eq file.path path) files ≡ None → file_at path files ≡ None
file_at-none path files e = find-none (λ (file : FileRec). bytes_eq file.path path) files (none_passes (λ (file : FileRec). bytes_eq file.path path) files e)

-- the file that the code finds in its list
pub some_listed : (path : List ℕ) (files items : List FileRec) (index : ℕ) (here : FileRec) → items ≡ files → position (λ (file : FileRec). bytes_eq file.path path) files ≡ Some index
    → here ≡ get_or items index here → Some here ≡ file_at path files
some_listed path files items index here same found is =
    let at = at_path path files index found in
    let one : here ≡ at.item = is ∙ ap (λ (l : List FileRec). get_or l index here) same ∙ first-get_or (λ (file : FileRec). bytes_eq file.path path) files index at here in
    ap (λ (file : FileRec). let o : Option FileRec = Some file in o) one ∙ sym (file_at-some path files index at)

-- where the path has a file, its inode is asked for
pub inode_there : (fields : Fields) (path : List ℕ) (file : FileRec) (inode : ℕ) → file_at path fields.files ≡ Some file
    → IsTrue (inode == file.inode) ↔ ((inode ≡ inode_for fields path) × MatchOption (file_at path fields.files) ((length fields.files < 65536) × (fields.next_inode ≤ 4294967294)) (λ _. Unit {0}))
inode_there fields path file inode e = by_option (file_at path fields.files) e
  where
    by_option : (o : Option FileRec) → o ≡ Some file
        → IsTrue (inode == file.inode) ↔ ((inode ≡ option_map_or (λ (f : FileRec). f.inode) o fields.next_inode) × MatchOption o ((length fields.files < 65536) × (fields.next_inode ≤ 4294967294)) (λ _. Unit {0}))
    by_option None is = absurd (let differs : None ≡ Some file = is in cc)
    by_option (Some f) is =
        let one : f ≡ file = cc in
        let same : f.inode ≡ file.inode = ap (λ (x : FileRec). x.inode) one in
        (λ t. (grind (arith, nat_tests), tt), λ both. let is_inode = both.0 in grind (arith, nat_tests))

-- where it has none, the next inode is
pub inode_next : (fields : Fields) (path : List ℕ) (inode : ℕ) → file_at path fields.files ≡ None
    → ((inode ≡ inode_for fields path) × MatchOption (file_at path fields.files) ((length fields.files < 65536) × (fields.next_inode ≤ 4294967294)) (λ _. Unit {0}))
    ↔ ((inode ≡ fields.next_inode) × ((length fields.files < 65536) × (fields.next_inode ≤ 4294967294)))
inode_next fields path inode e = by_option (file_at path fields.files) e
  where
    by_option : (o : Option FileRec) → o ≡ None
        → ((inode ≡ option_map_or (λ (f : FileRec). f.inode) o fields.next_inode) × MatchOption o ((length fields.files < 65536) × (fields.next_inode ≤ 4294967294)) (λ _. Unit {0}))
        ↔ ((inode ≡ fields.next_inode) × ((length fields.files < 65536) × (fields.next_inode ≤ 4294967294)))
    by_option None is = (λ h. h, λ h. h)
    by_option (Some f) is = absurd (let differs : Some f ≡ None = is in cc)

-- what the code's test of an inode says, where the path's file stands at a place of the list
pub takes_there : (fields : Fields) (files listed : List FileRec) (path : List ℕ) (place inode : ℕ) (d : FileRec) → files ≡ fields.files → listed ≡ files
    → position (λ (file : FileRec). bytes_eq file.path path) files ≡ Some place
    → IsTrue (inode == (get_or listed place d).inode) ↔ ((inode ≡ inode_for fields path) × MatchOption (file_at path fields.files) ((length fields.files < 65536) × (fields.next_inode ≤ 4294967294)) (λ _. Unit {0}))
takes_there fields files listed path place inode d same same_list e =
    let at = at_path path files place e in
    let here : get_or listed place d ≡ at.item = ap (λ (l : List FileRec). get_or l place d) (same_list ∙ at.whole) ∙ ap (λ (n : ℕ). get_or (at.front ++ at.item ∷ at.back) n d) (sym at.at ∙ zero-add (length at.front))
    ∙ get_or-at at.front at.item at.back d in
    let there = inode_there fields path at.item inode (ap (λ (l : List FileRec). file_at path l) (sym same) ∙ file_at-some path files place at) in
    let same_test : (inode == (get_or listed place d).inode) ≡ (inode == at.item.inode) = ap (λ (f : FileRec). inode == f.inode) here in
    (λ t. there.0 (sym same_test ∙ t), λ both. same_test ∙ there.1 both)

-- and where the path has none
pub takes_next : (fields : Fields) (files : List FileRec) (path : List ℕ) (inode next : ℕ) (fits : Bool) → files ≡ fields.files → next ≡ fields.next_inode
    → position (λ (file : FileRec). bytes_eq file.path path) files ≡ None → inode ≡ next
    → IsTrue fits ↔ ((length fields.files < 65536) × (fields.next_inode ≤ 4294967294))
    → IsTrue fits ↔ ((inode ≡ inode_for fields path) × MatchOption (file_at path fields.files) ((length fields.files < 65536) × (fields.next_inode ≤ 4294967294)) (λ _. Unit {0}))
takes_next fields files path inode next fits same same_next e is decides =
    let there = inode_next fields path inode (ap (λ (l : List FileRec). file_at path l) (sym same) ∙ file_at-none path files e) in
    (λ t. there.1 (is ∙ same_next, decides.0 t), λ both. decides.1 (there.0 both).1)

pub takes_other : (fields : Fields) (files : List FileRec) (path : List ℕ) (inode next : ℕ) → files ≡ fields.files → next ≡ fields.next_inode
    → position (λ (file : FileRec). bytes_eq file.path path) files ≡ None → (inode ≡ next → ⊥)
    → IsTrue (inode == next) ↔ ((inode ≡ inode_for fields path) × MatchOption (file_at path fields.files) ((length fields.files < 65536) × (fields.next_inode ≤ 4294967294)) (λ _. Unit {0}))
takes_other fields files path inode next same same_next e differs =
    let there = inode_next fields path inode (ap (λ (l : List FileRec). file_at path l) (sym same) ∙ file_at-none path files e) in
    (λ t. absurd (differs (eqb-true inode next t)), λ both. absurd (differs ((there.0 both).0 ∙ sym same_next)))

-- what is legal is so before its texts are read
pub legal_so_far : (terms : Terms) (fields : Fields) (moment : ℕ) (kind : StepKind) → IsLegal terms fields (record { moment = moment; kind = kind }) → IsLegalSoFar terms fields (record { moment = moment; kind = kind })
legal_so_far terms fields moment (Configured texts) legal = (legal.0, legal.1, legal.2.no_file, legal.2.within)
legal_so_far terms fields moment _ legal = legal

-- and legal where no text that it configures the site by is refused
pub then_legal : (terms : Terms) (fields : Fields) (moment : ℕ) (kind : StepKind) → ((texts : SiteTexts) → kind ≡ Configured texts → refusal_of texts ≡ None)
    → IsLegalSoFar terms fields (record { moment = moment; kind = kind }) → IsLegal terms fields (record { moment = moment; kind = kind })
then_legal terms fields moment (Configured texts) read so_far = (so_far.0, so_far.1, record { no_file = so_far.2; within = so_far.3; read = read texts refl })
then_legal terms fields moment _ read so_far = so_far
