-- The name of copies is refused as what is wrong with it.
use Rattle.std.proofs.Common.{◌≡◌, ℕ, Bool, true, false, cond, List, Option, Some, None, Ok, Err, refl, sym, ap, subst, ◌∙◌, codes}
use Rattle.std.specs.Prelude.{not}
use Rattle.std.specs.Str.{bytes_eq}
use Rattle.site_text.specs.declared.fault.ConfFault.{ConfFault}
use Rattle.site_text.specs.declared.fault.ConfFault.TheVariants.{BadValue, UnknownSet}
use Rattle.site_text.specs.Values.{is_name}
use Rattle.site_text.specs.Fields.{Field, Read, ◌>>=◌, wanted, refuse_if}
use Rattle.archiver_lines.specs.declared.reading.CopyName.{CopyName}
use Rattle.archiver_lines.specs.declared.reading.CopyName.TheVariants.{AllSets, AllSetsCopy, SetCopy}
use Rattle.archiver_lines.specs.declared.reading.Reading.{Reading}
use Rattle.archiver_lines.specs.Names.{is_known, last_dot, around_last_dot}
use Rattle.archiver_lines.specs.NameSteps.{copy_number, numbered_name, name_by_parts, copy_name}
use Rattle.archiver_lines.specs.Told.{file_systems_of, sets_of}
use Rattle.archiver_lines.specs.NameRules.{IsNumbered, NameWrong}
use Rattle.archiver_lines.proofs.Tests.{other, is_other}

abbrev told_name : CopyName → Read CopyName
told_name name = Ok name

abbrev known_read : Field → ℕ → Bool → Read CopyName
known_read set copy known = refuse_if (not known) UnknownSet >>= λ u. told_name (SetCopy set copy)

abbrev set_read : Field → ℕ → Bool → Bool → Read CopyName
set_read set copy all known = cond all (told_name (AllSetsCopy copy)) (known_read set copy known)

abbrev numbered_read : Field → Option ℕ → Bool → Bool → Bool → Read CopyName
numbered_read set number form all known = wanted number BadValue >>= λ copy. refuse_if (not form) BadValue >>= λ u. set_read set copy all known

-- a field is cut in one way, so that another cut tells of the same number and set
same_cut : (field set number : Field) → around_last_dot field ≡ Some (set, number) → (s : Field) (copy : ℕ) → IsNumbered field s copy → (copy_number number ≡ Some copy) × (is_name 32 set ≡ true)
same_cut field set number cut s copy n =
    let both : paired s n.number ≡ paired set number = (let h = sym n.cut ∙ cut in cc) in
    (ap (λ (p : Field × Field). copy_number p.1) (sym both) ∙ n.numbered, ap (λ (p : Field × Field). is_name 32 p.0) (sym both) ∙ n.form)
  where
    paired : Field → Field → Field × Field
    paired t k = (t, k)

numbered_wrong : (site : Field) (before : List Reading) (field set number : Field) (fault : ConfFault) → ¬ (field ≡ codes "allsets") → around_last_dot field ≡ Some (set, number)
    → numbered_name site (file_systems_of before) (sets_of before) set number ≡ Err fault → NameWrong site before field fault
unfolding numbered_name
numbered_wrong site before field set number fault n cut is =
    go (copy_number number) (is_name 32 set) (bytes_eq set (codes "allsets")) (is_known site (file_systems_of before) (sets_of before) set) refl refl refl refl is
  where
    go : (c : Option ℕ) (form all known : Bool) → copy_number number ≡ c → is_name 32 set ≡ form → bytes_eq set (codes "allsets") ≡ all → is_known site (file_systems_of before) (sets_of before) set ≡ known
        → numbered_read set c form all known ≡ Err fault → NameWrong site before field fault
    go None form all known p q r t is =
        let e : BadValue ≡ fault = cc in
        subst (NameWrong site before field) e (n, λ s copy numbered. (let h = (same_cut field set number cut s copy numbered).0 in absurd cc))
    go (Some copy) false all known p q r t is =
        let e : BadValue ≡ fault = cc in
        subst (NameWrong site before field) e (n, λ s copy numbered. (let h = (same_cut field set number cut s copy numbered).1 in absurd cc))
    go (Some copy) true true known p q r t is = absurd cc
    go (Some copy) true false true p q r t is = absurd cc
    go (Some copy) true false false p q r t is =
        let e : UnknownSet ≡ fault = cc in
        subst (NameWrong site before field) e (set, copy, record { number = number; cut = cut; numbered = p; form = q }, is_other set (codes "allsets") r, t)

parts_wrong : (site : Field) (before : List Reading) (field : Field) (fault : ConfFault) (parts : Option (Field × Field)) → ¬ (field ≡ codes "allsets") → around_last_dot field ≡ parts
    → name_by_parts site (file_systems_of before) (sets_of before) parts ≡ Err fault → NameWrong site before field fault
parts_wrong site before field fault (Some parts) n cut is = numbered_wrong site before field parts.0 parts.1 fault n cut is
parts_wrong site before field fault None n cut is =
    let e : BadValue ≡ fault = cc in
    subst (NameWrong site before field) e (n, λ s copy numbered. (let h = numbered.cut in absurd cc))

pub name_wrong : (site : Field) (before : List Reading) (field : Field) (fault : ConfFault) → copy_name site (file_systems_of before) (sets_of before) field ≡ Err fault → NameWrong site before field fault
unfolding copy_name
name_wrong site before field fault is = go (bytes_eq field (codes "allsets")) refl is
  where
    go : (b : Bool) → bytes_eq field (codes "allsets") ≡ b → cond b (Ok AllSets) (name_by_parts site (file_systems_of before) (sets_of before) (around_last_dot field)) ≡ Err fault → NameWrong site before field fault
    go true p is = absurd cc
    go false p is = parts_wrong site before field fault (around_last_dot field) (is_other field (codes "allsets") p) refl is

-- ---- what is wrong is refused

no_form_numbered : (site : Field) (before : List Reading) (field set number : Field) → around_last_dot field ≡ Some (set, number) → ((s : Field) (copy : ℕ) → ¬ IsNumbered field s copy)
    → numbered_name site (file_systems_of before) (sets_of before) set number ≡ Err BadValue
unfolding numbered_name
no_form_numbered site before field set number cut formless = go (copy_number number) (is_name 32 set) refl refl
  where
    go : (c : Option ℕ) (form : Bool) → copy_number number ≡ c → is_name 32 set ≡ form
        → numbered_read set c form (bytes_eq set (codes "allsets")) (is_known site (file_systems_of before) (sets_of before) set) ≡ Err BadValue
    go None form p q = refl
    go (Some copy) false p q = refl
    go (Some copy) true p q = absurd (formless set copy (record { number = number; cut = cut; numbered = p; form = q }))

no_form_parts : (site : Field) (before : List Reading) (field : Field) (parts : Option (Field × Field)) → around_last_dot field ≡ parts → ((s : Field) (copy : ℕ) → ¬ IsNumbered field s copy)
    → name_by_parts site (file_systems_of before) (sets_of before) parts ≡ Err BadValue
no_form_parts site before field (Some parts) cut formless = no_form_numbered site before field parts.0 parts.1 cut formless
no_form_parts site before field None cut formless = refl

-- `allsets` has no `.`
no_dot : (set number : Field) → around_last_dot (codes "allsets") ≡ Some (set, number) → ⊥
unfolding last_dot
no_dot set number e = absurd cc

has_dot : (field set number : Field) → around_last_dot field ≡ Some (set, number) → ¬ (field ≡ codes "allsets")
has_dot field set number cut is = no_dot set number (ap around_last_dot (sym is) ∙ cut)

pub name_refused : (site : Field) (before : List Reading) (field : Field) (fault : ConfFault) → NameWrong site before field fault → copy_name site (file_systems_of before) (sets_of before) field ≡ Err fault
unfolding copy_name numbered_name
name_refused site before field BadValue (n, formless) = rw (other field (codes "allsets") n) (no_form_parts site before field (around_last_dot field) refl formless)
name_refused site before field UnknownSet (set, copy, numbered, m, unknown) =
    rw (other field (codes "allsets") (has_dot field set numbered.number numbered.cut), numbered.cut, numbered.numbered, numbered.form, other set (codes "allsets") m, unknown) refl
name_refused site before field fault wrong = absurd wrong
