-- The name of copies is read as what it says, and says what it is read as.
use Rattle.std.proofs.Common.{◌≡◌, ℕ, Bool, true, false, cond, List, Option, Some, None, Ok, refl, ap, subst, ◌∙◌, codes}
use Rattle.std.specs.Prelude.{not}
use Rattle.std.specs.Str.{bytes_eq}
use Rattle.site_text.specs.declared.fault.ConfFault.TheVariants.{BadValue, UnknownSet}
use Rattle.site_text.specs.Values.{is_name}
use Rattle.site_text.specs.Fields.{Field, Read, ◌>>=◌, wanted, refuse_if}
use Rattle.archiver_lines.specs.declared.reading.CopyName.{CopyName}
use Rattle.archiver_lines.specs.declared.reading.CopyName.TheVariants.{AllSets, AllSetsCopy, SetCopy}
use Rattle.archiver_lines.specs.declared.reading.Reading.{Reading}
use Rattle.archiver_lines.specs.Names.{is_known, around_last_dot}
use Rattle.archiver_lines.specs.NameSteps.{copy_number, numbered_name, name_by_parts, copy_name}
use Rattle.archiver_lines.specs.Told.{file_systems_of, sets_of}
use Rattle.archiver_lines.specs.NameRules.{NameSays}
use Rattle.archiver_lines.proofs.Tests.{bind_ok, wanted_said, not_refused, not_false, same, is_same, other, is_other}

pub name_read : (site : Field) (before : List Reading) (field : Field) (name : CopyName) → NameSays site before field name → copy_name site (file_systems_of before) (sets_of before) field ≡ Ok name
unfolding copy_name numbered_name
name_read site before field AllSets is = rw (same field (codes "allsets") is) refl
name_read site before field (AllSetsCopy copy) (n, (number, cut, is)) = rw (other field (codes "allsets") n, cut, is) refl
name_read site before field (SetCopy set copy) (n, m, (number, cut, is, form, known)) = rw (other field (codes "allsets") n, cut, is, form, other set (codes "allsets") m, known) refl

abbrev parts_of : Field → Field → Option (Field × Field)
parts_of set number = Some (set, number)

abbrev chosen : Field → List Reading → Field → ℕ → Read CopyName
chosen site before set copy = cond (bytes_eq set (codes "allsets")) (Ok (AllSetsCopy copy)) (refuse_if (not (is_known site (file_systems_of before) (sets_of before) set)) UnknownSet >>= λ u. Ok (SetCopy set copy))

numbered_said : (site : Field) (before : List Reading) (field set number : Field) (name : CopyName) → ¬ (field ≡ codes "allsets") → around_last_dot field ≡ parts_of set number
    → numbered_name site (file_systems_of before) (sets_of before) set number ≡ Ok name → NameSays site before field name
unfolding numbered_name
numbered_said site before field set number name n cut is =
    let copy = bind_ok (wanted (copy_number number) BadValue) (λ copy. refuse_if (not (is_name 32 set)) BadValue >>= λ u. chosen site before set copy) name is in
    let form = bind_ok (refuse_if (not (is_name 32 set)) BadValue) (λ u. chosen site before set copy.0) name copy.2 in
    go (bytes_eq set (codes "allsets")) copy.0 (wanted_said (copy_number number) BadValue copy.0 copy.1) (not_false _ (not_refused _ BadValue form.0 form.1)) refl form.2
  where
    go : (b : Bool) (copy : ℕ) → copy_number number ≡ Some copy → is_name 32 set ≡ true → bytes_eq set (codes "allsets") ≡ b
        → cond b (Ok (AllSetsCopy copy)) (refuse_if (not (is_known site (file_systems_of before) (sets_of before) set)) UnknownSet >>= λ u. Ok (SetCopy set copy)) ≡ Ok name → NameSays site before field name
    go true copy num form p is =
        let e : AllSetsCopy copy ≡ name = cc in
        subst (NameSays site before field) e (n, (number, cut ∙ ap (λ (s : Field). parts_of s number) (is_same set (codes "allsets") p), num))
    go false copy num form p is =
        let k = bind_ok (refuse_if (not (is_known site (file_systems_of before) (sets_of before) set)) UnknownSet) (λ u. Ok (SetCopy set copy)) name is in
        let e : SetCopy set copy ≡ name = (let h = k.2 in cc) in
        subst (NameSays site before field) e (n, is_other set (codes "allsets") p, (number, cut, num, form, not_false _ (not_refused _ UnknownSet k.0 k.1)))

parts_said : (site : Field) (before : List Reading) (field : Field) (name : CopyName) (parts : Option (Field × Field)) → ¬ (field ≡ codes "allsets") → around_last_dot field ≡ parts
    → name_by_parts site (file_systems_of before) (sets_of before) parts ≡ Ok name → NameSays site before field name
parts_said site before field name (Some parts) n cut is = numbered_said site before field parts.0 parts.1 name n cut is
parts_said site before field name None n cut is = absurd cc

pub name_said : (site : Field) (before : List Reading) (field : Field) (name : CopyName) → copy_name site (file_systems_of before) (sets_of before) field ≡ Ok name → NameSays site before field name
unfolding copy_name
name_said site before field name is = go (bytes_eq field (codes "allsets")) refl is
  where
    go : (b : Bool) → bytes_eq field (codes "allsets") ≡ b → cond b (Ok AllSets) (name_by_parts site (file_systems_of before) (sets_of before) (around_last_dot field)) ≡ Ok name → NameSays site before field name
    go true p is = let e : AllSets ≡ name = cc in subst (NameSays site before field) e (is_same field (codes "allsets") p)
    go false p is = parts_said site before field name (around_last_dot field) (is_other field (codes "allsets") p) refl is
