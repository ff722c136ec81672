-- An assignment line is refused as what is wrong with it.
use Rattle.std.proofs.Common.{◌≡◌, ℕ, ◌≤◌, Bool, true, false, List, [], ◌∷◌, length, Ok, Err, refl, sym, ◌∙◌, ◌⊎◌, inl, inr, codes, arith}
use Rattle.std.specs.Prelude.{◌||◌, not, nat_le}
use Rattle.std.specs.Str.{bytes_eq}
use Rattle.std.proofs.lemmas.Bool.{leb-true}
use Rattle.site_text.specs.declared.fault.ConfFault.{ConfFault}
use Rattle.site_text.specs.declared.fault.ConfFault.TheVariants.{MissingField, BadValue, TooMany, Conflict}
use Rattle.site_text.specs.Fields.{Field, Read, ◌>>=◌, next_field, refuse_if}
use Rattle.site_text.specs.OptionSteps.{options_of}
use Rattle.site_text.proofs.OptionLaws.{options_wrong, options_refused}
use Rattle.archiver_lines.specs.declared.criteria.Criterion.{Criterion}
use Rattle.archiver_lines.specs.declared.reading.Reading.{Reading}
use Rattle.archiver_lines.specs.Names.{is_set_name}
use Rattle.archiver_lines.specs.Paths.{is_set_path}
use Rattle.archiver_lines.specs.Criteria.{criteria_table}
use Rattle.archiver_lines.specs.CopySteps.{is_too_many}
use Rattle.archiver_lines.specs.AssignmentSteps.{assign_line}
use Rattle.archiver_lines.specs.Told.{assignments_of, sets_of}
use Rattle.archiver_lines.specs.Faults.{fault_number}
use Rattle.archiver_lines.specs.AssignmentRules.{SetFault, BehindSet, AssignmentWrong}
use Rattle.archiver_lines.proofs.Sets.{many_said, not_many}
use Rattle.archiver_lines.proofs.Tests.{is_same, is_other, is_above}
use Rattle.archiver_lines.proofs.AssignLaws.{line_read, path_read, told}
use Rattle.archiver_lines.proofs.Faults.{bind_err, Judges, fails, passes, failed, passed}

-- ---- the set

abbrev set_tests : Bool → Bool → Bool → Read (Unit {0})
set_tests form full all = refuse_if (not form) BadValue >>= λ u. refuse_if full TooMany >>= λ u. refuse_if all Conflict

abbrev set_read : List Reading → Field → Read (Unit {0})
set_read before set = set_tests (is_set_name set) (nat_le 64 (length (assignments_of before)) || is_too_many (sets_of before) set) (bytes_eq set (codes "allsets"))

set_judged : (before : List Reading) (set : Field) → Judges (SetFault before set) (set_read before set)
set_judged before set = go (is_set_name set) (nat_le 64 (length (assignments_of before))) (is_too_many (sets_of before) set) (bytes_eq set (codes "allsets")) refl refl refl refl
  where
    form_first : (fault : ConfFault) → SetFault before set fault → 4 ≤ fault_number fault
    form_first BadValue has = omega (arith)
    form_first TooMany has = omega (arith)
    form_first Conflict has = omega (arith)
    form_first fault has = absurd has

    then_room : is_set_name set ≡ true → (fault : ConfFault) → SetFault before set fault → 10 ≤ fault_number fault
    then_room form BadValue has = absurd cc
    then_room form TooMany has = omega (arith)
    then_room form Conflict has = omega (arith)
    then_room form fault has = absurd has

    no_room : nat_le 64 (length (assignments_of before)) ≡ false → is_too_many (sets_of before) set ≡ false → SetFault before set TooMany → ⊥
    no_room lines sets (inl has) = omega (arith, is_above 64 _ lines, has)
    no_room lines sets (inr has) = not_many (sets_of before) set sets has

    then_own : is_set_name set ≡ true → nat_le 64 (length (assignments_of before)) ≡ false → is_too_many (sets_of before) set ≡ false → (fault : ConfFault) → SetFault before set fault → 11 ≤ fault_number fault
    then_own form lines sets BadValue has = absurd cc
    then_own form lines sets TooMany has = absurd (no_room lines sets has)
    then_own form lines sets Conflict has = omega (arith)
    then_own form lines sets fault has = absurd has

    none : is_set_name set ≡ true → nat_le 64 (length (assignments_of before)) ≡ false → is_too_many (sets_of before) set ≡ false → bytes_eq set (codes "allsets") ≡ false → (fault : ConfFault) → ¬ SetFault before set fault
    none form lines sets own BadValue has = absurd cc
    none form lines sets own TooMany has = absurd (no_room lines sets has)
    none form lines sets own Conflict has = is_other set (codes "allsets") own has
    none form lines sets own fault has = absurd has

    go : (a b c d : Bool) → is_set_name set ≡ a → nat_le 64 (length (assignments_of before)) ≡ b → is_too_many (sets_of before) set ≡ c → bytes_eq set (codes "allsets") ≡ d → Judges (SetFault before set) (set_tests a (b || c) d)
    go false b c d form lines sets own = record { there = form; lowest = form_first }
    go true true c d form lines sets own = record { there = inl (leb-true _ _ lines); lowest = then_room form }
    go true false true d form lines sets own = record { there = inr (many_said (sets_of before) set sets); lowest = then_room form }
    go true false false true form lines sets own = record { there = is_same set (codes "allsets") own; lowest = then_own form lines sets }
    go true false false false form lines sets own = none form lines sets own

three_tests : (a b c : Bool) (rest : Read Reading) → (refuse_if (not a) BadValue >>= λ u. refuse_if b TooMany >>= λ u. refuse_if c Conflict >>= λ u. rest) ≡ (set_tests a b c >>= λ u. rest)
three_tests false b c rest = refl
three_tests true true c rest = refl
three_tests true false true rest = refl
three_tests true false false rest = refl

-- the set is read first, and then what is behind it
set_first : (site : Field) (before : List Reading) (number : ℕ) (set : Field) (fields : List Field) → line_read site before number set fields ≡ (set_read before set >>= λ u. path_read site before number set fields)
unfolding assign_line
set_first site before number set fields = three_tests (is_set_name set) (nat_le 64 (length (assignments_of before)) || is_too_many (sets_of before) set) (bytes_eq set (codes "allsets")) (path_read site before number set fields)

-- ---- what is behind it

behind_wrong : (site : Field) (before : List Reading) (number : ℕ) (set : Field) (fields : List Field) (fault : ConfFault) → path_read site before number set fields ≡ Err fault → BehindSet fields fault
unfolding next_field
behind_wrong site before number set [] fault is = (let e : MissingField ≡ fault = cc in sym e)
behind_wrong site before number set (path ∷ fields) fault is = go (is_set_path path) refl is
  where
    criteria : is_set_path path ≡ true → (options_of criteria_table [] fields ≡ Err fault) ⊎ ((given : List Criterion) × (options_of criteria_table [] fields ≡ Ok given) × (Ok (told site before number set path given) ≡ Err fault)) → BehindSet (path ∷ fields) fault
    criteria legal (inl e) = inr (legal, options_wrong criteria_table [] fields fault e)
    criteria legal (inr (given, e, absent)) = absurd cc

    go : (b : Bool) → is_set_path path ≡ b → (refuse_if (not b) BadValue >>= λ u. options_of criteria_table [] fields >>= λ given. Ok (told site before number set path given)) ≡ Err fault → BehindSet (path ∷ fields) fault
    go true legal is = criteria legal (bind_err (options_of criteria_table [] fields) (λ given. Ok (told site before number set path given)) fault is)
    go false illegal is = inl (illegal, (let e : BadValue ≡ fault = cc in sym e))

behind_refused : (site : Field) (before : List Reading) (number : ℕ) (set : Field) (fields : List Field) (fault : ConfFault) → BehindSet fields fault → path_read site before number set fields ≡ Err fault
unfolding next_field
behind_refused site before number set [] fault is = rw is refl
behind_refused site before number set (path ∷ fields) fault (inl (illegal, is)) = rw (illegal, is) refl
behind_refused site before number set (path ∷ fields) fault (inr (legal, wrong)) = rw (legal, options_refused criteria_table [] fields fault wrong) refl

-- ---- the line

pub assign_wrong : (site : Field) (before : List Reading) (number : ℕ) (set : Field) (fields : List Field) (fault : ConfFault) → line_read site before number set fields ≡ Err fault → AssignmentWrong before set fields fault
assign_wrong site before number set fields fault is = go (bind_err (set_read before set) (λ u. path_read site before number set fields) fault (sym (set_first site before number set fields) ∙ is))
  where
    go : (set_read before set ≡ Err fault) ⊎ ((x : Unit {0}) × (set_read before set ≡ Ok x) × (path_read site before number set fields ≡ Err fault)) → AssignmentWrong before set fields fault
    go (inl e) = inl (failed (SetFault before set) (set_read before set) fault (set_judged before set) e)
    go (inr (x, e, behind)) = inr (passed (SetFault before set) (set_read before set) x (set_judged before set) e, behind_wrong site before number set fields fault behind)

pub assign_refused : (site : Field) (before : List Reading) (number : ℕ) (set : Field) (fields : List Field) (fault : ConfFault) → AssignmentWrong before set fields fault → line_read site before number set fields ≡ Err fault
assign_refused site before number set fields fault (inl lowest) =
    set_first site before number set fields ∙ rw (fails (SetFault before set) (set_read before set) fault (set_judged before set) lowest) refl
assign_refused site before number set fields fault (inr (faultless, behind)) =
    let read = passes (SetFault before set) (set_read before set) (set_judged before set) faultless in
    set_first site before number set fields ∙ rw (read.1, behind_refused site before number set fields fault behind) refl
