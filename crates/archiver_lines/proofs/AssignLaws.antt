-- An assignment line is read as what it says, and says what it is read as.
use Rattle.std.proofs.Common.{◌≡◌, ℕ, Bool, List, [], ◌∷◌, length, Ok, refl, sym, ap, codes}
use Rattle.std.specs.Prelude.{◌||◌, not, nat_le}
use Rattle.std.specs.Str.{bytes_eq}
use Rattle.site_text.specs.declared.fault.ConfFault.TheVariants.{BadValue, TooMany, Conflict}
use Rattle.site_text.specs.Fields.{Field, Read, ◌>>=◌, next_field, refuse_if}
use Rattle.site_text.specs.OptionSteps.{options_of}
use Rattle.site_text.proofs.OptionLaws.{options_said, options_read}
use Rattle.archiver_lines.specs.declared.criteria.Criterion.{Criterion}
use Rattle.archiver_lines.specs.declared.reading.Reading.{Reading}
use Rattle.archiver_lines.specs.declared.reading.Reading.TheVariants as readings
use Rattle.archiver_lines.specs.Names.{is_set_name}
use Rattle.archiver_lines.specs.Paths.{is_set_path}
use Rattle.archiver_lines.specs.Criteria.{criteria_table}
use Rattle.archiver_lines.specs.AssignmentRules.{assigned, AssignmentSays}
use Rattle.archiver_lines.specs.CopySteps.{is_too_many}
use Rattle.archiver_lines.specs.AssignmentSteps.{assign_line}
use Rattle.archiver_lines.specs.Told.{part_of, assignments_of, sets_of}
use Rattle.archiver_lines.proofs.Sets.{few_sets, few_said}
use Rattle.archiver_lines.proofs.Tests.{bind_ok, not_refused, not_false, both_false, other, is_other, above, is_above}

abbrev pub line_read : Field → List Reading → ℕ → Field → List Field → Read Reading
line_read site before number set fields = assign_line (part_of site before) (length (assignments_of before)) (sets_of before) number set fields

pub assign_read : (site : Field) (before : List Reading) (number : ℕ) (set : Field) (fields : List Field) (said : Reading) → AssignmentSays site before number set fields said → line_read site before number set fields ≡ Ok said
unfolding assign_line next_field
assign_read site before number set fields said s =
    rw (
      s.form,
      above 64 (length (assignments_of before)) s.few_lines,
      few_sets (sets_of before) set s.few_sets,
      other set (codes "allsets") s.own,
      s.cut,
      s.legal,
      options_read criteria_table [] s.rest s.given s.criteria,
      s.is,
    ) refl

-- the next field, and those behind it
pub next_said : (fields : List Field) (x : Field × List Field) → next_field fields ≡ Ok x → fields ≡ x.0 ∷ x.1
unfolding next_field
next_said [] x is = absurd cc
next_said (f ∷ fs) x is = let e : paired f fs ≡ x = cc in ap (λ (y : Field × List Field). y.0 ∷ y.1) e
  where
    paired : Field → List Field → Field × List Field
    paired g gs = (g, gs)

abbrev pub told : Field → List Reading → ℕ → Field → Field → List Criterion → Reading
told site before number set path given = readings.Assign (assigned number set (part_of site before) path given)

abbrev pub given_read : Field → List Reading → ℕ → Field → Field × List Field → Read Reading
given_read site before number set path = options_of criteria_table [] path.1 >>= λ given. Ok (told site before number set path.0 given)

abbrev pub path_read : Field → List Reading → ℕ → Field → List Field → Read Reading
path_read site before number set fields = next_field fields >>= λ path. refuse_if (not (is_set_path path.0)) BadValue >>= λ u. given_read site before number set path

abbrev own_read : Field → List Reading → ℕ → Field → List Field → Read Reading
own_read site before number set fields = refuse_if (bytes_eq set (codes "allsets")) Conflict >>= λ u. path_read site before number set fields

abbrev is_full : List Reading → Field → Bool
is_full before set = nat_le 64 (length (assignments_of before)) || is_too_many (sets_of before) set

abbrev room_read : Field → List Reading → ℕ → Field → List Field → Read Reading
room_read site before number set fields = refuse_if (is_full before set) TooMany >>= λ u. own_read site before number set fields

pub assign_said : (site : Field) (before : List Reading) (number : ℕ) (set : Field) (fields : List Field) (said : Reading) → line_read site before number set fields ≡ Ok said → AssignmentSays site before number set fields said
unfolding assign_line
assign_said site before number set fields said is =
    let f = bind_ok (refuse_if (not (is_set_name set)) BadValue) (λ u. room_read site before number set fields) said is in
    let m = bind_ok (refuse_if (is_full before set) TooMany) (λ u. own_read site before number set fields) said f.2 in
    let o = bind_ok (refuse_if (bytes_eq set (codes "allsets")) Conflict) (λ u. path_read site before number set fields) said m.2 in
    let p = bind_ok (next_field fields) (λ path. refuse_if (not (is_set_path path.0)) BadValue >>= λ u. given_read site before number set path) said o.2 in
    let l = bind_ok (refuse_if (not (is_set_path p.0.0)) BadValue) (λ u. given_read site before number set p.0) said p.2 in
    let g = bind_ok (options_of criteria_table [] p.0.1) (λ given. Ok (told site before number set p.0.0 given)) said l.2 in
    let e : told site before number set p.0.0 g.0 ≡ said = (let h = g.2 in cc) in
    let few = both_false (nat_le 64 (length (assignments_of before))) (is_too_many (sets_of before) set) (not_refused _ TooMany m.0 m.1) in
    record {
      form = not_false _ (not_refused _ BadValue f.0 f.1);
      own = is_other set (codes "allsets") (not_refused _ Conflict o.0 o.1);
      few_lines = is_above 64 _ few.0;
      few_sets = few_said (sets_of before) set few.1;
      path = p.0.0;
      rest = p.0.1;
      cut = next_said fields p.0 p.1;
      legal = not_false _ (not_refused _ BadValue l.0 l.1);
      given = g.0;
      criteria = options_said criteria_table [] p.0.1 g.0 g.1;
      is = sym e;
    }
