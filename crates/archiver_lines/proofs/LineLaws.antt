-- A line is read as what it says, and says what it is read as; and so with what is wrong with it.
use Rattle.std.proofs.Common.{◌≡◌, ℕ, length, List, [], ◌∷◌, Ok, Err, refl, sym, subst}
use Rattle.site_text.specs.declared.line.Line.{Line}
use Rattle.site_text.specs.declared.fault.ConfFault.{ConfFault}
use Rattle.site_text.specs.declared.fault.ConfFault.TheVariants.{UnknownDirective, MissingField}
use Rattle.site_text.specs.Fields.{Field, Read, ◌>>=◌}
use Rattle.site_text.specs.FormSteps.{read_form}
use Rattle.site_text.proofs.FormLaws.{form_said, form_wrong, form_read, form_refused, directive_said, directive_wrong, directive_read, directive_refused}
use Rattle.archiver_lines.specs.declared.kinds.LineKind.{LineKind}
use Rattle.archiver_lines.specs.declared.kinds.LineKind.TheVariants as kinds
use Rattle.archiver_lines.specs.declared.reading.Reading.{Reading}
use Rattle.archiver_lines.specs.declared.reading.Reading.TheVariants as readings
use Rattle.archiver_lines.specs.declared.reading.Section.{Section}
use Rattle.archiver_lines.specs.declared.reading.Section.TheVariants.{Params, VsnPools, Vsns}
use Rattle.archiver_lines.specs.ValueForms.{value_names}
use Rattle.site_text.specs.Directives.{no_words}
use Rattle.archiver_lines.specs.KindSteps.{kind_of}
use Rattle.archiver_lines.specs.CopySteps.{copy_line}
use Rattle.archiver_lines.specs.SectionRules.{pool_form}
use Rattle.archiver_lines.specs.SectionSteps.{params_line, vsns_line}
use Rattle.archiver_lines.specs.Told.{exprs_of, opened_of, file_systems_of, target_of, sets_of, copies_of, params_of, pools_of}
use Rattle.archiver_lines.specs.ValueSteps.{value_reading}
use Rattle.archiver_lines.specs.LineSteps.{copy_reading, assign_reading, params_reading, pool_reading, vsns_reading, within_reading, line_as, line_of}
use Rattle.archiver_lines.specs.LineRules.{SaysCopy, SaysAssign, SaysParams, SaysPool, SaysVsns, SaysWithin, SaysAs, LineSays, WrongAs, LineWrong, WrongCopy, WrongAssign, WrongParams, WrongVsns, WrongWithin}
use Rattle.archiver_lines.proofs.Tests.{bind_ok}
use Rattle.archiver_lines.proofs.KindLaws.{of_kind, kind_is}
use Rattle.archiver_lines.proofs.CopyLaws.{copy_read, copy_said}
use Rattle.archiver_lines.proofs.AssignLaws.{assign_read, assign_said}
use Rattle.archiver_lines.proofs.SectionLaws.{params_read, params_said, vsns_read, vsns_said}
use Rattle.archiver_lines.proofs.CopyFaults.{copy_wrong, copy_refused}
use Rattle.archiver_lines.proofs.AssignFaults.{assign_wrong, assign_refused}
use Rattle.archiver_lines.proofs.SectionFaults.{params_wrong, params_refused, vsns_wrong, vsns_refused}

-- ---- what is read is said

copy_line_said : (before : List Reading) (fields : List Field) (said : Reading) → copy_reading before fields ≡ Ok said → SaysCopy before fields said
copy_line_said before [] said is = absurd cc
copy_line_said before (f ∷ fs) said is =
    let l = bind_ok (copy_line (target_of before) (copies_of before) (sets_of before) f fs) (λ line. Ok (readings.Copy line)) said is in
    let e : readings.Copy l.0 ≡ said = (let h = l.2 in cc) in
    subst (SaysCopy before (f ∷ fs)) e (copy_said (target_of before) (copies_of before) (sets_of before) f fs l.0 l.1)

assign_line_said : (site : Field) (before : List Reading) (number : ℕ) (fields : List Field) (said : Reading) → assign_reading site before number fields ≡ Ok said → SaysAssign site before number fields said
assign_line_said site before number [] said is = absurd cc
assign_line_said site before number (f ∷ fs) said is = assign_said site before number f fs said is

params_line_said : (site : Field) (before : List Reading) (fields : List Field) (said : Reading) → params_reading site before fields ≡ Ok said → SaysParams site before fields said
params_line_said site before [] said is = absurd cc
params_line_said site before (f ∷ fs) said is =
    let l = bind_ok (params_line site (file_systems_of before) (sets_of before) (params_of before) f fs) (λ line. Ok (readings.Params line)) said is in
    let e : readings.Params l.0 ≡ said = (let h = l.2 in cc) in
    subst (SaysParams site before (f ∷ fs)) e (params_said site before f fs l.0 l.1)

pool_line_said : (number : ℕ) (fields : List Field) (said : Reading) → pool_reading number fields ≡ Ok said → SaysPool number fields said
pool_line_said number fields said is =
    let l = bind_ok (read_form (pool_form number) fields) (λ line. Ok (readings.Pool line)) said is in
    let e : readings.Pool l.0 ≡ said = (let h = l.2 in cc) in
    subst (SaysPool number fields) e (form_said (pool_form number) fields l.0 l.1)

vsns_line_said : (site : Field) (before : List Reading) (number : ℕ) (fields : List Field) (said : Reading) → vsns_reading site before number fields ≡ Ok said → SaysVsns site before number fields said
vsns_line_said site before number [] said is = absurd cc
vsns_line_said site before number (f ∷ fs) said is =
    let l = bind_ok (vsns_line site (file_systems_of before) (sets_of before) (pools_of before) (length (exprs_of before)) number f fs) (λ line. Ok (readings.Vsns line)) said is in
    let e : readings.Vsns l.0 ≡ said = (let h = l.2 in cc) in
    subst (SaysVsns site before number (f ∷ fs)) e (vsns_said site before number f fs l.0 l.1)

within_said : (section : Section) (site : Field) (before : List Reading) (line : Line) (said : Reading) → within_reading section site before line ≡ Ok said → SaysWithin section site before line said
within_said Params site before line said is = params_line_said site before line.fields said is
within_said VsnPools site before line said is = pool_line_said line.number line.fields said is
within_said Vsns site before line said is = vsns_line_said site before line.number line.fields said is

abbrev given : Reading → Read Reading
given r = Ok r

said_is : (r said : Reading) → given r ≡ given said → said ≡ r
said_is r said is = (let e : r ≡ said = cc in sym e)

as_said : (kind : LineKind) (site : Field) (before : List Reading) (line : Line) (said : Reading) → line_as kind site before line ≡ Ok said → SaysAs kind site before line said
unfolding value_reading
as_said kinds.Empty site before line said is = absurd cc
as_said kinds.NoDirective site before line said is = absurd cc
as_said kinds.Ends site before line said is = said_is readings.Closes said is
as_said (kinds.Within section) site before line said is = within_said section site before line said is
as_said kinds.Value site before line said is = directive_said value_names no_words line.fields said is
as_said (kinds.Begins section) site before line said is = said_is (readings.Opens (record { section = section; line = line.number })) said is
as_said kinds.Copy site before line said is = copy_line_said before line.fields said is
as_said kinds.Assignment site before line said is = assign_line_said site before line.number line.fields said is

pub line_said : (site : Field) (before : List Reading) (line : Line) (said : Reading) → line_of site before line ≡ Ok said → LineSays site before line said
unfolding line_of
line_said site before line said is =
    let kind = kind_of (opened_of before) line.fields in
    (kind, of_kind (opened_of before) line.fields, as_said kind site before line said is)

-- ---- what is said is read

copy_line_read : (before : List Reading) (fields : List Field) (said : Reading) → SaysCopy before fields said → copy_reading before fields ≡ Ok said
copy_line_read before (f ∷ fs) (readings.Copy line) says = rw (copy_read (target_of before) (copies_of before) (sets_of before) f fs line says) refl
copy_line_read before fields said says = absurd says

assign_line_read : (site : Field) (before : List Reading) (number : ℕ) (fields : List Field) (said : Reading) → SaysAssign site before number fields said → assign_reading site before number fields ≡ Ok said
assign_line_read site before number [] said says = absurd says
assign_line_read site before number (f ∷ fs) said says = assign_read site before number f fs said says

params_line_read : (site : Field) (before : List Reading) (fields : List Field) (said : Reading) → SaysParams site before fields said → params_reading site before fields ≡ Ok said
params_line_read site before (f ∷ fs) (readings.Params line) says = rw (params_read site before f fs line says) refl
params_line_read site before fields said says = absurd says

pool_line_read : (number : ℕ) (fields : List Field) (said : Reading) → SaysPool number fields said → pool_reading number fields ≡ Ok said
pool_line_read number fields (readings.Pool line) says = rw (form_read (pool_form number) fields line says) refl
pool_line_read number fields said says = absurd says

vsns_line_read : (site : Field) (before : List Reading) (number : ℕ) (fields : List Field) (said : Reading) → SaysVsns site before number fields said → vsns_reading site before number fields ≡ Ok said
vsns_line_read site before number (f ∷ fs) (readings.Vsns line) says = rw (vsns_read site before number f fs line says) refl
vsns_line_read site before number fields said says = absurd says

within_read : (section : Section) (site : Field) (before : List Reading) (line : Line) (said : Reading) → SaysWithin section site before line said → within_reading section site before line ≡ Ok said
within_read Params site before line said says = params_line_read site before line.fields said says
within_read VsnPools site before line said says = pool_line_read line.number line.fields said says
within_read Vsns site before line said says = vsns_line_read site before line.number line.fields said says

as_read : (kind : LineKind) (site : Field) (before : List Reading) (line : Line) (said : Reading) → SaysAs kind site before line said → line_as kind site before line ≡ Ok said
unfolding value_reading
as_read kinds.Empty site before line said says = absurd says
as_read kinds.NoDirective site before line said says = absurd says
as_read kinds.Ends site before line said says = rw says refl
as_read (kinds.Within section) site before line said says = within_read section site before line said says
as_read kinds.Value site before line said says = directive_read value_names no_words line.fields said says
as_read (kinds.Begins section) site before line said says = rw says refl
as_read kinds.Copy site before line said says = copy_line_read before line.fields said says
as_read kinds.Assignment site before line said says = assign_line_read site before line.number line.fields said says

pub line_read : (site : Field) (before : List Reading) (line : Line) (said : Reading) → LineSays site before line said → line_of site before line ≡ Ok said
unfolding line_of
line_read site before line said (kind, is, says) = rw (kind_is (opened_of before) line.fields kind is) (as_read kind site before line said says)

-- ---- what is wrong

-- where the first step alone can fail, it failed
first_failed : {A : Type 0} (read : Read A) (says : A → Reading) (fault : ConfFault) → (read >>= λ line. Ok (says line)) ≡ Err fault → read ≡ Err fault
first_failed (Ok line) says fault is = absurd cc
first_failed (Err first) says fault is = (let e : first ≡ fault = cc in rw e refl)

abbrev refused : ConfFault → Read Reading
refused fault = Err fault

fault_is : (first fault : ConfFault) → refused first ≡ refused fault → fault ≡ first
fault_is first fault is = (let e : first ≡ fault = cc in sym e)

copy_line_wrong : (before : List Reading) (fields : List Field) (fault : ConfFault) → copy_reading before fields ≡ Err fault → WrongCopy before fields fault
copy_line_wrong before [] fault is = fault_is MissingField fault is
copy_line_wrong before (f ∷ fs) fault is = copy_wrong (target_of before) (copies_of before) (sets_of before) f fs fault (first_failed (copy_line (target_of before) (copies_of before) (sets_of before) f fs) (λ line. readings.Copy line) fault is)

assign_line_wrong : (site : Field) (before : List Reading) (number : ℕ) (fields : List Field) (fault : ConfFault) → assign_reading site before number fields ≡ Err fault → WrongAssign before fields fault
assign_line_wrong site before number [] fault is = fault_is MissingField fault is
assign_line_wrong site before number (f ∷ fs) fault is = assign_wrong site before number f fs fault is

params_line_wrong : (site : Field) (before : List Reading) (fields : List Field) (fault : ConfFault) → params_reading site before fields ≡ Err fault → WrongParams site before fields fault
params_line_wrong site before [] fault is = fault_is MissingField fault is
params_line_wrong site before (f ∷ fs) fault is = params_wrong site before f fs fault (first_failed (params_line site (file_systems_of before) (sets_of before) (params_of before) f fs) (λ line. readings.Params line) fault is)

vsns_line_wrong : (site : Field) (before : List Reading) (number : ℕ) (fields : List Field) (fault : ConfFault) → vsns_reading site before number fields ≡ Err fault → WrongVsns site before number fields fault
vsns_line_wrong site before number [] fault is = fault_is MissingField fault is
vsns_line_wrong site before number (f ∷ fs) fault is = vsns_wrong site before number f fs fault (first_failed (vsns_line site (file_systems_of before) (sets_of before) (pools_of before) (length (exprs_of before)) number f fs) (λ line. readings.Vsns line) fault is)

within_wrong : (section : Section) (site : Field) (before : List Reading) (line : Line) (fault : ConfFault) → within_reading section site before line ≡ Err fault → WrongWithin section site before line fault
within_wrong Params site before line fault is = params_line_wrong site before line.fields fault is
within_wrong VsnPools site before line fault is = form_wrong (pool_form line.number) line.fields fault (first_failed (read_form (pool_form line.number) line.fields) (λ pool. readings.Pool pool) fault is)
within_wrong Vsns site before line fault is = vsns_line_wrong site before line.number line.fields fault is

as_wrong : (kind : LineKind) (site : Field) (before : List Reading) (line : Line) (fault : ConfFault) → line_as kind site before line ≡ Err fault → WrongAs kind site before line fault
unfolding value_reading
as_wrong kinds.Empty site before line fault is = fault_is MissingField fault is
as_wrong kinds.NoDirective site before line fault is = fault_is UnknownDirective fault is
as_wrong kinds.Ends site before line fault is = absurd cc
as_wrong (kinds.Within section) site before line fault is = within_wrong section site before line fault is
as_wrong kinds.Value site before line fault is = directive_wrong value_names no_words line.fields fault is
as_wrong (kinds.Begins section) site before line fault is = absurd cc
as_wrong kinds.Copy site before line fault is = copy_line_wrong before line.fields fault is
as_wrong kinds.Assignment site before line fault is = assign_line_wrong site before line.number line.fields fault is

pub line_wrong : (site : Field) (before : List Reading) (line : Line) (fault : ConfFault) → line_of site before line ≡ Err fault → LineWrong site before line fault
unfolding line_of
line_wrong site before line fault is =
    let kind = kind_of (opened_of before) line.fields in
    (kind, of_kind (opened_of before) line.fields, as_wrong kind site before line fault is)

-- ---- what is wrong is refused

copy_line_refused : (before : List Reading) (fields : List Field) (fault : ConfFault) → WrongCopy before fields fault → copy_reading before fields ≡ Err fault
copy_line_refused before [] fault is = rw is refl
copy_line_refused before (f ∷ fs) fault wrong = rw (copy_refused (target_of before) (copies_of before) (sets_of before) f fs fault wrong) refl

assign_line_refused : (site : Field) (before : List Reading) (number : ℕ) (fields : List Field) (fault : ConfFault) → WrongAssign before fields fault → assign_reading site before number fields ≡ Err fault
assign_line_refused site before number [] fault is = rw is refl
assign_line_refused site before number (f ∷ fs) fault wrong = assign_refused site before number f fs fault wrong

params_line_refused : (site : Field) (before : List Reading) (fields : List Field) (fault : ConfFault) → WrongParams site before fields fault → params_reading site before fields ≡ Err fault
params_line_refused site before [] fault is = rw is refl
params_line_refused site before (f ∷ fs) fault wrong = rw (params_refused site before f fs fault wrong) refl

vsns_line_refused : (site : Field) (before : List Reading) (number : ℕ) (fields : List Field) (fault : ConfFault) → WrongVsns site before number fields fault → vsns_reading site before number fields ≡ Err fault
vsns_line_refused site before number [] fault is = rw is refl
vsns_line_refused site before number (f ∷ fs) fault wrong = rw (vsns_refused site before number f fs fault wrong) refl

within_refused : (section : Section) (site : Field) (before : List Reading) (line : Line) (fault : ConfFault) → WrongWithin section site before line fault → within_reading section site before line ≡ Err fault
within_refused Params site before line fault wrong = params_line_refused site before line.fields fault wrong
within_refused VsnPools site before line fault wrong = rw (form_refused (pool_form line.number) line.fields fault wrong) refl
within_refused Vsns site before line fault wrong = vsns_line_refused site before line.number line.fields fault wrong

as_refused : (kind : LineKind) (site : Field) (before : List Reading) (line : Line) (fault : ConfFault) → WrongAs kind site before line fault → line_as kind site before line ≡ Err fault
unfolding value_reading
as_refused kinds.Empty site before line fault wrong = rw wrong refl
as_refused kinds.NoDirective site before line fault wrong = rw wrong refl
as_refused kinds.Ends site before line fault wrong = absurd wrong
as_refused (kinds.Within section) site before line fault wrong = within_refused section site before line fault wrong
as_refused kinds.Value site before line fault wrong = directive_refused value_names no_words line.fields fault wrong
as_refused (kinds.Begins section) site before line fault wrong = absurd wrong
as_refused kinds.Copy site before line fault wrong = copy_line_refused before line.fields fault wrong
as_refused kinds.Assignment site before line fault wrong = assign_line_refused site before line.number line.fields fault wrong

pub line_refused : (site : Field) (before : List Reading) (line : Line) (fault : ConfFault) → LineWrong site before line fault → line_of site before line ≡ Err fault
unfolding line_of
line_refused site before line fault (kind, is, wrong) = rw (kind_is (opened_of before) line.fields kind is) (as_refused kind site before line fault wrong)
