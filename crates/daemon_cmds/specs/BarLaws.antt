-- The law of lines whose directive may be barred, which the readers cite: what is read from the left is what the line says, both ways.
use Rattle.std.proofs.Common.{◌≡◌, List, Option, Some, None, Ok, Err, refl, sym, ap, subst, ◌∙◌, inl, inr}
use Rattle.site_text.specs.declared.fault.ConfFault.{ConfFault}
use Rattle.site_text.specs.Fields.{Field, Read}
use Rattle.site_text.specs.Directives.{FormTable}
use Rattle.site_text.specs.DirectiveSteps.{read_directive}
use Rattle.site_text.proofs.FormLaws.{directive_said, directive_wrong, directive_read, directive_refused}
use Rattle.daemon_cmds.specs.BarRules.{BarTable, barred, MayStandAndSays, BarredOrWrong}
use Rattle.daemon_cmds.specs.BarSteps.{unless_barred, read_unless_barred}

-- a fault is nothing that was read
abbrev IsFault : {R : Type 0} → Read R → Type 0
IsFault (Ok x) = ⊥
IsFault (Err fault) = Unit {0}

pub fault_or_read : {A R : Type 0} (fault : ConfFault) (said : R) (read : Read R) → read ≡ Err fault → read ≡ Ok said → A
fault_or_read fault said read refused is = absurd (subst IsFault (sym refused ∙ is) tt)

abbrev fault_of : {R : Type 0} → Read R → Option ConfFault
fault_of (Ok x) = None
fault_of (Err fault) = Some fault

-- what is read is said by a directive that may stand
said_from : {R : Type 0} (bars : BarTable) (names words : FormTable R) (fields : List Field) (said : R) (bar : Option ConfFault) → barred bars fields ≡ bar
    → unless_barred bar (read_directive names words fields) ≡ Ok said → MayStandAndSays bars names words fields said
said_from bars names words fields said None stands is = record { stands = stands; says = directive_said names words fields said is }
said_from bars names words fields said (Some fault) stands is = fault_or_read fault said (unless_barred (Some fault) (read_directive names words fields)) refl is

pub barred_said : {R : Type 0} (bars : BarTable) (names words : FormTable R) (fields : List Field) (said : R)
    → read_unless_barred bars names words fields ≡ Ok said → MayStandAndSays bars names words fields said
barred_said bars names words fields said is = said_from bars names words fields said (barred bars fields) refl is

-- what is refused is barred or wrong
wrong_from : {R : Type 0} (bars : BarTable) (names words : FormTable R) (fields : List Field) (fault : ConfFault) (bar : Option ConfFault) → barred bars fields ≡ bar
    → unless_barred bar (read_directive names words fields) ≡ Err fault → BarredOrWrong bars names words fields fault
wrong_from bars names words fields fault None stands is = inr (stands, directive_wrong names words fields fault is)
wrong_from {R} bars names words fields fault (Some e) stands is = inl (stands ∙ ap (fault_of {R = R}) is)

pub barred_wrong : {R : Type 0} (bars : BarTable) (names words : FormTable R) (fields : List Field) (fault : ConfFault)
    → read_unless_barred bars names words fields ≡ Err fault → BarredOrWrong bars names words fields fault
barred_wrong bars names words fields fault is = wrong_from bars names words fields fault (barred bars fields) refl is

-- what a directive that may stand says is read
pub barred_read : {R : Type 0} (bars : BarTable) (names words : FormTable R) (fields : List Field) (said : R)
    → MayStandAndSays bars names words fields said → read_unless_barred bars names words fields ≡ Ok said
barred_read bars names words fields said says =
    ap (λ (bar : _). unless_barred bar (read_directive names words fields)) says.stands ∙ directive_read names words fields said says.says

-- what is barred or wrong is refused
pub barred_refused : {R : Type 0} (bars : BarTable) (names words : FormTable R) (fields : List Field) (fault : ConfFault)
    → BarredOrWrong bars names words fields fault → read_unless_barred bars names words fields ≡ Err fault
barred_refused bars names words fields fault (inl is) = ap (λ (bar : _). unless_barred bar (read_directive names words fields)) is
barred_refused bars names words fields fault (inr (stands, wrong)) =
    ap (λ (bar : _). unless_barred bar (read_directive names words fields)) stands ∙ directive_refused names words fields fault wrong
