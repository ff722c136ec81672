-- Lines whose directive may not stand where it does, whatever its values are.
use Rattle.std.specs.Prelude.{◌≡◌, List, Option, Some, None, Bool, true, false, ◌⊎◌, option_and_then}
use Rattle.site_text.specs.declared.fault.ConfFault.{ConfFault}
use Rattle.site_text.specs.Fields.{Field}
use Rattle.site_text.specs.Words.{named}
use Rattle.site_text.specs.ValueLines.{value_line}
use Rattle.site_text.specs.Directives.{FormTable}
use Rattle.site_text.specs.DirectiveRules.{DirectiveSays, DirectiveWrong}

-- a table of names, each with the fault for which it may not stand here, if so
abbrev pub BarTable : Type 0
BarTable = List (Field × Option ConfFault)

-- this fault where the test holds
abbrev pub if_so : Bool → ConfFault → Option ConfFault
if_so true fault = Some fault
if_so false fault = None

abbrev pub given_fault : Option (Option ConfFault) → Option ConfFault
given_fault (Some fault) = fault
given_fault None = None

-- why the name of this value line may not stand here, if so
abbrev pub barred : BarTable → List Field → Option ConfFault
barred bars fields = option_and_then (λ line. given_fault (named bars line.0)) (value_line fields)

-- The line begins with a directive that may stand here, and its values say this by its form.
pub record MayStandAndSays {R : Type 0} (bars : BarTable) (names words : FormTable R) (fields : List Field) (said : R) : Type 0 where
  pub stands : barred bars fields ≡ None
  pub says : DirectiveSays names words fields said

-- Its directive may not stand here; or it may, and the line begins with none or its values are not of the form.
abbrev pub BarredOrWrong : {R : Type 0} → BarTable → FormTable R → FormTable R → List Field → ConfFault → Type 0
BarredOrWrong bars names words fields fault = (barred bars fields ≡ Some fault)
    ⊎ ((barred bars fields ≡ None) × DirectiveWrong names words fields fault)
