-- Reading lines whose directive may be barred, in steps.
use Rattle.std.specs.Prelude.{List, Option, Some, None, Err, option_and_then}
use Rattle.site_text.specs.declared.fault.ConfFault.{ConfFault}
use Rattle.site_text.specs.Fields.{Field, Read}
use Rattle.site_text.specs.ValueLines.{value_line}
use Rattle.site_text.specs.Directives.{FormTable}
use Rattle.site_text.specs.DirectiveSteps.{Lookup, read_by, read_directive}
use Rattle.daemon_cmds.specs.BarRules.{BarTable, barred}

abbrev pub unless_barred : {R : Type 0} → Option ConfFault → Read R → Read R
unless_barred (Some fault) read = Err fault
unless_barred None read = read

-- by tables
abbrev pub read_unless_barred : {R : Type 0} → BarTable → FormTable R → FormTable R → List Field → Read R
read_unless_barred bars names words fields = unless_barred (barred bars fields) (read_directive names words fields)

-- by lookups of the code's own
abbrev pub barred_by : (Field → Option ConfFault) → List Field → Option ConfFault
barred_by bars fields = option_and_then (λ line. bars line.0) (value_line fields)

abbrev pub read_unless_barred_by : {R : Type 0} → (Field → Option ConfFault) → Lookup R → Lookup R → List Field → Read R
read_unless_barred_by bars names words fields = unless_barred (barred_by bars fields) (read_by names words fields)
