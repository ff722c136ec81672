-- Lines of archiver.cmd: what one says, and what is wrong with one, behind lines that said something.
use Rattle.std.specs.Prelude.{◌≡◌, ℕ, List, [], ◌∷◌}
use Rattle.site_text.specs.declared.line.Line.{Line}
use Rattle.site_text.specs.declared.fault.ConfFault.{ConfFault}
use Rattle.site_text.specs.declared.fault.ConfFault.TheVariants.{UnknownDirective, MissingField}
use Rattle.site_text.specs.Fields.{Field}
use Rattle.site_text.specs.FormRules.{FormSays, FormWrong}
use Rattle.site_text.specs.Directives.{no_words}
use Rattle.site_text.specs.DirectiveRules.{DirectiveSays, DirectiveWrong}
use Rattle.archiver_lines.specs.declared.kinds.LineKind.{LineKind}
use Rattle.archiver_lines.specs.declared.kinds.LineKind.TheVariants as kinds
use Rattle.archiver_lines.specs.declared.reading.Reading.{Reading}
use Rattle.archiver_lines.specs.declared.reading.Reading.TheVariants as readings
use Rattle.archiver_lines.specs.declared.reading.Section.{Section}
use Rattle.archiver_lines.specs.declared.reading.Section.TheVariants.{Params, VsnPools, Vsns}
use Rattle.archiver_lines.specs.Told.{opened_of, target_of, sets_of, copies_of}
use Rattle.archiver_lines.specs.KindRules.{IsOfKind}
use Rattle.archiver_lines.specs.CopyRules.{CopySays, CopyWrong}
use Rattle.archiver_lines.specs.AssignmentRules.{AssignmentSays, AssignmentWrong}
use Rattle.archiver_lines.specs.SectionRules.{ParamsSays, ParamsWrong, pool_form, VsnsSays, VsnsWrong}
use Rattle.archiver_lines.specs.ValueForms.{value_names}

-- ---- what a line says

-- what the fields of a line say, taken as a copy line and so on
abbrev pub SaysCopy : List Reading → List Field → Reading → Type 0
SaysCopy before (field ∷ fields) (readings.Copy line) = CopySays (target_of before) (copies_of before) (sets_of before) field fields line
SaysCopy before fields said = ⊥

abbrev pub SaysAssign : Field → List Reading → ℕ → List Field → Reading → Type 0
SaysAssign site before number (field ∷ fields) said = AssignmentSays site before number field fields said
SaysAssign site before number [] said = ⊥

abbrev pub SaysParams : Field → List Reading → List Field → Reading → Type 0
SaysParams site before (field ∷ fields) (readings.Params line) = ParamsSays site before field fields line
SaysParams site before fields said = ⊥

abbrev pub SaysPool : ℕ → List Field → Reading → Type 0
SaysPool number fields (readings.Pool line) = FormSays (pool_form number) fields line
SaysPool number fields said = ⊥

abbrev pub SaysVsns : Field → List Reading → ℕ → List Field → Reading → Type 0
SaysVsns site before number (field ∷ fields) (readings.Vsns line) = VsnsSays site before number field fields line
SaysVsns site before number fields said = ⊥

abbrev pub SaysWithin : Section → Field → List Reading → Line → Reading → Type 0
SaysWithin Params site before line said = SaysParams site before line.fields said
SaysWithin VsnPools site before line said = SaysPool line.number line.fields said
SaysWithin Vsns site before line said = SaysVsns site before line.number line.fields said

-- what a line of this kind says
abbrev pub SaysAs : LineKind → Field → List Reading → Line → Reading → Type 0
SaysAs kinds.Empty site before line said = ⊥
SaysAs kinds.NoDirective site before line said = ⊥
SaysAs kinds.Ends site before line said = said ≡ readings.Closes
SaysAs (kinds.Within section) site before line said = SaysWithin section site before line said
SaysAs kinds.Value site before line said = DirectiveSays value_names no_words line.fields said
SaysAs (kinds.Begins section) site before line said = said ≡ readings.Opens (record { section = section; line = line.number })
SaysAs kinds.Copy site before line said = SaysCopy before line.fields said
SaysAs kinds.Assignment site before line said = SaysAssign site before line.number line.fields said

-- The line says this, after lines that said those before it.
abbrev pub LineSays : Field → List Reading → Line → Reading → Type 0
LineSays site before line said = (kind : LineKind) × IsOfKind (opened_of before) line.fields kind × SaysAs kind site before line said

-- ---- what is wrong with one

-- what is wrong with the fields of a line, taken as a copy line and so on
abbrev pub WrongCopy : List Reading → List Field → ConfFault → Type 0
WrongCopy before [] fault = fault ≡ MissingField
WrongCopy before (field ∷ fields) fault = CopyWrong (target_of before) (copies_of before) (sets_of before) field fields fault

abbrev pub WrongAssign : List Reading → List Field → ConfFault → Type 0
WrongAssign before [] fault = fault ≡ MissingField
WrongAssign before (field ∷ fields) fault = AssignmentWrong before field fields fault

abbrev pub WrongParams : Field → List Reading → List Field → ConfFault → Type 0
WrongParams site before [] fault = fault ≡ MissingField
WrongParams site before (field ∷ fields) fault = ParamsWrong site before field fields fault

abbrev pub WrongVsns : Field → List Reading → ℕ → List Field → ConfFault → Type 0
WrongVsns site before number [] fault = fault ≡ MissingField
WrongVsns site before number (field ∷ fields) fault = VsnsWrong site before number field fields fault

abbrev pub WrongWithin : Section → Field → List Reading → Line → ConfFault → Type 0
WrongWithin Params site before line fault = WrongParams site before line.fields fault
WrongWithin VsnPools site before line fault = FormWrong (pool_form line.number) line.fields fault
WrongWithin Vsns site before line fault = WrongVsns site before line.number line.fields fault

-- what is wrong with a line of this kind
abbrev pub WrongAs : LineKind → Field → List Reading → Line → ConfFault → Type 0
WrongAs kinds.Empty site before line fault = fault ≡ MissingField
WrongAs kinds.NoDirective site before line fault = fault ≡ UnknownDirective
WrongAs kinds.Ends site before line fault = ⊥
WrongAs (kinds.Within section) site before line fault = WrongWithin section site before line fault
WrongAs kinds.Value site before line fault = DirectiveWrong value_names no_words line.fields fault
WrongAs (kinds.Begins section) site before line fault = ⊥
WrongAs kinds.Copy site before line fault = WrongCopy before line.fields fault
WrongAs kinds.Assignment site before line fault = WrongAssign before line.fields fault

-- This is wrong with the line, after lines that said those before it: with the first field that is wrong.
abbrev pub LineWrong : Field → List Reading → Line → ConfFault → Type 0
LineWrong site before line fault = (kind : LineKind) × IsOfKind (opened_of before) line.fields kind × WrongAs kind site before line fault
