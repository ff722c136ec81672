-- Lines of archiver.cmd, read from the left.
use Rattle.std.specs.Prelude.{ℕ, List, [], ◌∷◌, length, Ok, Err}
use Rattle.site_text.specs.declared.line.Line.{Line}
use Rattle.site_text.specs.declared.fault.ConfFault.TheVariants.{UnknownDirective, MissingField}
use Rattle.site_text.specs.Fields.{Field, Read, ◌>>=◌}
use Rattle.archiver_lines.specs.declared.kinds.LineKind.{LineKind}
use Rattle.archiver_lines.specs.declared.kinds.LineKind.TheVariants as kinds
use Rattle.archiver_lines.specs.declared.reading.Reading.{Reading}
use Rattle.archiver_lines.specs.declared.reading.Reading.TheVariants as readings
use Rattle.archiver_lines.specs.declared.reading.Section.{Section}
use Rattle.archiver_lines.specs.declared.reading.Section.TheVariants.{Params, VsnPools, Vsns}
use Rattle.site_text.specs.FormSteps.{read_form}
use Rattle.archiver_lines.specs.Told.{opened_of, file_systems_of, part_of, target_of, sets_of, assignments_of, copies_of, params_of, pools_of, exprs_of}
use Rattle.archiver_lines.specs.KindSteps.{kind_of}
use Rattle.archiver_lines.specs.CopySteps.{copy_line}
use Rattle.archiver_lines.specs.AssignmentSteps.{assign_line}
use Rattle.archiver_lines.specs.SectionRules.{pool_form}
use Rattle.archiver_lines.specs.SectionSteps.{params_line, vsns_line}
use Rattle.archiver_lines.specs.ValueSteps.{value_reading}

abbrev pub copy_reading : List Reading → List Field → Read Reading
copy_reading before [] = Err MissingField
copy_reading before (field ∷ fields) = copy_line (target_of before) (copies_of before) (sets_of before) field fields >>= λ line. Ok (readings.Copy line)

abbrev pub assign_reading : Field → List Reading → ℕ → List Field → Read Reading
assign_reading site before number [] = Err MissingField
assign_reading site before number (field ∷ fields) = assign_line (part_of site before) (length (assignments_of before)) (sets_of before) number field fields

abbrev pub params_reading : Field → List Reading → List Field → Read Reading
params_reading site before [] = Err MissingField
params_reading site before (field ∷ fields) = params_line site (file_systems_of before) (sets_of before) (params_of before) field fields >>= λ line. Ok (readings.Params line)

abbrev pub pool_reading : ℕ → List Field → Read Reading
pool_reading number fields = read_form (pool_form number) fields >>= λ line. Ok (readings.Pool line)

abbrev pub vsns_reading : Field → List Reading → ℕ → List Field → Read Reading
vsns_reading site before number [] = Err MissingField
vsns_reading site before number (field ∷ fields) = vsns_line site (file_systems_of before) (sets_of before) (pools_of before) (length (exprs_of before)) number field fields >>= λ line. Ok (readings.Vsns line)

abbrev pub within_reading : Section → Field → List Reading → Line → Read Reading
within_reading Params site before line = params_reading site before line.fields
within_reading VsnPools site before line = pool_reading line.number line.fields
within_reading Vsns site before line = vsns_reading site before line.number line.fields

-- what a line of this kind says
abbrev pub line_as : LineKind → Field → List Reading → Line → Read Reading
line_as kinds.Empty site before line = Err MissingField
line_as kinds.NoDirective site before line = Err UnknownDirective
line_as kinds.Ends site before line = Ok readings.Closes
line_as (kinds.Within section) site before line = within_reading section site before line
line_as kinds.Value site before line = value_reading line.fields
line_as (kinds.Begins section) site before line = Ok (readings.Opens (record { section = section; line = line.number }))
line_as kinds.Copy site before line = copy_reading before line.fields
line_as kinds.Assignment site before line = assign_reading site before line.number line.fields

-- what a line says
unfoldable pub line_of : Field → List Reading → Line → Read Reading
line_of site before line = line_as (kind_of (opened_of before) line.fields) site before line
