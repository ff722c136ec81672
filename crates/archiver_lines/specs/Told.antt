-- What the lines so far told, by what each of them said, in the order of the file.
use Rattle.std.specs.Prelude.{ℕ, List, [], ◌∷◌, ◌++◌, flat_map, fold, Option, Some, None, Bool, true, false, if◌then◌else◌, option_map, unwrap_or}
use Rattle.std.specs.List.{list_any}
use Rattle.std.specs.Option.{option_map_or}
use Rattle.std.specs.Str.{bytes_eq}
use Rattle.site_text.specs.Fields.{Field}
use Rattle.archiver_lines.specs.declared.reading.Reading.{Reading}
use Rattle.archiver_lines.specs.declared.reading.Reading.TheVariants.{FileSystem, Assign, Copy, Opens, Closes, Params, Pool, Vsns}
use Rattle.archiver_lines.specs.declared.reading.Local.{Local}
use Rattle.archiver_lines.specs.declared.reading.Local.TheVariants.{Global, Site, Elsewhere}
use Rattle.archiver_lines.specs.declared.reading.Assignment.{Assignment}
use Rattle.archiver_lines.specs.declared.reading.SetCopy.{SetCopy}
use Rattle.archiver_lines.specs.declared.reading.ParamsLine.{ParamsLine}
use Rattle.archiver_lines.specs.declared.reading.PoolLine.{PoolLine}
use Rattle.archiver_lines.specs.declared.reading.VsnsLine.{VsnsLine}
use Rattle.archiver_lines.specs.declared.reading.Opened.{Opened}
use Rattle.archiver_lines.specs.declared.reading.Section.{Section}
use Rattle.archiver_lines.specs.declared.reading.Section.TheVariants as sections
use Rattle.archiver_lines.specs.declared.reading.VsnExpr.{VsnExpr}
use Rattle.site_text.specs.LastValues.{all_of, last_of}
use Rattle.archiver_lines.specs.Names.{is_in}

-- ---- sections

-- the section that a line leaves open, where it begins or ends one
abbrev pub opened_by : Reading → Option (Option Opened)
opened_by (Opens opened) = Some (Some opened)
opened_by Closes = Some None
opened_by r = None

-- the section that is open: the last line that begins or ends one tells it
abbrev pub opened_of : List Reading → Option Opened
opened_of said = unwrap_or (last_of opened_by said) None

-- the line on which it began
abbrev pub open_line : List Reading → Option ℕ
open_line said = option_map (λ opened. opened.line) (opened_of said)

-- ---- file systems

abbrev pub file_system_in : Reading → Option Field
file_system_in (FileSystem name) = Some name
file_system_in r = None

abbrev pub file_systems_of : List Reading → List Field
file_systems_of said = all_of file_system_in said

-- the part of a file system
abbrev pub part_named : Field → Field → Local
part_named site name = if bytes_eq name site then Site else Elsewhere

-- in whose part the next line stands: that of the last `fs =`
abbrev pub part_of : Field → List Reading → Local
part_of site said = option_map_or (part_named site) (last_of file_system_in said) Global

-- ---- sets

-- the set to which copy lines behind this line belong
abbrev pub target_in : Reading → Option Field
target_in (Assign a) = Some a.set
target_in (FileSystem name) = Some name
target_in r = None

-- the set to which a copy line would belong: that of the nearest assignment or `fs =` above
abbrev pub target_of : List Reading → Option Field
target_of said = last_of target_in said

-- the set that a line mentions
abbrev pub mentioned_in : Reading → Option Field
mentioned_in (Assign a) = Some a.set
mentioned_in (Copy line) = Some line.set
mentioned_in r = None

-- a name behind others, where it is none of them
abbrev pub with_set : List Field → Field → List Field
with_set sets name = if is_in sets name then sets else sets ++ name ∷ []

-- the sets, each once, in the order of their first mention by an assignment or a copy line
abbrev pub sets_of : List Reading → List Field
sets_of said = fold with_set [] (all_of mentioned_in said)

-- ---- lines of one kind, in the order of the file

abbrev pub assignment_in : Reading → Option Assignment
assignment_in (Assign a) = Some a
assignment_in r = None

abbrev pub assignments_of : List Reading → List Assignment
assignments_of said = all_of assignment_in said

abbrev pub copy_in : Reading → Option SetCopy
copy_in (Copy line) = Some line
copy_in r = None

abbrev pub copies_of : List Reading → List SetCopy
copies_of said = all_of copy_in said

abbrev pub params_in : Reading → Option ParamsLine
params_in (Params line) = Some line
params_in r = None

abbrev pub params_of : List Reading → List ParamsLine
params_of said = all_of params_in said

abbrev pub pool_in : Reading → Option PoolLine
pool_in (Pool line) = Some line
pool_in r = None

abbrev pub pools_of : List Reading → List PoolLine
pools_of said = all_of pool_in said

abbrev pub vsns_in : Reading → Option VsnsLine
vsns_in (Vsns line) = Some line
vsns_in r = None

abbrev pub vsns_of : List Reading → List VsnsLine
vsns_of said = all_of vsns_in said

-- the expressions of all vsns lines
abbrev pub exprs_of : List Reading → List VsnExpr
exprs_of said = flat_map (λ line. line.exprs) (vsns_of said)

-- it begins a vsns section
abbrev pub begins_vsns : Reading → Bool
begins_vsns (Opens opened) = is_vsns opened.section
  where
    is_vsns : Section → Bool
    is_vsns sections.Vsns = true
    is_vsns section = false
begins_vsns r = false

-- there was a vsns section
abbrev pub has_vsns_of : List Reading → Bool
has_vsns_of said = list_any begins_vsns said
