-- Lines of sections, read from the left.
use Rattle.std.specs.Prelude.{ℕ, ◌+◌, List, [], ◌∷◌, ◌++◌, codes, length, Ok, Err, ◌==◌, not, nat_lt, if◌then◌else◌}
use Rattle.std.specs.Str.{bytes_eq}
use Rattle.site_text.specs.declared.fault.ConfFault.TheVariants.{MissingField, BadValue, UnknownPool, TooMany}
use Rattle.site_text.specs.Fields.{Field, Read, ◌>>=◌, refuse_if, next_field}
use Rattle.site_text.specs.Values.{is_media}
use Rattle.archiver_lines.specs.declared.reading.ParamsLine.{ParamsLine}
use Rattle.archiver_lines.specs.declared.reading.VsnExpr.{VsnExpr}
use Rattle.archiver_lines.specs.declared.reading.VsnsLine.{VsnsLine}
use Rattle.site_text.specs.OptionSteps.{options_of}
use Rattle.archiver_lines.specs.declared.reading.PoolLine.{PoolLine}
use Rattle.archiver_lines.specs.Limits.{most_exprs}
use Rattle.archiver_lines.specs.NameSteps.{copy_name}
use Rattle.archiver_lines.specs.SectionRules.{expr_of, pool_exprs, is_pool, exprs_count}
use Rattle.archiver_lines.specs.ParamOptions.{params_table}

-- `NAME` and options, behind these lines
unfoldable pub params_line : Field → List Field → List Field → List ParamsLine → Field → List Field → Read ParamsLine
params_line site file_systems sets lines field fields = do
  name ← copy_name site file_systems sets field
  given ← options_of (params_table lines name) [] fields
  Ok (record { name = name; given = given })

-- the same, read from the left, behind expressions that are there
unfoldable pub items_of : List PoolLine → Field → ℕ → List VsnExpr → List Field → Read (List VsnExpr)
items_of pools media line found [] = Ok found
items_of pools media line found (field ∷ []) = if bytes_eq field (codes "-pool")
    then Err MissingField
    else Ok (found ++ expr_of media line field ∷ [])
items_of pools media line found (field ∷ next ∷ fields) = if bytes_eq field (codes "-pool")
    then (if is_pool pools next then items_of pools media line (found ++ pool_exprs pools media next) fields else Err UnknownPool)
    else items_of pools media line (found ++ expr_of media line field ∷ []) (next ∷ fields)

-- `NAME MEDIA` and one or more items, behind lines with so many expressions
unfoldable pub vsns_line : Field → List Field → List Field → List PoolLine → ℕ → ℕ → Field → List Field → Read VsnsLine
vsns_line site file_systems sets pools before number field fields = do
  name ← copy_name site file_systems sets field
  fits ← refuse_if (nat_lt most_exprs (before + exprs_count pools fields)) TooMany
  media ← next_field fields
  legal ← refuse_if (not (is_media media.0)) BadValue
  items ← refuse_if (length media.1 == 0) MissingField
  exprs ← items_of pools media.0 number [] media.1
  Ok (record { name = name; exprs = exprs })
