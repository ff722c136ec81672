-- What archiver.cmd says as a whole.
use Rattle.std.specs.Prelude.{◌≡◌, ℕ, List, [], ◌∷◌, ◌++◌, codes, length, map, filter, flat_map, fold, Option, Some, None, Bool, false, ◌==◌, ◌&&◌, if◌then◌else◌, unwrap_or}
use Rattle.std.specs.List.{list_any}
use Rattle.std.specs.Option.{option_or}
use Rattle.std.specs.Str.{bytes_eq}
use Rattle.site_text.specs.Fields.{Field}
use Rattle.archiver_lines.specs.declared.reading.Reading.{Reading}
use Rattle.archiver_lines.specs.declared.reading.CopyConf.{CopyConf}
use Rattle.archiver_lines.specs.declared.reading.SetCopy.{SetCopy}
use Rattle.archiver_lines.specs.declared.reading.CopyName.{CopyName}
use Rattle.archiver_lines.specs.declared.reading.CopyName.TheVariants as names
use Rattle.archiver_lines.specs.declared.reading.VsnExpr.{VsnExpr}
use Rattle.archiver_lines.specs.declared.reading.VsnsLine.{VsnsLine}
use Rattle.archiver_cmd.specs.declared.conf.SetConf.{SetConf}
use Rattle.archiver_cmd.specs.declared.conf.VsnsGroup.{VsnsGroup}
use Rattle.archiver_cmd.specs.declared.conf.ArchiverConf.{ArchiverConf}
use Rattle.archiver_lines.specs.Names.{same_name}
use Rattle.archiver_lines.specs.CopyRules.{default_age}
use Rattle.archiver_lines.specs.Told.{with_set, assignments_of, sets_of, copies_of, params_of, vsns_of, has_vsns_of}

-- ---- sets and their copies

abbrev pub is_copy_of : Field → ℕ → SetCopy → Bool
is_copy_of set number line = bytes_eq line.set set && (line.conf.copy == number)

abbrev pub copies_numbered : List SetCopy → Field → ℕ → List CopyConf
copies_numbered copies set number = map (λ line. line.conf) (filter (is_copy_of set number) copies)

-- the copies that the lines of a set give, by their numbers
abbrev pub given_copies : List SetCopy → Field → List CopyConf
given_copies copies set = copies_numbered copies set 1 ++ copies_numbered copies set 2 ++ copies_numbered copies set 3 ++ copies_numbered copies set 4

-- copy 1 at the default age
abbrev pub default_copy : CopyConf
default_copy = record { copy = 1; age = default_age; unage = None; release = false; norelease = false }

-- the copies of a set: none of `no_archive`; those that its lines give; or else the default one
abbrev pub set_copies : List SetCopy → Field → List CopyConf
set_copies copies set =
    if bytes_eq set (codes "no_archive") then []
    else if length (given_copies copies set) == 0 then default_copy ∷ []
    else given_copies copies set

abbrev pub set_conf : List SetCopy → Field → SetConf
set_conf copies set = record { name = set; copies = set_copies copies set }

-- the sets in the order of their first mention, and last that of the site's file system, where no line mentions it
abbrev pub set_confs : Field → List Reading → List SetConf
set_confs site said = map (set_conf (copies_of said)) (with_set (sets_of said) site)

-- ---- expressions

-- those of all lines of a name
abbrev pub exprs_under : List VsnsLine → CopyName → List VsnExpr
exprs_under lines name = flat_map (λ l. if same_name l.name name then l.exprs else []) lines

-- a name behind others, where it is none of them
abbrev pub with_name : List CopyName → CopyName → List CopyName
with_name names name = if list_any (λ n. same_name n name) names then names else names ++ name ∷ []

-- the names of some lines, each once, in the order of the first line of each
abbrev pub names_of : List VsnsLine → List CopyName
names_of lines = fold with_name [] (map (λ l. l.name) lines)

abbrev pub group_of : List VsnsLine → CopyName → VsnsGroup
group_of lines name = record { name = name; exprs = exprs_under lines name }

-- each name with the expressions of all its lines
abbrev pub groups_of : List VsnsLine → List VsnsGroup
groups_of lines = map (group_of lines) (names_of lines)

-- those of the group of a name, if there is one
abbrev pub exprs_in : List VsnsGroup → CopyName → Option (List VsnExpr)
exprs_in [] name = None
exprs_in (g ∷ groups) name = if same_name g.name name then Some g.exprs else exprs_in groups name

-- those for a copy of a set: of `SET.N`, else of `allsets.N`, else of `allsets`
abbrev pub exprs_for : List VsnsGroup → Field → ℕ → List VsnExpr
exprs_for groups set copy = unwrap_or (option_or (exprs_in groups (names.SetCopy set copy)) (option_or (exprs_in groups (names.AllSetsCopy copy)) (exprs_in groups names.AllSets))) []

-- ---- the configuration that readings tell

abbrev pub conf_told : Field → List Reading → ArchiverConf
conf_told site said = record {
  assignments = assignments_of said;
  sets = set_confs site said;
  params = params_of said;
  vsns = groups_of (vsns_of said);
  has_vsns = has_vsns_of said;
}

abbrev pub Tells : Field → List Reading → ArchiverConf → Type 0
Tells site said conf = conf ≡ conf_told site said
