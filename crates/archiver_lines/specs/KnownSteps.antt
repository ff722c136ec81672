-- What the reader keeps of the lines so far, and how one more line changes it.
use Rattle.std.specs.Prelude.{◌≡◌, ℕ, ◌+◌, List, [], ◌∷◌, ◌++◌, length, Option, Some, None, ◌||◌, unwrap_or}
use Rattle.archiver_lines.specs.declared.known.Known.{Known}
use Rattle.site_text.specs.Fields.{Field}
use Rattle.archiver_lines.specs.declared.reading.Reading.{Reading}
use Rattle.archiver_lines.specs.declared.reading.VsnsLine.{VsnsLine}
use Rattle.std.specs.Option.{option_or, option_map_or}
use Rattle.archiver_lines.specs.Told.{part_named, opened_by, opened_of, file_system_in, file_systems_of, part_of, target_in, target_of, mentioned_in, with_set, sets_of, assignment_in, assignments_of, copy_in, copies_of, params_in, params_of, pool_in, pools_of, vsns_in, vsns_of, exprs_of, begins_vsns, has_vsns_of}

-- It keeps what the lines told that said these.
pub record Knows (site : Field) (said : List Reading) (known : Known) : Type 0 where
  pub opened : known.opened ≡ opened_of said
  pub local : known.local ≡ part_of site said
  pub file_systems : known.file_systems ≡ file_systems_of said
  pub target : known.target ≡ target_of said
  pub assignments : known.assignments ≡ assignments_of said
  pub sets : known.sets ≡ sets_of said
  pub copies : known.copies ≡ copies_of said
  pub params : known.params ≡ params_of said
  pub pools : known.pools ≡ pools_of said
  pub vsns : known.vsns ≡ vsns_of said
  pub exprs : known.exprs ≡ length (exprs_of said)
  pub has_vsns : known.has_vsns ≡ has_vsns_of said

-- what a line may say, behind others
abbrev pub with_each : {A : Type 0} → List A → Option A → List A
with_each items (Some item) = items ++ item ∷ []
with_each items None = items

abbrev pub with_mentioned : List Field → Option Field → List Field
with_mentioned sets (Some name) = with_set sets name
with_mentioned sets None = sets

abbrev pub exprs_in : Option VsnsLine → ℕ
exprs_in (Some line) = length line.exprs
exprs_in None = 0

-- a line that said this was added
pub record IsAdded (site : Field) (r : Reading) (before now : Known) : Type 0 where
  pub opened : now.opened ≡ unwrap_or (opened_by r) before.opened
  pub local : now.local ≡ option_map_or (part_named site) (file_system_in r) before.local
  pub file_systems : now.file_systems ≡ with_each before.file_systems (file_system_in r)
  pub target : now.target ≡ option_or (target_in r) before.target
  pub assignments : now.assignments ≡ with_each before.assignments (assignment_in r)
  pub sets : now.sets ≡ with_mentioned before.sets (mentioned_in r)
  pub copies : now.copies ≡ with_each before.copies (copy_in r)
  pub params : now.params ≡ with_each before.params (params_in r)
  pub pools : now.pools ≡ with_each before.pools (pool_in r)
  pub vsns : now.vsns ≡ with_each before.vsns (vsns_in r)
  pub exprs : now.exprs ≡ before.exprs + exprs_in (vsns_in r)
  pub has_vsns : now.has_vsns ≡ (before.has_vsns || begins_vsns r)
