-- Which options of params hold for a copy of a set.
use Rattle.std.specs.Prelude.{◌≡◌, ℕ, List, [], flat_map, fold, Option, Some, None, Bool, true, false, ◌||◌, if◌then◌else◌}
use Rattle.site_text.specs.Fields.{Field}
use Rattle.archiver_lines.specs.declared.param_options.Given.{Given}
use Rattle.archiver_lines.specs.declared.param_options.Given.TheVariants as given
use Rattle.archiver_lines.specs.declared.param_options.Join.{Join}
use Rattle.archiver_lines.specs.declared.param_options.Sort.{Sort}
use Rattle.archiver_lines.specs.declared.param_options.Unarchage.{Unarchage}
use Rattle.archiver_lines.specs.declared.param_options.ReservePart.{ReservePart}
use Rattle.archiver_lines.specs.declared.param_options.ReservePart.TheVariants as parts
use Rattle.archiver_cmd.specs.declared.params.Reserve.{Reserve}
use Rattle.archiver_cmd.specs.declared.params.Params.{Params}
use Rattle.archiver_lines.specs.declared.reading.ParamsLine.{ParamsLine}
use Rattle.archiver_lines.specs.declared.reading.CopyName.{CopyName}
use Rattle.archiver_lines.specs.declared.reading.CopyName.TheVariants.{AllSets, AllSetsCopy, SetCopy}
use Rattle.archiver_lines.specs.Names.{same_name}
use Rattle.site_text.specs.LastValues.{last_of}
use Rattle.std.specs.List.{list_any}
use Rattle.std.specs.Option.{option_or}

-- ---- what each option says

abbrev pub archmax_in : Given → Option ℕ
archmax_in (given.Archmax n) = Some n
archmax_in g = None

abbrev pub join_in : Given → Option Join
join_in (given.Join w) = Some w
join_in g = None

abbrev pub sort_in : Given → Option Sort
sort_in (given.Sort w) = Some w
sort_in g = None

abbrev pub ovflmin_in : Given → Option ℕ
ovflmin_in (given.Ovflmin n) = Some n
ovflmin_in g = None

abbrev pub startage_in : Given → Option ℕ
startage_in (given.Startage n) = Some n
startage_in g = None

abbrev pub startcount_in : Given → Option ℕ
startcount_in (given.Startcount n) = Some n
startcount_in g = None

abbrev pub startsize_in : Given → Option ℕ
startsize_in (given.Startsize n) = Some n
startsize_in g = None

abbrev pub unarchage_in : Given → Option Unarchage
unarchage_in (given.Unarchage w) = Some w
unarchage_in g = None

abbrev pub recycle_hwm_in : Given → Option ℕ
recycle_hwm_in (given.RecycleHwm n) = Some n
recycle_hwm_in g = None

abbrev pub recycle_mingain_in : Given → Option ℕ
recycle_mingain_in (given.RecycleMingain n) = Some n
recycle_mingain_in g = None

abbrev pub recycle_vsncount_in : Given → Option ℕ
recycle_vsncount_in (given.RecycleVsncount n) = Some n
recycle_vsncount_in g = None

abbrev pub recycle_dataquantity_in : Given → Option ℕ
recycle_dataquantity_in (given.RecycleDataquantity n) = Some n
recycle_dataquantity_in g = None

abbrev pub is_fillvsns : Given → Bool
is_fillvsns given.Fillvsns = true
is_fillvsns g = false

abbrev pub is_recycle_ignore : Given → Bool
is_recycle_ignore given.RecycleIgnore = true
is_recycle_ignore g = false

abbrev pub reserve_in : Given → Option ReservePart
reserve_in (given.Reserve part) = Some part
reserve_in g = None

-- ---- a reservation, of which each use adds a part

abbrev pub no_reserve : Reserve
no_reserve = record { set = false; owner = None; fs = false }

abbrev pub add_part : Reserve → ReservePart → Reserve
add_part r parts.Set = record { set = true; owner = r.owner; fs = r.fs }
add_part r (parts.Owner owner) = record { set = r.set; owner = Some owner; fs = r.fs }
add_part r parts.Fs = record { set = r.set; owner = r.owner; fs = true }

abbrev pub with_reserve : Option Reserve → ReservePart → Reserve
with_reserve None part = add_part no_reserve part
with_reserve (Some r) part = add_part r part

abbrev pub reserve_with : Option Reserve → Option ReservePart → Option Reserve
reserve_with found None = found
reserve_with found (Some part) = Some (with_reserve found part)

abbrev pub reserve_after : Option Reserve → List Given → Option Reserve
reserve_after before gs = fold (λ found g. reserve_with found (reserve_in g)) before gs

-- ---- the options of a name, and which hold

-- all that the lines of a name give, in order
abbrev pub given_for : CopyName → List ParamsLine → List Given
given_for name lines = flat_map (λ l. if same_name l.name name then l.given else []) lines

-- An option is looked up by itself: under `SET.N`, then `allsets.N`, then `allsets`. Of one given twice for a name the last holds.
abbrev pub looked_up : {A : Type 0} → (Given → Option A) → List ParamsLine → Field → ℕ → Option A
looked_up says lines set copy = option_or (last_of says (given_for (SetCopy set copy) lines))
    (option_or (last_of says (given_for (AllSetsCopy copy) lines)) (last_of says (given_for AllSets lines)))

-- the same of an option without a value: it is given under one of the names
abbrev pub stands : (Given → Bool) → List ParamsLine → Field → ℕ → Bool
stands is lines set copy = list_any is (given_for (SetCopy set copy) lines)
    || (list_any is (given_for (AllSetsCopy copy) lines) || list_any is (given_for AllSets lines))

-- the same of a reservation, whose parts are those of one name
abbrev pub reserve_for : List ParamsLine → Field → ℕ → Option Reserve
reserve_for lines set copy = option_or (reserve_after None (given_for (SetCopy set copy) lines))
    (option_or (reserve_after None (given_for (AllSetsCopy copy) lines)) (reserve_after None (given_for AllSets lines)))

-- the options for a copy of a set
pub record AreParams (lines : List ParamsLine) (set : Field) (copy : ℕ) (params : Params) : Type 0 where
  pub archmax : params.archmax ≡ looked_up archmax_in lines set copy
  pub fillvsns : params.fillvsns ≡ stands is_fillvsns lines set copy
  pub join : params.join ≡ looked_up join_in lines set copy
  pub sort : params.sort ≡ looked_up sort_in lines set copy
  pub reserve : params.reserve ≡ reserve_for lines set copy
  pub ovflmin : params.ovflmin ≡ looked_up ovflmin_in lines set copy
  pub startage : params.startage ≡ looked_up startage_in lines set copy
  pub startcount : params.startcount ≡ looked_up startcount_in lines set copy
  pub startsize : params.startsize ≡ looked_up startsize_in lines set copy
  pub unarchage : params.unarchage ≡ looked_up unarchage_in lines set copy
  pub recycle_hwm : params.recycle_hwm ≡ looked_up recycle_hwm_in lines set copy
  pub recycle_mingain : params.recycle_mingain ≡ looked_up recycle_mingain_in lines set copy
  pub recycle_vsncount : params.recycle_vsncount ≡ looked_up recycle_vsncount_in lines set copy
  pub recycle_dataquantity : params.recycle_dataquantity ≡ looked_up recycle_dataquantity_in lines set copy
  pub recycle_ignore : params.recycle_ignore ≡ stands is_recycle_ignore lines set copy
