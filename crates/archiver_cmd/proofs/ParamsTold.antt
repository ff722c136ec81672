-- Options of params that are told one after the other.
use Rattle.std.proofs.Common.{◌≡◌, ℕ, Bool, true, false, List, [], ◌∷◌, ◌++◌, refl, sym, subst, ◌∙◌, fold}
use Rattle.std.specs.Prelude.{◌||◌}
use Rattle.std.specs.List.{filter_map, last_or, list_any}
use Rattle.std.proofs.lemmas.List.Sums.{fold-append}
use Rattle.site_text.specs.Fields.{Field}
use Rattle.archiver_lines.specs.declared.param_options.Given.{Given}
use Rattle.archiver_lines.specs.declared.param_options.Given.TheVariants as given
use Rattle.archiver_cmd.specs.declared.params.Params.{Params}
use Rattle.archiver_lines.specs.declared.reading.ParamsLine.{ParamsLine}
use Rattle.archiver_lines.specs.declared.reading.CopyName.{CopyName}
use Rattle.archiver_lines.specs.declared.reading.CopyName.TheVariants.{AllSets, AllSetsCopy, SetCopy}
use Rattle.archiver_cmd.specs.Params.{archmax_in, join_in, sort_in, ovflmin_in, startage_in, startcount_in, startsize_in, unarchage_in, recycle_hwm_in, recycle_mingain_in, recycle_vsncount_in, recycle_dataquantity_in, is_fillvsns, is_recycle_ignore, reserve_after, given_for, AreParams}
use Rattle.archiver_cmd.specs.ParamsSteps.{no_params, with_param, params_named, over}

-- the last of each option, behind what was given before
abbrev behind : Params → List Given → Params
behind p gs = record {
  archmax = last_or p.archmax (filter_map archmax_in gs);
  fillvsns = list_any is_fillvsns gs || p.fillvsns;
  join = last_or p.join (filter_map join_in gs);
  sort = last_or p.sort (filter_map sort_in gs);
  reserve = reserve_after p.reserve gs;
  ovflmin = last_or p.ovflmin (filter_map ovflmin_in gs);
  startage = last_or p.startage (filter_map startage_in gs);
  startcount = last_or p.startcount (filter_map startcount_in gs);
  startsize = last_or p.startsize (filter_map startsize_in gs);
  unarchage = last_or p.unarchage (filter_map unarchage_in gs);
  recycle_hwm = last_or p.recycle_hwm (filter_map recycle_hwm_in gs);
  recycle_mingain = last_or p.recycle_mingain (filter_map recycle_mingain_in gs);
  recycle_vsncount = last_or p.recycle_vsncount (filter_map recycle_vsncount_in gs);
  recycle_dataquantity = last_or p.recycle_dataquantity (filter_map recycle_dataquantity_in gs);
  recycle_ignore = list_any is_recycle_ignore gs || p.recycle_ignore;
}

or_true : (b : Bool) → b || true ≡ true
or_true true = refl
or_true false = refl

first_behind : (p : Params) (g : Given) (gs : List Given) → behind (with_param p g) gs ≡ behind p (g ∷ gs)
first_behind p (given.Archmax n) gs = refl
first_behind p given.Fillvsns gs = rw (or_true (list_any is_fillvsns gs)) refl
first_behind p (given.Join w) gs = refl
first_behind p (given.Sort w) gs = refl
first_behind p (given.Reserve part) gs = refl
first_behind p (given.Ovflmin n) gs = refl
first_behind p (given.Startage n) gs = refl
first_behind p (given.Startcount n) gs = refl
first_behind p (given.Startsize n) gs = refl
first_behind p (given.Unarchage w) gs = refl
first_behind p (given.RecycleHwm n) gs = refl
first_behind p (given.RecycleMingain n) gs = refl
first_behind p (given.RecycleVsncount n) gs = refl
first_behind p (given.RecycleDataquantity n) gs = refl
first_behind p given.RecycleIgnore gs = rw (or_true (list_any is_recycle_ignore gs)) refl
first_behind p given.Nothing gs = refl

each_behind : (p : Params) (gs : List Given) → fold with_param p gs ≡ behind p gs
each_behind p [] = refl
each_behind p (g ∷ gs) = each_behind (with_param p g) gs ∙ first_behind p g gs

-- more options are given behind others
pub fold_behind : (gs hs : List Given) (p : Params) → fold with_param p (gs ++ hs) ≡ fold with_param (fold with_param p gs) hs
fold_behind gs hs p = fold-append with_param p gs hs

or_false : (b : Bool) → b || false ≡ b
or_false true = refl
or_false false = refl

-- the options of a name are the last of each
abbrev named_last : List ParamsLine → CopyName → Params
named_last lines name = behind no_params (given_for name lines)

named_is : (lines : List ParamsLine) (name : CopyName) → params_named lines name ≡ named_last lines name
named_is lines name = each_behind no_params (given_for name lines)

-- an option without a value that was given under none of the names before
stands_so : (a b c : Bool) → (a || false) || ((b || false) || (c || false)) ≡ a || (b || c)
stands_so a b c = rw (or_false a, or_false b, or_false c) refl

together : (lines : List ParamsLine) (set : Field) (copy : ℕ) → AreParams lines set copy (over (named_last lines (SetCopy set copy)) (over (named_last lines (AllSetsCopy copy)) (named_last lines AllSets)))
together lines set copy = record { archmax = refl; fillvsns = standing is_fillvsns; join = refl; sort = refl; reserve = refl; ovflmin = refl; startage = refl; startcount = refl; startsize = refl; unarchage = refl; recycle_hwm = refl; recycle_mingain = refl; recycle_vsncount = refl; recycle_dataquantity = refl; recycle_ignore = standing is_recycle_ignore }
  where
    standing : (is : Given → Bool) → (list_any is (given_for (SetCopy set copy) lines) || false) || ((list_any is (given_for (AllSetsCopy copy) lines) || false) || (list_any is (given_for AllSets lines) || false))
        ≡ list_any is (given_for (SetCopy set copy) lines) || (list_any is (given_for (AllSetsCopy copy) lines) || list_any is (given_for AllSets lines))
    standing is = stands_so (list_any is (given_for (SetCopy set copy) lines)) (list_any is (given_for (AllSetsCopy copy) lines)) (list_any is (given_for AllSets lines))

pub each_looked_up : (lines : List ParamsLine) (set : Field) (copy : ℕ) (params : Params) → params ≡ over (params_named lines (SetCopy set copy)) (over (params_named lines (AllSetsCopy copy)) (params_named lines AllSets)) → AreParams lines set copy params
each_looked_up lines set copy params is = subst (AreParams lines set copy) (sym (is ∙ rw (named_is lines (SetCopy set copy), named_is lines (AllSetsCopy copy), named_is lines AllSets) refl)) (together lines set copy)
