-- All options of params at once, one given after the other.
use Rattle.std.specs.Prelude.{List, fold, None, false, ◌||◌}
use Rattle.std.specs.Option.{option_or}
use Rattle.archiver_lines.specs.declared.param_options.Given.{Given}
use Rattle.archiver_lines.specs.declared.reading.ParamsLine.{ParamsLine}
use Rattle.archiver_lines.specs.declared.reading.CopyName.{CopyName}
use Rattle.archiver_cmd.specs.declared.params.Params.{Params}
use Rattle.archiver_cmd.specs.Params.{archmax_in, join_in, sort_in, ovflmin_in, startage_in, startcount_in, startsize_in, unarchage_in, recycle_hwm_in, recycle_mingain_in, recycle_vsncount_in, recycle_dataquantity_in, is_fillvsns, is_recycle_ignore, reserve_in, reserve_with, given_for}

abbrev pub no_params : Params
no_params = record { archmax = None; fillvsns = false; join = None; sort = None; reserve = None; ovflmin = None; startage = None; startcount = None; startsize = None; unarchage = None; recycle_hwm = None; recycle_mingain = None; recycle_vsncount = None; recycle_dataquantity = None; recycle_ignore = false }

-- an option is given in place of what was given before; a part of a reservation is added
abbrev pub with_param : Params → Given → Params
with_param p g = record {
  archmax = option_or (archmax_in g) p.archmax;
  fillvsns = is_fillvsns g || p.fillvsns;
  join = option_or (join_in g) p.join;
  sort = option_or (sort_in g) p.sort;
  reserve = reserve_with p.reserve (reserve_in g);
  ovflmin = option_or (ovflmin_in g) p.ovflmin;
  startage = option_or (startage_in g) p.startage;
  startcount = option_or (startcount_in g) p.startcount;
  startsize = option_or (startsize_in g) p.startsize;
  unarchage = option_or (unarchage_in g) p.unarchage;
  recycle_hwm = option_or (recycle_hwm_in g) p.recycle_hwm;
  recycle_mingain = option_or (recycle_mingain_in g) p.recycle_mingain;
  recycle_vsncount = option_or (recycle_vsncount_in g) p.recycle_vsncount;
  recycle_dataquantity = option_or (recycle_dataquantity_in g) p.recycle_dataquantity;
  recycle_ignore = is_recycle_ignore g || p.recycle_ignore;
}

abbrev pub params_named : List ParamsLine → CopyName → Params
params_named lines name = fold with_param no_params (given_for name lines)

-- each as in the first, or else as in the other
abbrev pub over : Params → Params → Params
over p q = record {
  archmax = option_or p.archmax q.archmax;
  fillvsns = p.fillvsns || q.fillvsns;
  join = option_or p.join q.join;
  sort = option_or p.sort q.sort;
  reserve = option_or p.reserve q.reserve;
  ovflmin = option_or p.ovflmin q.ovflmin;
  startage = option_or p.startage q.startage;
  startcount = option_or p.startcount q.startcount;
  startsize = option_or p.startsize q.startsize;
  unarchage = option_or p.unarchage q.unarchage;
  recycle_hwm = option_or p.recycle_hwm q.recycle_hwm;
  recycle_mingain = option_or p.recycle_mingain q.recycle_mingain;
  recycle_vsncount = option_or p.recycle_vsncount q.recycle_vsncount;
  recycle_dataquantity = option_or p.recycle_dataquantity q.recycle_dataquantity;
  recycle_ignore = p.recycle_ignore || q.recycle_ignore;
}
