-- What a plan has, so that it can be performed.
use Rattle.std.specs.Prelude.{◌≤◌}
use Rattle.base.specs.declared.limits.TheConstants.{PAYLOAD_MAX}
use Rattle.step_codec.specs.Lengths.{step_length}
use Rattle.step_codec.specs.Written.{InRange}
use Rattle.cache_space.specs.Space.{AreMaximal}
use Rattle.site_history.specs.Steps.{put_runs}
use Rattle.site_history.specs.Replies.{TellsNoFault}
use Rattle.site_state.specs.declared.prepare.Prepared.{Prepared}
use Rattle.site_state.specs.declared.state.SiteState.{SiteState}
use Rattle.site_state.specs.Room.{IsPrepared}
use Rattle.decisions.specs.declared.plan.Plan.{Plan}
use Rattle.decisions.specs.declared.plan.Plan.TheVariants.{Answer, Make}
use Rattle.decisions.specs.declared.plan.Work.{Work}
use Rattle.decisions.specs.declared.plan.Work.TheVariants.{Nothing, Store, Load}

abbrev pub NamesNoFault : Work → Type 0
NamesNoFault (Nothing reply) = TellsNoFault reply
NamesNoFault (Store bytes reply) = TellsNoFault reply
NamesNoFault (Load runs buffer) = Unit {0}

-- The step can be recorded: its fields are in their ranges, a record takes its written form, its runs are maximal, and all memory
-- that its making needs is there.
pub record IsRecordable (state : SiteState) (prepared : Prepared) : Type 0 where
  pub range : InRange prepared.step
  pub short : step_length prepared.step ≤ PAYLOAD_MAX
  pub maximal : AreMaximal (put_runs prepared.step)
  pub memory : IsPrepared state prepared

-- the plan can be performed on this site
abbrev pub IsPerformable : SiteState → Plan → Type 0
IsPerformable state (Answer reply) = TellsNoFault reply
IsPerformable state (Make prepared work) = IsRecordable state prepared × NamesNoFault work
