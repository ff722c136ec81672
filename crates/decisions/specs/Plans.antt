-- Which plan is of an answer.
use Rattle.std.specs.Prelude.{◌≡◌, ◌≤◌, ◌*◌, ℕ, Some, List, [], length, take}
use Rattle.std.specs.List.{Contains}
use Rattle.site_events.specs.declared.event.Event.{Event}
use Rattle.site_types.specs.declared.file.FileRec.{FileRec}
use Rattle.site_types.specs.declared.file.Run.{Run}
use Rattle.site_events.specs.declared.reply.Reply.{Reply}
use Rattle.site_events.specs.declared.reply.Reply.TheVariants.{Bytes}
use Rattle.cache_space.specs.Space.{blocks_in}
use Rattle.site_history.specs.Terms.{Terms}
use Rattle.site_history.specs.Site.{Site, bytes_of}
use Rattle.site_history.specs.Kept.{IsKept, HaveAllBytes}
use Rattle.site_history.specs.Answers.{answer_to}
use Rattle.site_history.specs.Running.{Running}
use Rattle.site_history.specs.Replies.{Answer, tells}
use Rattle.site_state.specs.declared.state.SiteState.{SiteState}
use Rattle.site_state.specs.Keeps.{Keeps}
use Rattle.decisions.specs.declared.plan.Plan.{Plan}
use Rattle.decisions.specs.declared.plan.Plan.TheVariants.{Answer as AnswerPlan, Make}
use Rattle.decisions.specs.declared.plan.Work.{Work}
use Rattle.decisions.specs.declared.plan.Work.TheVariants.{Nothing, Store, Load}

-- These bytes lie in the cache at these runs: they are the first ones of a file that has them there.
pub record LieAt (site : Site) (runs : List Run) (bytes : List ℕ) : Type 0 where
  pub file : FileRec
  pub listed : Contains site.fields.files file
  pub held : runs ≡ file.runs
  pub first : bytes ≡ take (length bytes) (bytes_of site.contents file.inode)
  pub cached : length bytes ≤ file.cached
  pub room : length bytes ≤ blocks_in runs * 4096

-- the bytes that a work stores, which are those of its step
abbrev pub stored_bytes : Work → List ℕ
stored_bytes (Store bytes reply) = bytes
stored_bytes _ = []

-- Where a work succeeds, this is the reply: the one that it names, or the bytes that it loads, as many as its buffer has.
abbrev pub Gives : Site → Work → Reply → Type 0
Gives site (Nothing named) reply = reply ≡ named
Gives site (Store stored named) reply = reply ≡ named
Gives site (Load runs buffer) reply = (bytes : List ℕ) × (reply ≡ Bytes bytes) × (length bytes ≡ length buffer.items) × LieAt site runs bytes

-- The plan is of the answer: it replies that, and makes its step. What runs goes on.
abbrev pub IsPlanOf : Site → Running → Answer → Plan → Type 0
IsPlanOf site running answer (AnswerPlan reply) = answer ≡ tells running reply
IsPlanOf site running answer (Make prepared work) =
    (answer.step ≡ Some (record { step = prepared.step; bytes = stored_bytes work })) × Gives site work answer.reply × (answer.running ≡ running)

-- It is of what is answered to an event at a moment, in each site that the state keeps the fields of, after so many steps, and
-- whatever runs.
abbrev pub Answers : SiteState → ℕ → Event → Plan → Type 0
Answers state moment event plan = (terms : Terms) (count : ℕ) (site : Site) (running : Running) → IsKept count site.fields → HaveAllBytes site → Keeps state site.fields
    → IsPlanOf site running (answer_to terms site running moment event) plan
