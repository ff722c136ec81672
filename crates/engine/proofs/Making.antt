-- A plan that makes a step: what is known of its step, and what the engine stands for while its bytes are stored and its record is
-- appended.
use Rattle.std.proofs.Common.{◌≡◌, inl, ℕ, sym, ◌∙◌, ap, subst, arith, Bool, false, Option, Some, None}
use Rattle.std.specs.Prelude.{IsTrue}
use Rattle.bank.specs.Content.{Image}
use Rattle.bank.specs.View.{View, IsImage, IsSound, LeavesOnly}
use Rattle.bank.specs.Inside.{WroteInside}
use Rattle.bank.proofs.Instants.{weakened}
use Rattle.site_events.specs.declared.event.Event.{Event}
use Rattle.site_events.specs.declared.reply.Reply.{Reply}
use Rattle.step_codec.specs.Written.{written}
use Rattle.site_history.specs.Terms.{Terms}
use Rattle.site_history.specs.Site.{Fields, Site}
use Rattle.site_history.specs.Steps.{HistoryStep, put_runs}
use Rattle.site_history.specs.Running.{Running, nothing_runs, after_fault}
use Rattle.site_history.specs.Histories.{after, IsHistory}
use Rattle.site_history.specs.Worlds.{World, site_of, steps_of, at_moment}
use Rattle.site_history.specs.Turns.{failed_in}
use Rattle.site_history.specs.Answers.{answer_to}
use Rattle.site_history.specs.Replies.{Answer, makes}
use Rattle.site_history.specs.Images.{extents, Reads, ReadsAs, ReadsBetween}
use Rattle.site_history.specs.Extents.{extents_over, AllStand}
use Rattle.site_history.specs.Pinned.{StandInAll, IsPinned, IsClearOf, in_blocks_of}
use Rattle.site_history.proofs.WorldLaws.{world_kept, site_from_first, history_from_first, fault_of_nothing}
use Rattle.site_history.proofs.Answered.{MayBeMade, StepMayBeMade, answered}
use Rattle.site_history.proofs.ImageLaws.{image_reads, stand_image}
use Rattle.site_history.proofs.Extents.{site_clear}
use Rattle.site_history.proofs.Reopenings.{pinned_by_world}
use Rattle.site_history.proofs.StepBytes.{runs_apart, step_stands}
use Rattle.site_history.proofs.WritesElsewhere.{still_pinned, still_reads}
use Rattle.site_state.specs.declared.prepare.Prepared.{Prepared}
use Rattle.site_state.specs.Keeps.{Keeps}
use Rattle.decisions.specs.declared.plan.Plan.TheVariants.{Make}
use Rattle.decisions.specs.declared.plan.Work.{Work}
use Rattle.decisions.specs.Plans.{stored_bytes, IsPlanOf}
use Rattle.engine.specs.declared.engine.Engine.{Engine}
use Rattle.engine.specs.StandsFor.{StandsFor, Moves}
use Rattle.engine.specs.Ready.{IsReady}
use Rattle.engine.proofs.Turning.{stands_still, moves_behind}

module _ (terms : Terms) {B P : Type 0} (told : Bool) (view : B → View) (engine : Engine B P) (w : World) (stands : StandsFor terms told view engine w) (ready : engine.due ≡ false) where
  -- what the engine keeps is what the world's site has
  pub keeps_it : Keeps engine.site (site_of terms w).fields
  keeps_it = (stands.in_step ready).1.keeps

  -- its journal goes on at the world's place
  pub place_it : engine.journal.place ≡ w.place
  place_it = (stands.in_step ready).1.place

  nothing_owed : w.owed ≡ None
  nothing_owed = (stands.in_step ready).0

  -- of a store that tells its content
  module _ (t : IsTrue told) where
    history_it : IsHistory terms w.history
    history_it = history_from_first terms w (stands.first t) stands.kept

    pinned_before : IsSound (view engine.bank) → IsPinned terms (view engine.bank) w.history
    pinned_before sound = pinned_by_world terms (view engine.bank) w sound nothing_owed (stands.images t)

    -- the bytes of its files are read at their places
    pub bytes_stand : IsSound (view engine.bank) → AllStand (view engine.bank).content (extents (site_of terms w))
    bytes_stand sound = subst (λ (s : Site). AllStand (view engine.bank).content (extents s)) (sym (site_from_first terms w (stands.first t)))
        (stand_image (view engine.bank) (view engine.bank).content (extents (after terms w.history)) (pinned_before sound).bytes sound.reads_as_image)

  module _ (event : Event) (prepared : Prepared) (work : Work) (moment : ℕ) (of : IsPlanOf (site_of terms w) w.running (answer_to terms (site_of terms w) w.running moment event) (Make prepared work)) where
    -- the step of a plan, and its reply as it is defined
    abbrev pub made_by : HistoryStep
    made_by = record { step = prepared.step; bytes = stored_bytes work }

    abbrev pub reply_by : Reply
    reply_by = (answer_to terms (site_of terms w) w.running moment event).reply

    pub plan_answered : answer_to terms (site_of terms w) w.running moment event ≡ makes w.running reply_by made_by
    plan_answered =
        ap (λ (o : Option HistoryStep). let a : Answer = record { reply = reply_by; step = o; running = (answer_to terms (site_of terms w) w.running moment event).running } in a) of.0
        ∙ ap (λ (r : Running). let a : Answer = record { reply = reply_by; step = Some made_by; running = r } in a) of.2

    pub plan_may : moment ≡ engine.clock → MayBeMade terms (site_of terms w) moment made_by
    plan_may is = subst (λ (o : Option HistoryStep). StepMayBeMade terms (site_of terms w) moment o) of.0
        (answered terms (steps_of w) (site_of terms w) (world_kept terms w stands.kept) w.running moment
        (omega (arith, stands.in_time, stands.clock, is)) (omega (arith, stands.range, stands.clock, is)) event)

  -- The engine once the work is done, failed or not: only its store and its buffer changed, and only blocks of the step's runs were
  -- written.
  module _ (made : HistoryStep) (may : MayBeMade terms (site_of terms w) engine.clock made) (mid : Engine B P) (keeps : (fields : Fields) → Keeps engine.site fields → Keeps mid.site fields)
      (journal : mid.journal ≡ engine.journal) (steps : mid.steps ≡ engine.steps) (clock : mid.clock ≡ engine.clock) (due : mid.due ≡ engine.due) (sound : IsTrue told → IsSound (view engine.bank))
      (wrote : IsTrue told → WroteInside 1 (in_blocks_of (put_runs made.step)) (view engine.bank) (view mid.bank)) where
    clear : IsTrue told → IsClearOf 1 (in_blocks_of (put_runs made.step)) (extents (after terms w.history))
    clear t = subst (λ (s : Site). IsClearOf 1 (in_blocks_of (put_runs made.step)) (extents s)) (site_from_first terms w (stands.first t))
        (site_clear (put_runs made.step) (site_of terms w) (runs_apart terms (site_of terms w).fields made.step may.legal))

    images_still : IsTrue told → (c : Image) → IsImage (view mid.bank) c → ReadsAs terms w c
    images_still t c image = inl (image_reads terms (view mid.bank) c w.history (history_it t)
        (still_pinned 1 (in_blocks_of (put_runs made.step)) terms (view engine.bank) (view mid.bank) w.history (λ e. absurd (omega (arith, e))) (clear t) (pinned_before t (sound t)) (wrote t)) image)

    meanwhile_still : IsTrue told → LeavesOnly (view engine.bank) (view mid.bank) (ReadsAs terms w)
    meanwhile_still t = weakened (view engine.bank) (view mid.bank) (λ c. Reads terms c w.history) (ReadsAs terms w)
        (still_reads 1 (in_blocks_of (put_runs made.step)) terms (view engine.bank) (view mid.bank) w.history (λ e. absurd (omega (arith, e))) (clear t) (pinned_before t (sound t)) (wrote t) (history_it t))
        (λ c reads. inl reads)

    mid_stands : StandsFor terms told view mid w
    mid_stands = stands_still terms told view engine mid w stands keeps journal steps clock due images_still

    -- the work failed
    pub work_stays : Moves terms told view engine mid w w
    work_stays = record {
      stands = mid_stands;
      meanwhile = λ t. weakened (view engine.bank) (view mid.bank) (ReadsAs terms w) (ReadsBetween terms w w) (meanwhile_still t) (λ c reads. inl reads);
    }

    module _ (form : mid.payload.items ≡ written made.step) (stored : IsTrue told → StandInAll (view mid.bank) (extents_over (put_runs made.step) made.bytes)) where
      work_ready : IsReady terms told view mid w made
      work_ready = record {
        stands = mid_stands;
        ready = due ∙ ready;
        legal = may.legal;
        bytes = may.bytes;
        form = form;
        moment = may.moment_is ∙ sym clock;
        stored = λ t. step_stands (view mid.bank) (site_of terms w) made (stored t);
      }

      -- its record is acknowledged, or it is owed
      pub work_moves : (new : Engine B P) (w' : World) → (IsReady terms told view mid w made → Moves terms told view mid new w w') → Moves terms told view engine new w w'
      work_moves new w' recorded = moves_behind terms told view engine mid new w w' meanwhile_still (recorded work_ready)

-- A fault outside the journal takes no job away where none runs.
pub failed_is : (w : World) (event : Event) (moment : ℕ) → w.running ≡ nothing_runs → failed_in event moment w ≡ at_moment moment w
failed_is w event moment idle = ap (λ (r : Running). let x : World = record (at_moment moment w) { running = r } in x) (ap (λ (r : Running). after_fault event r) idle ∙ fault_of_nothing event ∙ sym idle)
