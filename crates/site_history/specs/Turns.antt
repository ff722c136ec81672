-- What one event does to a world, and where a reopening leads.
use Rattle.std.specs.Prelude.{◌≡◌, ◌⊎◌, ℕ, ◌+◌, ◌-◌, min, max, ◌==◌, nat_le, Bool, true, false, if◌then◌else◌, Option, Some, None, List, length}
use Rattle.base.specs.declared.limits.TheConstants.{END_OF_TIME}
use Rattle.bank.specs.Content.{Content}
use Rattle.step_codec.specs.Written.{written}
use Rattle.site_events.specs.declared.event.Event.{Event}
use Rattle.site_types.specs.declared.file.SiteTexts.{SiteTexts}
use Rattle.site_events.specs.declared.reply.Reply.{Reply}
use Rattle.site_events.specs.declared.reply.Reply.TheVariants.{Bytes, NoMemory, JournalFull, BankFault, BadJournal}
use Rattle.site_history.specs.Terms.{Terms}
use Rattle.site_history.specs.Steps.{HistoryStep}
use Rattle.site_history.specs.Journals.{HoldsHistory}
use Rattle.site_history.specs.Running.{after_fault}
use Rattle.site_history.specs.Replies.{Answer, tells}
use Rattle.site_history.specs.Answers.{answer_to}
use Rattle.site_history.specs.ConfigureAnswers.{TellsFirstWrong}
use Rattle.site_history.specs.Worlds.{World, site_of, at, new_world, IsFreshWorld, at_moment, made_in, owing_in, IsWithOrWithout}

-- the moment of an event: the clock never goes back, and moments are below 2^40
abbrev pub moment_of : ℕ → ℕ → ℕ
moment_of clock now = max clock (min now (END_OF_TIME - 1))

-- whether the journal has room for the record of a further step at this place, and for the closed gate behind it
abbrev pub has_room : Terms → ℕ → Option HistoryStep → Bool
has_room terms place None = true
has_room terms place (Some made) = nat_le (place + 6 + length (written made.step)) terms.size

-- the answer to an event at a moment: where the journal has no room for its step, all stays as it was
abbrev pub answer_in : Terms → World → ℕ → Event → Answer
answer_in terms w moment event = let answer = answer_to terms (site_of terms w) w.running moment event in
    if has_room terms w.place answer.step then answer else tells w.running JournalFull

-- The reply is the one that is defined. Where the store tells nothing, the bytes of a reply are right in their number alone.
abbrev pub IsReply : Bool → Reply → Reply → Type 0
IsReply true defined reply = reply ≡ defined
IsReply false (Bytes defined) reply = (bytes : List ℕ) × (reply ≡ Bytes bytes) × (length bytes ≡ length defined)
IsReply false defined reply = reply ≡ defined

-- ---- what becomes of a world

pub data Course : Type 0 where
  -- the answer as defined is given
  Goes : Course
  -- the world stays, but for its clock
  Stays : Course
  -- a fault outside the journal: the world stays, but in a turn that daemon's own job is gone
  Fails : Course
  -- a fault in the journal: nothing runs, and the step is owed
  Owes : Course

-- by the reply, and by the area of the store's last fault: area 0 is the journal
abbrev pub course_of : Reply → ℕ → Course
course_of NoMemory area = Stays
course_of BankFault area = if area == 0 then Owes else Fails
course_of _ area = Goes

-- the answer is given at a moment: its step is made, and this runs then
abbrev pub answered_in : Answer → ℕ → World → World
answered_in answer moment w = record (at_moment moment (made_in answer.step w)) { running = answer.running }

-- a fault outside the journal
abbrev pub failed_in : Event → ℕ → World → World
failed_in event moment w = record (at_moment moment w) { running = after_fault event w.running }

abbrev pub TurnBy : Course → Bool → Answer → World → Event → ℕ → Reply → World → Type 0
TurnBy Goes told answer w event moment reply w' = IsReply told answer.reply reply × (w' ≡ answered_in answer moment w)
TurnBy Stays told answer w event moment reply w' = w' ≡ at_moment moment w
TurnBy Fails told answer w event moment reply w' = w' ≡ failed_in event moment w
TurnBy Owes told answer w event moment reply w' = w' ≡ owing_in answer.step (at_moment moment w)

-- One event at a moment, in a world with nothing open; `told` is whether the store tells its content, and `area` is that of its
-- last fault.
abbrev pub Turn : Terms → Bool → World → Event → ℕ → ℕ → Reply → World → Type 0
Turn terms told w event moment area reply w' = TurnBy (course_of reply area) told (answer_in terms w moment event) w event moment reply w'

-- ---- a reopening

-- Where it leads: to the history or to that with the step that is owed, whichever the journal's area, as it read when the event
-- began, holds the records of. A store that tells nothing may lead to any fresh world; where that ends later than the clock, the
-- clock goes on to its moment.
abbrev pub IsReopened : Terms → Bool → Content → World → World → Type 0
IsReopened terms true read w w0 = (steps : List HistoryStep) × IsWithOrWithout w steps × HoldsHistory terms read steps × (w0 ≡ at steps w.clock)
IsReopened terms false read w w0 = IsFreshWorld terms w0 × (w0.clock ≡ max w.clock (site_of terms w0).fields.moment)

-- A reopening that is refused, and is still due. A store that tells its content never has a bad journal then.
abbrev pub RefusesReopening : Bool → Reply → Type 0
RefusesReopening told BankFault = Unit {0}
RefusesReopening told NoMemory = Unit {0}
RefusesReopening told (BadJournal place) = told ≡ false
RefusesReopening told _ = ⊥

-- an event where a reopening is due or not
abbrev pub EventTurnBy : Terms → Bool → Bool → World → Event → ℕ → ℕ → Content → Reply → World → Type 0
EventTurnBy terms false told w event now area read reply w' = Turn terms told w event (moment_of w.clock now) area reply w'
EventTurnBy terms true told w event now area read reply w' =
    ((w0 : World) × IsReopened terms told read w w0 × Turn terms told w0 event (moment_of w0.clock now) area reply w')
    ⊎ (RefusesReopening told reply × (w' ≡ w))

-- An event in a world: a turn; where a reopening is due, a turn from where that leads, or the reopening is refused. `read` is what
-- the journal's area read when the event began.
abbrev pub EventTurn : Terms → Bool → World → Event → ℕ → ℕ → Content → Reply → World → Type 0
EventTurn terms told w event now area read reply w' = EventTurnBy terms w.due told w event now area read reply w'

-- the world in which an event is served, where a reopening is due or not: one to which that may lead, or the world itself
abbrev pub IsServedIn : Terms → Bool → Bool → World → Content → World → Type 0
IsServedIn terms false told w read w0 = w0 ≡ w
IsServedIn terms true told w read w0 = IsReopened terms told read w w0

-- An event that configures the site by these texts tells the first command file that is wrong, of the site over which it is
-- served; or a reopening that is due is refused before.
abbrev pub TellsConfiguration : Terms → Bool → World → Content → SiteTexts → Reply → Type 0
TellsConfiguration terms told w read texts reply =
    ((w0 : World) × IsServedIn terms w.due told w read w0 × TellsFirstWrong (site_of terms w0).fields texts reply)
    ⊎ ((w.due ≡ true) × RefusesReopening told reply)

-- The world that a store is opened with: the new one of the history for which it is settled; where it tells nothing, any fresh
-- one, at the moment of its last step.
abbrev pub IsFound : Terms → Bool → List HistoryStep → World → Type 0
IsFound terms true before w = w ≡ new_world terms before
IsFound terms false before w = IsFreshWorld terms w × (w.clock ≡ (site_of terms w).fields.moment)
