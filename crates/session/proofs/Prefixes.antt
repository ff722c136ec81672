-- What a crash leaves holds each step that was acknowledged.
use Rattle.std.proofs.Common.{◌≡◌, ◌⊎◌, inl, inr, ℕ, ◌+◌, List, [], ◌∷◌, ◌++◌, length, take, refl, sym, ◌∙◌, ap, subst, arith, Bool, true, false, Option, Result, Ok, Err}
use Rattle.std.proofs.Math.Seq.{take-append_seam}
use Rattle.outside.specs.declared.folder.NamedText.{NamedText}
use Rattle.bank.specs.Content.{Content, Image}
use Rattle.bank.specs.View.{View}
use Rattle.site_events.specs.declared.event.Asked.{Asked}
use Rattle.site_events.specs.declared.event.Asked.TheVariants.{One, At as AskedAt, Configure}
use Rattle.site_events.specs.declared.event.Event.{Event}
use Rattle.site_events.specs.declared.event.Event.TheVariants.{Configure as ConfigureEvent}
use Rattle.site_events.specs.declared.reply.LineRefusal.{LineRefusal}
use Rattle.site_events.specs.declared.reply.Reply.{Reply}
use Rattle.site_history.specs.Terms.{Terms}
use Rattle.site_history.specs.Steps.{HistoryStep}
use Rattle.site_history.specs.Replies.{Answer}
use Rattle.site_history.specs.Histories.{Begins}
use Rattle.site_history.specs.Worlds.{World, steps_of, at, at_moment, owing_in}
use Rattle.site_history.specs.Turns.{answer_in, answered_in, failed_in, moment_of, TurnBy, Course, Goes, Stays, Fails, Owes, course_of, IsReopened, EventTurnBy}
use Rattle.site_history.specs.Images.{Reads, ReadsAs}
use Rattle.site_history.proofs.Between.{begins_same, begins_then, begins_with, led_begins}
use Rattle.session.specs.Rounds.{Phase, Round, IsEvent, IsRoundOf, IsRun, phase_after, marks_from}
use Rattle.session.specs.Kept.{AreKept, AreHeld}

-- A world goes on from another: its history begins with the other's, and it stands on the first site where the other does.
record GoesOn (w w' : World) : Type 0 where
  history : Begins w.history w'.history
  first : w.base.steps ≡ 0 → w'.base.steps ≡ 0

stays_on : (w : World) → GoesOn w w
stays_on w = record { history = begins_same w.history; first = λ e. e }

goes_on_alike : (w v w' : World) → w' ≡ v → GoesOn w v → GoesOn w w'
goes_on_alike w v w' e on = subst (λ (x : World). GoesOn w x) (sym e) on

goes_further : (w mid w' : World) → GoesOn w mid → GoesOn mid w' → GoesOn w w'
goes_further w mid w' one two = record { history = begins_then w.history mid.history w'.history one.history two.history; first = λ e. two.first (one.first e) }

-- A turn adds at most a step.
turn_goes_on : (course : Course) (told : Bool) (answer : Answer) (w : World) (event : Event) (moment : ℕ) (reply : Reply) (w' : World) → TurnBy course told answer w event moment reply w' → GoesOn w w'
turn_goes_on Goes told answer w event moment reply w' turn = goes_on_alike w (answered_in answer moment w) w' turn.1 (record { history = begins_with w.history answer.step; first = λ e. e })
turn_goes_on Stays told answer w event moment reply w' turn = goes_on_alike w (at_moment moment w) w' turn (record { history = begins_same w.history; first = λ e. e })
turn_goes_on Fails told answer w event moment reply w' turn = goes_on_alike w (failed_in event moment w) w' turn (record { history = begins_same w.history; first = λ e. e })
turn_goes_on Owes told answer w event moment reply w' turn = goes_on_alike w (owing_in answer.step (at_moment moment w)) w' turn (record { history = begins_same w.history; first = λ e. e })

-- So does a reopening.
reopened_goes_on : (terms : Terms) (journal : Content) (w w0 : World) → IsReopened terms true journal w w0 → GoesOn w w0
reopened_goes_on terms journal w w0 (steps, led, holds, e) = goes_on_alike w (at steps w.clock) w0 e (record { history = led_begins w steps led; first = λ k. refl })

-- So a world goes on by an event.
event_goes_on : (terms : Terms) (due : Bool) (w : World) (event : Event) (now area : ℕ) (journal : Content) (reply : Reply) (w' : World) → EventTurnBy terms due true w event now area journal reply w' → GoesOn w w'
event_goes_on terms false w event now area journal reply w' turn =
    turn_goes_on (course_of reply area) true (answer_in terms w (moment_of w.clock now) event) w event (moment_of w.clock now) reply w' turn
event_goes_on terms true w event now area journal reply w' (inr (refused, e)) = goes_on_alike w w w' e (stays_on w)
event_goes_on terms true w event now area journal reply w' (inl (w0, reopened, turn)) =
    goes_further w w0 w' (reopened_goes_on terms journal w w0 reopened)
    (turn_goes_on (course_of reply area) true (answer_in terms w0 (moment_of w0.clock now) event) w0 event (moment_of w0.clock now) reply w' turn)

-- And so it does by a round.
phase_alike : (phase phase' : Phase) → phase' ≡ phase → GoesOn phase.world phase'.world
phase_alike phase phase' e = goes_on_alike phase.world phase.world phase'.world (ap (λ (s : Phase). s.world) e) (stays_on phase.world)

phase_event : (terms : Terms) (phase : Phase) (event : Event) (area : ℕ) (journal : Content) (reply : Reply) (phase' : Phase) → IsEvent terms true phase event area journal reply phase' → GoesOn phase.world phase'.world
phase_event terms phase event area journal reply phase' turn =
    event_goes_on terms phase.world.due phase.world event turn.0 area journal reply phase'.world turn.2

asked_goes_on : (terms : Terms) (folder : Option (List NamedText)) (phase : Phase) (asked : Asked) (area : ℕ) (journal : Content) (reply : Reply) (phase' : Phase) → IsRoundOf terms true folder phase (Ok asked) area journal reply phase'
    → GoesOn phase.world phase'.world
asked_goes_on terms folder phase (One event) area journal reply phase' (inl lost) = phase_alike phase phase' lost.1
asked_goes_on terms folder phase (One event) area journal reply phase' (inr turn) = phase_event terms phase event area journal reply phase' turn
asked_goes_on terms folder phase (AskedAt moment) area journal reply phase' (inl lost) = phase_alike phase phase' lost.1
asked_goes_on terms folder phase (AskedAt moment) area journal reply phase' (inr moved) =
    goes_on_alike phase.world phase.world phase'.world (ap (λ (s : Phase). s.world) moved.3) (stays_on phase.world)
asked_goes_on terms folder phase Configure area journal reply phase' (inl unread) = phase_alike phase phase' unread.1
asked_goes_on terms folder phase Configure area journal reply phase' (inr (texts, read, turn)) = phase_event terms phase (ConfigureEvent texts) area journal reply phase' turn
asked_goes_on terms folder phase _ area journal reply phase' answers = phase_alike phase phase' answers.1

round_goes_on : (terms : Terms) (folder : Option (List NamedText)) (phase : Phase) (request : Result Asked LineRefusal) (area : ℕ) (journal : Content) (reply : Reply) (phase' : Phase) → IsRoundOf terms true folder phase request area journal reply phase'
    → GoesOn phase.world phase'.world
round_goes_on terms folder phase (Err refusal) area journal reply phase' answers = phase_alike phase phase' answers.1
round_goes_on terms folder phase (Ok asked) area journal reply phase' round = asked_goes_on terms folder phase asked area journal reply phase' round

-- And so it does by a run.
run_goes_on : (terms : Terms) (folder : Option (List NamedText)) (phase : Phase) (rounds : List Round) → IsRun terms true folder phase rounds
    → GoesOn phase.world (phase_after phase rounds).world
run_goes_on terms folder phase [] run = stays_on phase.world
run_goes_on terms folder phase (x ∷ rounds) run =
    goes_further phase.world x.after.world (phase_after x.after rounds).world
    (round_goes_on terms folder phase x.request.asked x.area x.journal x.reply x.after run.0) (run_goes_on terms folder x.after rounds run.1)

-- An image that reads as a world reads as a history that begins with the world's.
read_begins : (terms : Terms) (c : Image) (front : List HistoryStep) (w : World) → Begins front w.history → ReadsAs terms w c → (steps : List HistoryStep) × Reads terms c steps × Begins front steps
read_begins terms c front w begins (inl reads) = (w.history, reads, begins)
read_begins terms c front w begins (inr (made, owed, reads)) = (w.history ++ made ∷ [], reads, begins_then front w.history (w.history ++ made ∷ []) begins (made ∷ [], refl))

-- An image since a moment reads as a history that begins with that which stood at the moment.
since_begins : (terms : Terms) (folder : Option (List NamedText)) (v : View) (from : ℕ) (phase : Phase) (rounds : List Round) → AreKept terms v from phase.world rounds → IsRun terms true folder phase rounds
    → (c : Image) → v.left_since from c → (steps : List HistoryStep) × Reads terms c steps × Begins phase.world.history steps
since_begins terms folder v from phase [] kept run c left = read_begins terms c phase.world.history phase.world (begins_same phase.world.history) (kept c left)
since_begins terms folder v from phase (x ∷ rounds) kept run c left = by_time (kept.0 c left) (since_begins terms folder v x.instant x.after rounds kept.1 run.1 c)
  where
    begins : Begins phase.world.history x.after.world.history
    begins = (round_goes_on terms folder phase x.request.asked x.area x.journal x.reply x.after run.0).history

    by_time : v.left_since x.instant c ⊎ (ReadsAs terms phase.world c ⊎ ReadsAs terms x.after.world c)
        → (v.left_since x.instant c → (steps : List HistoryStep) × Reads terms c steps × Begins x.after.world.history steps)
        → (steps : List HistoryStep) × Reads terms c steps × Begins phase.world.history steps
    by_time (inl later) behind = let r = behind later in (r.0, r.1, begins_then phase.world.history x.after.world.history r.0 begins r.2)
    by_time (inr (inl reads)) behind = read_begins terms c phase.world.history phase.world (begins_same phase.world.history) reads
    by_time (inr (inr reads)) behind = read_begins terms c phase.world.history x.after.world begins reads

-- The first steps of a history from the first site, as many as led to an earlier world, are that world's.
front_of : (w : World) (last : List HistoryStep) → w.base.steps ≡ 0 → Begins w.history last → take (steps_of w) last ≡ w.history
front_of w last first begins =
    let so_many : steps_of w ≡ length w.history = omega (arith, first) in
    ap (λ (n : ℕ). take n last) so_many ∙ ap (λ (l : List HistoryStep). take (length w.history) l) begins.1 ∙ take-append_seam w.history begins.0

-- What a crash left since the moment of a mark begins with the steps that the mark counts.
pub marks_held : (terms : Terms) (folder : Option (List NamedText)) (v : View) (from n : ℕ) (phase : Phase) (answered unanswered : List Round) → phase.world.base.steps ≡ 0 → AreKept terms v from phase.world (answered ++ unanswered) → IsRun terms true folder phase (answered ++ unanswered)
    → AreHeld terms v (phase_after phase (answered ++ unanswered)).world.history (marks_from n answered)
marks_held terms folder v from n phase [] unanswered first kept run = tt
marks_held terms folder v from n phase (x ∷ answered) unanswered first kept run = (
  λ c left.
      let r = since_begins terms folder v x.instant x.after (answered ++ unanswered) kept.1 run.1 c left in
      let same = front_of x.after.world (phase_after x.after (answered ++ unanswered)).world.history first_then (run_goes_on terms folder x.after (answered ++ unanswered) run.1).history in
      (r.0, r.1, (r.2.0, r.2.1 ∙ ap (λ (l : List HistoryStep). l ++ r.2.0) (sym same))),
  marks_held terms folder v x.instant (n + 1) x.after answered unanswered first_then kept.1 run.1,
)
  where
    first_then : x.after.world.base.steps ≡ 0
    first_then = (round_goes_on terms folder phase x.request.asked x.area x.journal x.reply x.after run.0).first first
