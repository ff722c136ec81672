-- A step is owed only after a fault of the journal.
use Rattle.std.proofs.Common.{◌≡◌, inl, inr, ℕ, zero, suc, List, [], ◌∷◌, refl, ◌∙◌, ap, arith, Bool, true, false, ◌==◌, Option, None, Result, Ok, Err}
use Rattle.std.specs.Prelude.{if◌then◌else◌}
use Rattle.base.specs.Causes.{Rose, AreCounted}
use Rattle.outside.specs.declared.folder.NamedText.{NamedText}
use Rattle.bank.specs.Content.{Content}
use Rattle.site_events.specs.declared.event.Asked.{Asked}
use Rattle.site_events.specs.declared.event.Asked.TheVariants.{One, At as AskedAt, Configure}
use Rattle.site_events.specs.declared.event.Event.{Event}
use Rattle.site_events.specs.declared.event.Event.TheVariants.{Configure as ConfigureEvent}
use Rattle.site_events.specs.declared.reply.LineRefusal.{LineRefusal}
use Rattle.site_events.specs.declared.reply.Reply.{Reply}
use Rattle.site_events.specs.declared.reply.Reply.TheVariants.{BankFault, NoMemory}
use Rattle.site_history.specs.Terms.{Terms}
use Rattle.site_history.specs.Replies.{Answer}
use Rattle.site_history.specs.Worlds.{World, at_moment}
use Rattle.site_history.specs.Turns.{Turn, TurnBy, Owes, Fails, answer_in, answered_in, failed_in, moment_of}
use Rattle.session.specs.Rounds.{Phase, Round, IsEvent, IsRoundOf, IsRun, phase_after, journal_faults_of, journal_faults_in}
use Rattle.session.proofs.MachineLaws.{turn_at_rest}

-- nothing is open in a world
abbrev Rests : World → Type 0
Rests w = (w.due ≡ false) × (w.owed ≡ None)

rests_alike : (w w' : World) → w' ≡ w → Rests w → Rests w'
rests_alike w w' e h = (ap (λ (x : World). x.due) e ∙ h.0, ap (λ (x : World). x.owed) e ∙ h.1)

-- A fault of the store elsewhere leaves nothing open.
fault_elsewhere : (in_journal told : Bool) (answer : Answer) (w : World) (event : Event) (moment : ℕ) (w' : World) → Rests w → TurnBy (if in_journal then Owes else Fails) told answer w event moment BankFault w'
    → ◌≡◌ {A = ℕ} (if in_journal then 1 else 0) 0 → Rests w'
fault_elsewhere true told answer w event moment w' rest turn none = absurd (omega (arith, none))
fault_elsewhere false told answer w event moment w' rest turn none = rests_alike (failed_in event moment w) w' turn rest

turn_rests : (terms : Terms) (told : Bool) (w : World) (event : Event) (moment area : ℕ) (reply : Reply) (w' : World) → Rests w → Turn terms told w event moment area reply w'
    → journal_faults_of reply area ≡ 0 → Rests w'
turn_rests terms told w event moment area BankFault w' rest turn none = fault_elsewhere (area == 0) told (answer_in terms w moment event) w event moment w' rest turn none
turn_rests terms told w event moment area NoMemory w' rest turn none = rests_alike (at_moment moment w) w' turn rest
turn_rests terms told w event moment area _ w' rest turn none = rests_alike (answered_in (answer_in terms w moment event) moment w) w' turn.1 rest

event_rests : (terms : Terms) (told : Bool) (phase : Phase) (event : Event) (area : ℕ) (journal : Content) (reply : Reply) (phase' : Phase) → Rests phase.world
    → IsEvent terms told phase event area journal reply phase' → journal_faults_of reply area ≡ 0 → Rests phase'.world
event_rests terms told phase event area journal reply phase' rest turn none =
    turn_rests terms told phase.world event (moment_of phase.world.clock turn.0) area reply phase'.world rest (turn_at_rest terms told phase.world event turn.0 area journal reply phase'.world rest.0 turn.2) none

phase_rests : (phase phase' : Phase) → phase' ≡ phase → Rests phase.world → Rests phase'.world
phase_rests phase phase' e rest = rests_alike phase.world phase'.world (ap (λ (s : Phase). s.world) e) rest

asked_rests : (terms : Terms) (told : Bool) (folder : Option (List NamedText)) (phase : Phase) (asked : Asked) (area : ℕ) (journal : Content) (reply : Reply) (phase' : Phase) → Rests phase.world
    → IsRoundOf terms told folder phase (Ok asked) area journal reply phase' → journal_faults_of reply area ≡ 0 → Rests phase'.world
asked_rests terms told folder phase (One event) area journal reply phase' rest (inl lost) none = phase_rests phase phase' lost.1 rest
asked_rests terms told folder phase (One event) area journal reply phase' rest (inr turn) none = event_rests terms told phase event area journal reply phase' rest turn none
asked_rests terms told folder phase (AskedAt moment) area journal reply phase' rest (inl lost) none = phase_rests phase phase' lost.1 rest
asked_rests terms told folder phase (AskedAt moment) area journal reply phase' rest (inr moved) none = rests_alike phase.world phase'.world (ap (λ (s : Phase). s.world) moved.3) rest
asked_rests terms told folder phase Configure area journal reply phase' rest (inl unread) none = phase_rests phase phase' unread.1 rest
asked_rests terms told folder phase Configure area journal reply phase' rest (inr (texts, read, turn)) none = event_rests terms told phase (ConfigureEvent texts) area journal reply phase' rest turn none
asked_rests terms told folder phase _ area journal reply phase' rest answers none = phase_rests phase phase' answers.1 rest

round_rests : (terms : Terms) (told : Bool) (folder : Option (List NamedText)) (phase : Phase) (request : Result Asked LineRefusal) (area : ℕ) (journal : Content) (reply : Reply) (phase' : Phase) → Rests phase.world
    → IsRoundOf terms told folder phase request area journal reply phase' → journal_faults_of reply area ≡ 0 → Rests phase'.world
round_rests terms told folder phase (Err refusal) area journal reply phase' rest answers none = phase_rests phase phase' answers.1 rest
round_rests terms told folder phase (Ok asked) area journal reply phase' rest round none = asked_rests terms told folder phase asked area journal reply phase' rest round none

run_rests : (terms : Terms) (told : Bool) (folder : Option (List NamedText)) (phase : Phase) (rs : List Round) → Rests phase.world → IsRun terms told folder phase rs → journal_faults_in rs ≡ 0
    → Rests (phase_after phase rs).world
run_rests terms told folder phase [] rest run none = rest
run_rests terms told folder phase (x ∷ rs) rest run none =
    run_rests terms told folder x.after rs
    (round_rests terms told folder phase x.request.asked x.area x.journal x.reply x.after rest run.0 (omega (arith, none))) run.1 (omega (arith, none))

-- No fault was told where the count did not rise.
none_told : (before n now : ℕ) → AreCounted before n now → (Rose before now → ⊥) → n ≡ 0
none_told before zero now counted never = refl
none_told before (suc n) now counted never = absurd (never (omega (arith, counted)))

-- A step is owed only after a fault of the journal.
pub owed_by_fault : (terms : Terms) (told : Bool) (folder : Option (List NamedText)) (phase : Phase) (rs : List Round) (before now : ℕ) → phase.world.due ≡ false → phase.world.owed ≡ None → IsRun terms told folder phase rs
    → AreCounted before (journal_faults_in rs) now → (Rose before now → ⊥) → (phase_after phase rs).world.owed ≡ None
owed_by_fault terms told folder phase rs before now rest none run counted never = (run_rests terms told folder phase rs (rest, none) run (none_told before (journal_faults_in rs) now counted never)).1
