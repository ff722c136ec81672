-- Which answers are a cause of a status.
use Rattle.std.proofs.Common.{◌≡◌, ◌⊎◌, inl, inr, ℕ, ◌+◌, ◌≤◌, refl, ap, arith, Bool, true, false, cond}
use Rattle.base.specs.Causes.{AreCounted}
use Rattle.bank.specs.Content.{Content}
use Rattle.site_events.specs.declared.event.Event.{Event}
use Rattle.site_events.specs.declared.reply.Reply.{Reply}
use Rattle.site_events.specs.declared.reply.Reply.TheVariants.{Bytes, BankFault, FolderFault, BadJournal, NoMemory}
use Rattle.site_history.specs.Terms.{Terms}
use Rattle.site_history.specs.Answers.{answer_to}
use Rattle.site_history.specs.Replies.{Answer, TellsNoFault}
use Rattle.site_history.specs.Worlds.{World, site_of}
use Rattle.site_history.specs.Turns.{Turn, EventTurn, EventTurnBy, Goes, course_of, answer_in, has_room, moment_of, IsReply}
use Rattle.site_history.proofs.AnswerReplies.{answer_tells_no_fault}
use Rattle.session.specs.Rounds.{cause_of, faults_of, folder_faults_of, is_as_defined}

-- A choice of two answers that are no cause is none.
chosen : (t : Bool) (a b : Answer) → cause_of a.reply ≡ 0 → cause_of b.reply ≡ 0 → cause_of (cond t a b).reply ≡ 0
chosen true a b h k = h
chosen false a b h k = k

-- A reply that tells no fault is no cause of a status.
calm_cause : (reply : Reply) → TellsNoFault reply → cause_of reply ≡ 0
calm_cause BankFault h = absurd h
calm_cause FolderFault h = absurd h
calm_cause (BadJournal place) h = absurd h
calm_cause NoMemory h = absurd h
calm_cause _ h = refl

-- What the machine answers is no cause of a status.
machine_calm : (terms : Terms) (w : World) (moment : ℕ) (event : Event) → cause_of (answer_in terms w moment event).reply ≡ 0
machine_calm terms w moment event =
    chosen (has_room terms w.place (answer_to terms (site_of terms w) w.running moment event).step) _ _ (calm_cause _ (answer_tells_no_fault terms (site_of terms w) w.running moment event)) refl

-- A reply that no fault or want of memory gives is the defined one.
pub calm_goes : (reply : Reply) (area : ℕ) → is_as_defined reply ≡ true → course_of reply area ≡ Goes
calm_goes BankFault area e = absurd (cc)
calm_goes NoMemory area e = absurd (cc)
calm_goes _ area e = refl

-- A reply that is no cause of a status is none that a fault or want of memory gives.
pub none_defined : (reply : Reply) → cause_of reply ≡ 0 → is_as_defined reply ≡ true
none_defined BankFault e = absurd (omega (arith, e))
none_defined FolderFault e = absurd (omega (arith, e))
none_defined (BadJournal place) e = absurd (omega (arith, e))
none_defined NoMemory e = absurd (omega (arith, e))
none_defined _ e = refl

-- A reply that is the defined one, but for its bytes, is as much of a cause.
same_cause : (told : Bool) (defined reply : Reply) → IsReply told defined reply → cause_of reply ≡ cause_of defined
same_cause true defined reply e = ap cause_of e
same_cause false (Bytes defined) reply h = ap cause_of h.1
same_cause false _ reply e = ap cause_of e

-- The cause that a reply is: none, a fault of the store or of the folder, or want of memory.
abbrev pub CauseOf : Reply → Type 0
CauseOf reply = (cause_of reply ≡ 0) ⊎ (((cause_of reply ≡ 3) × (faults_of reply + folder_faults_of reply ≡ 1)) ⊎ (cause_of reply ≡ 9))

pub turn_cause : (terms : Terms) (told : Bool) (w : World) (event : Event) (moment area : ℕ) (reply : Reply) (w' : World) → Turn terms told w event moment area reply w' → CauseOf reply
turn_cause terms told w event moment area BankFault w' turn = inr (inl (refl, refl))
turn_cause terms told w event moment area NoMemory w' turn = inr (inr refl)
turn_cause terms told w event moment area FolderFault w' turn = absurd (omega (arith, same_cause told _ FolderFault turn.0, machine_calm terms w moment event))
turn_cause terms told w event moment area (BadJournal place) w' turn = absurd (omega (arith, same_cause told _ (BadJournal place) turn.0, machine_calm terms w moment event))
turn_cause terms told w event moment area _ w' turn = inl refl

-- An event tells no fault of the folder.
no_folder_fault : (terms : Terms) (due : Bool) (told : Bool) (w : World) (event : Event) (now area : ℕ) (journal : Content) (w' : World) → EventTurnBy terms due told w event now area journal FolderFault w' → ⊥
no_folder_fault terms false told w event now area journal w' turn = omega (arith, same_cause told _ FolderFault turn.0, machine_calm terms w (moment_of w.clock now) event)
no_folder_fault terms true told w event now area journal w' (inl (w0, reopened, turn)) = omega (arith, same_cause told _ FolderFault turn.0, machine_calm terms w0 (moment_of w0.clock now) event)
no_folder_fault terms true told w event now area journal w' (inr (refuses, same)) = refuses

pub event_folder : (terms : Terms) (told : Bool) (w : World) (event : Event) (now area : ℕ) (journal : Content) (reply : Reply) (w' : World) (before after : ℕ) → EventTurn terms told w event now area journal reply w' → before ≤ after
    → AreCounted before (folder_faults_of reply) after
event_folder terms told w event now area journal FolderFault w' before after turn later = absurd (no_folder_fault terms w.due told w event now area journal w' turn)
event_folder terms told w event now area journal _ w' before after turn later = omega (arith, later)
