-- Rounds: what was asked, what was answered, and what followed from it.
use Rattle.std.specs.Prelude.{◌≡◌, ◌⊎◌, ◌+◌, ◌≤◌, ℕ, max, List, [], ◌∷◌, map, flat_map, Bool, ◌&&◌, ◌==◌, if◌then◌else◌, true, false, cond, nat_eq, Option, Some, None, IfSome, Result, Ok, Err}
use Rattle.outside.specs.declared.folder.NamedText.{NamedText}
use Rattle.outside.specs.Moments.{Gives, next_moment}
use Rattle.bank.specs.Content.{Content, Image}
use Rattle.bank.specs.View.{View}
use Rattle.site_events.specs.declared.event.Asked.{Asked}
use Rattle.site_events.specs.declared.event.Asked.TheVariants.{One, At as AskedAt, Configure}
use Rattle.site_events.specs.declared.event.Event.{Event}
use Rattle.site_events.specs.declared.event.Event.TheVariants.{Configure as ConfigureEvent}
use Rattle.site_types.specs.declared.file.SiteTexts.{SiteTexts}
use Rattle.site_events.specs.declared.reply.LineRefusal.{LineRefusal}
use Rattle.site_events.specs.declared.reply.LineRefusal.TheVariants.{NotACommand}
use Rattle.site_events.specs.declared.reply.Reply.{Reply}
use Rattle.site_events.specs.declared.reply.Reply.TheVariants.{Line, At, BankFault, FolderFault, BadJournal, NoMemory}
use Rattle.configuration.specs.FolderTexts.{AreRead}
use Rattle.site_history.specs.Terms.{Terms}
use Rattle.site_history.specs.Worlds.{World, steps_of}
use Rattle.site_history.specs.Turns.{EventTurn}
use Rattle.session.specs.Requests.{Request}
use Rattle.session.specs.declared.kept.Mark.{Mark}

-- Where a session stands: the world, and the moments to come, where they are told. Each event takes the next one, and the last
-- one is given again.
pub record Phase : Type 0 where
  pub world : World
  pub moments : Option (List ℕ)

-- a moment of the session's own, which each event has
abbrev pub own : ℕ → Option (List ℕ)
own moment = Some (moment ∷ [])

-- the moments to come: the session's own moment, or else those of a clock
abbrev pub moments_of : Option ℕ → Option (List ℕ) → Option (List ℕ)
moments_of (Some moment) moments = own moment
moments_of None moments = moments

-- what was asked and answered, and where the session stands then
pub record Round : Type 0 where
  pub request : Request
  pub reply : Reply
  pub after : Phase
  -- the area of the store's last fault after the round
  pub area : ℕ
  -- what the journal's area read when the round began
  pub journal : Content
  -- the store's instant after the round
  pub instant : ℕ

-- nothing was asked of the machine: this is answered, or want of memory, and all stays
abbrev pub Answers : Reply → Phase → Reply → Phase → Type 0
Answers defined phase reply phase' = ((reply ≡ defined) ⊎ (reply ≡ NoMemory)) × (phase' ≡ phase)

-- an event of the machine, at the next moment
abbrev pub IsEvent : Terms → Bool → Phase → Event → ℕ → Content → Reply → Phase → Type 0
IsEvent terms told phase event area journal reply phase' =
    (moment : ℕ) × Gives phase.moments phase'.moments moment × EventTurn terms told phase.world event moment area journal reply phase'.world

-- The session has a moment of its own from now on: this one, or the next one that was to come, whichever is later.
abbrev pub IsMovedTo : ℕ → Phase → Reply → Phase → Type 0
IsMovedTo moment phase reply phase' = (now : ℕ) × IfSome phase.moments (λ moments. now ≡ next_moment moments)
    × (reply ≡ At (max moment now)) × (phase' ≡ record { world = phase.world; moments = own (max moment now) })

-- One round from a phase, on these terms; `told` is whether the store tells its content, `folder` what the folder
-- tells, `area` that of the store's last fault, and `journal` what the journal's area read when the round began. An event is one
-- of the machine. `at` gives the session a moment of its own. `configure` is the event of the texts that were read of the folder;
-- where they could not be read, all stays. Or no memory was found to read the request. What is asked otherwise is no command.
abbrev pub IsRoundOf : Terms → Bool → Option (List NamedText) → Phase → Result Asked LineRefusal → ℕ → Content → Reply → Phase → Type 0
IsRoundOf terms told folder phase (Err refusal) area journal reply phase' = Answers (Line refusal) phase reply phase'
IsRoundOf terms told folder phase (Ok (One event)) area journal reply phase' = ((reply ≡ NoMemory) × (phase' ≡ phase)) ⊎ IsEvent terms told phase event area journal reply phase'
IsRoundOf terms told folder phase (Ok (AskedAt moment)) area journal reply phase' = ((reply ≡ NoMemory) × (phase' ≡ phase)) ⊎ IsMovedTo moment phase reply phase'
IsRoundOf terms told folder phase (Ok Configure) area journal reply phase' = (((reply ≡ FolderFault) ⊎ (reply ≡ NoMemory)) × (phase' ≡ phase))
    ⊎ ((texts : SiteTexts) × AreRead folder texts × IsEvent terms told phase (ConfigureEvent texts) area journal reply phase')
IsRoundOf terms told folder phase (Ok _) area journal reply phase' = Answers (Line NotACommand) phase reply phase'

-- each round goes on from where the one before it stopped
abbrev pub IsRun : Terms → Bool → Option (List NamedText) → Phase → List Round → Type 0
IsRun terms told folder phase [] = Unit {0}
IsRun terms told folder phase (round ∷ rounds) =
    IsRoundOf terms told folder phase round.request.asked round.area round.journal round.reply round.after × IsRun terms told folder round.after rounds

abbrev pub phase_after : Phase → List Round → Phase
phase_after phase [] = phase
phase_after phase (round ∷ rounds) = phase_after round.after rounds

abbrev pub asked : List Round → List Request
asked rounds = map (λ (round : Round). round.request) rounds

-- the texts of the answers, joined
abbrev pub output : List Round → List ℕ
output rounds = flat_map (λ (round : Round). round.request.text round.reply) rounds

-- the store's instants never go back
abbrev pub AreInTime : ℕ → List Round → ℕ → Type 0
AreInTime from [] to = from ≤ to
AreInTime from (round ∷ rounds) to = (from ≤ round.instant) × AreInTime round.instant rounds to

-- the mark of an answer: how many there are with it, how many steps the world has after its round, and the store's instant then
abbrev pub mark_of : ℕ → Round → Mark
mark_of answered round = record { answered = answered; steps = steps_of round.after.world; instant = round.instant }

-- one mark for each round
abbrev pub marks_from : ℕ → List Round → List Mark
marks_from n [] = []
marks_from n (round ∷ rounds) = mark_of (n + 1) round ∷ marks_from (n + 1) rounds

-- the status that a reply is a cause of, or 0
abbrev pub cause_of : Reply → ℕ
cause_of BankFault = 3
cause_of FolderFault = 3
cause_of (BadJournal place) = 2
cause_of NoMemory = 9
cause_of _ = 0

-- the first cause, where there is one
abbrev pub first_of : ℕ → ℕ → ℕ
first_of a b = cond (nat_eq a 0) b a

-- the first cause among the replies, or else a later one
abbrev pub status_from : List Round → ℕ → ℕ
status_from [] status = status
status_from (round ∷ rounds) status = first_of (cause_of round.reply) (status_from rounds status)

-- how many faults of the store a reply tells
abbrev pub faults_of : Reply → ℕ
faults_of BankFault = 1
faults_of _ = 0

abbrev pub faults_in : List Round → ℕ
faults_in [] = 0
faults_in (round ∷ rounds) = faults_of round.reply + faults_in rounds

-- how many faults of the journal a reply tells, by the area of the store's last fault; area 0 is the journal
abbrev pub journal_faults_of : Reply → ℕ → ℕ
journal_faults_of BankFault area = if area == 0 then 1 else 0
journal_faults_of _ area = 0

abbrev pub journal_faults_in : List Round → ℕ
journal_faults_in [] = 0
journal_faults_in (round ∷ rounds) = journal_faults_of round.reply round.area + journal_faults_in rounds

-- the store's last fault after the last round lies in this area
abbrev pub IsLastArea : List Round → ℕ → Type 0
IsLastArea [] area = Unit {0}
IsLastArea (round ∷ []) area = round.area ≡ area
IsLastArea (round ∷ (next ∷ rounds)) area = IsLastArea (next ∷ rounds) area

-- What the journal's area read when a round began stood in the store: a crash since the round before might have left it.
abbrev pub JournalsStood : View → ℕ → List Round → Type 0
JournalsStood v from [] = Unit {0}
JournalsStood v from (round ∷ rounds) = ((c : Image) × v.left_since from c × (round.journal ≡ c 0)) × JournalsStood v round.instant rounds

-- how many faults of the folder a reply tells
abbrev pub folder_faults_of : Reply → ℕ
folder_faults_of FolderFault = 1
folder_faults_of _ = 0

abbrev pub folder_faults_in : List Round → ℕ
folder_faults_in [] = 0
folder_faults_in (round ∷ rounds) = folder_faults_of round.reply + folder_faults_in rounds

-- none of these rounds ends the session
abbrev pub GoOn : List Round → Type 0
GoOn [] = Unit {0}
GoOn (round ∷ rounds) = (round.request.closes round.reply ≡ false) × GoOn rounds

-- whether a reply is the machine's own, and none that a fault or want of memory gives
abbrev pub is_as_defined : Reply → Bool
is_as_defined BankFault = false
is_as_defined FolderFault = false
is_as_defined (BadJournal place) = false
is_as_defined NoMemory = false
is_as_defined _ = true

-- whether something is told
abbrev pub is_known : {A : Type 0} → Option A → Bool
is_known (Some told) = true
is_known None = false

-- Whether folder and clock fix what the machine tells to what is asked. A folder that tells nothing may give any texts to
-- `configure`, and a clock that tells nothing any moment.
abbrev pub is_fixed : Option (List NamedText) → Option (List ℕ) → Result Asked LineRefusal → Bool
is_fixed folder moments (Err refusal) = true
is_fixed folder moments (Ok (One event)) = is_known moments
is_fixed folder moments (Ok (AskedAt moment)) = is_known moments
is_fixed folder moments (Ok Configure) = is_known folder && is_known moments
is_fixed folder moments (Ok _) = true

-- the rounds before the first that is a fault or want of memory, or whose reply folder and clock do not fix
abbrev pub calm : Option (List NamedText) → Option (List ℕ) → List Round → List Round
calm folder moments [] = []
calm folder moments (round ∷ rounds) = cond (is_as_defined round.reply && is_fixed folder moments round.request.asked) (round ∷ calm folder moments rounds) []
