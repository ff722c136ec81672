-- The machine's answers, and those of a session up to the first fault or want of memory.
use Rattle.std.proofs.Common.{◌≡◌, inl, inr, ℕ, ◌+◌, List, [], ◌∷◌, ◌++◌, length, take, refl, sym, ◌∙◌, ap, subst, Bool, true, false, ◌&&◌, cond, Option, Some, None, IfSome, Result, Ok, Err, IsTrue}
use Rattle.std.proofs.lemmas.Bool.{and_parts}
use Rattle.std.specs.Prelude.{max}
use Rattle.outside.specs.declared.folder.NamedText.{NamedText}
use Rattle.outside.specs.Moments.{Gives, next_moment}
use Rattle.bank.specs.Content.{Content}
use Rattle.site_events.specs.declared.event.Asked.{Asked}
use Rattle.site_events.specs.declared.event.Asked.TheVariants.{One, At as AskedAt, Configure}
use Rattle.site_events.specs.declared.event.Event.{Event}
use Rattle.site_events.specs.declared.event.Event.TheVariants.{Configure as ConfigureEvent}
use Rattle.site_types.specs.declared.file.SiteTexts.{SiteTexts}
use Rattle.site_events.specs.declared.reply.Reply.{Reply}
use Rattle.site_events.specs.declared.reply.Reply.TheVariants.{Line, Bytes, FolderFault, NoMemory}
use Rattle.site_events.specs.declared.reply.LineRefusal.{LineRefusal}
use Rattle.site_events.specs.declared.reply.LineRefusal.TheVariants.{NotACommand}
use Rattle.configuration.specs.FolderTexts.{AreRead}
use Rattle.site_history.specs.Terms.{Terms}
use Rattle.site_history.specs.Worlds.{World}
use Rattle.site_history.specs.Turns.{Turn, TurnBy, EventTurn, EventTurnBy, Course, answer_in, answered_in, moment_of, IsReply}
use Rattle.session.specs.Requests.{Request}
use Rattle.session.specs.Rounds.{Phase, Round, Answers, IsEvent, IsMovedTo, IsRoundOf, IsRun, GoOn, asked, output, cause_of, faults_of, folder_faults_of, is_as_defined, is_known, is_fixed, calm}
use Rattle.session.specs.Machine.{Response, moment_told, moments_then, event_responds_by, event_responds, moved_to, machine_responds, machine_run, texts_told, AreResponses, output_of}
use Rattle.session.proofs.AnswerCauses.{calm_goes, CauseOf, turn_cause}

-- A refused line, and a moment, are replied as they are defined, whether the store tells its content or not.
line_reply : (told : Bool) (defined reply : Reply) → ((bytes : List ℕ) → defined ≡ Bytes bytes → ⊥) → reply ≡ defined → IsReply told defined reply
line_reply true defined reply other e = e
line_reply false (Bytes bytes) reply other e = absurd (other bytes refl)
line_reply false _ reply other e = e

-- A reply and a phase are what the machine tells.
abbrev IsToldBy : Bool → Response → Reply → Phase → Type 0
IsToldBy told t reply phase' = IsReply told t.reply reply × (phase' ≡ t.after)

calm_turn : (terms : Terms) (told : Bool) (w : World) (event : Event) (moment area : ℕ) (reply : Reply) (w' : World) → Turn terms told w event moment area reply w' → is_as_defined reply ≡ true
    → IsReply told (answer_in terms w moment event).reply reply × (w' ≡ answered_in (answer_in terms w moment event) moment w)
calm_turn terms told w event moment area reply w' turn calm =
    subst (λ (c : Course). TurnBy c told (answer_in terms w moment event) w event moment reply w') (calm_goes reply area calm) turn

-- Where no reopening is due, an event is a turn.
pub turn_at_rest : (terms : Terms) (told : Bool) (w : World) (event : Event) (now area : ℕ) (journal : Content) (reply : Reply) (w' : World) → w.due ≡ false → EventTurn terms told w event now area journal reply w'
    → Turn terms told w event (moment_of w.clock now) area reply w'
turn_at_rest terms told w event now area journal reply w' rest turn = subst (λ (due : Bool). EventTurnBy terms due told w event now area journal reply w') rest turn

-- A clock that tells its moments gives the next one.
gives_told : (old new : Option (List ℕ)) (moment : ℕ) → is_known old ≡ true → Gives old new moment → (moment ≡ moment_told old) × (new ≡ moments_then old)
gives_told (Some moments) new moment known gives = gives
gives_told None new moment known gives = absurd (cc)

next_told : (old : Option (List ℕ)) (now : ℕ) → is_known old ≡ true → IfSome old (λ (moments : List ℕ). now ≡ next_moment moments) → now ≡ moment_told old
next_told (Some moments) now known is = is
next_told None now known is = absurd (cc)

-- What it tells stays known.
then_known : (old : Option (List ℕ)) → is_known old ≡ true → is_known (moments_then old) ≡ true
then_known (Some moments) known = refl
then_known None known = absurd (cc)

-- A reply that is as defined is none of the others.
not_lost : {A : Type 0} (reply lost : Reply) → is_as_defined lost ≡ false → reply ≡ lost → is_as_defined reply ≡ true → A
not_lost reply lost undefined e is = absurd (let c : true ≡ false = sym is ∙ ap is_as_defined e ∙ undefined in cc)

calm_event : (terms : Terms) (told : Bool) (phase : Phase) (event : Event) (area : ℕ) (journal : Content) (reply : Reply) (phase' : Phase) → phase.world.due ≡ false → is_known phase.moments ≡ true → IsEvent terms told phase event area journal reply phase'
    → is_as_defined reply ≡ true → IsToldBy told (event_responds terms phase event) reply phase'
calm_event terms told phase event area journal reply phase' rest known turn calm =
    let given = gives_told phase.moments phase'.moments turn.0 known turn.1 in
    let t = calm_turn terms told phase.world event (moment_of phase.world.clock turn.0) area reply phase'.world (turn_at_rest terms told phase.world event turn.0 area journal reply phase'.world rest turn.2) calm in
    subst (λ (n : ℕ). IsToldBy told (event_responds_by phase.world (moments_then phase.moments) (moment_of phase.world.clock n) (answer_in terms phase.world (moment_of phase.world.clock n) event)) reply phase') given.0 (
      t.0,
      ap (λ (x : World). let s : Phase = record { world = x; moments = phase'.moments } in s) t.1
          ∙ ap (λ (ms : Option (List ℕ)). let s : Phase = record { world = answered_in (answer_in terms phase.world (moment_of phase.world.clock turn.0) event) (moment_of phase.world.clock turn.0) phase.world; moments = ms } in s) given.1,
    )

calm_moved : (told : Bool) (phase : Phase) (moment : ℕ) (reply : Reply) (phase' : Phase) → is_known phase.moments ≡ true → IsMovedTo moment phase reply phase' → IsToldBy told (moved_to phase (max moment (moment_told phase.moments))) reply phase'
calm_moved told phase moment reply phase' known moved =
    subst (λ (n : ℕ). IsToldBy told (moved_to phase (max moment n)) reply phase') (next_told phase.moments moved.0 known moved.1) (line_reply told _ reply (λ bytes e. cc) moved.2, moved.3)

calm_answers : (told : Bool) (defined : Reply) (phase : Phase) (reply : Reply) (phase' : Phase) → ((bytes : List ℕ) → defined ≡ Bytes bytes → ⊥) → Answers defined phase reply phase' → is_as_defined reply ≡ true
    → IsReply told defined reply × (phase' ≡ phase)
calm_answers told defined phase reply phase' other (inl e, same) calm = (line_reply told defined reply other e, same)
calm_answers told defined phase reply phase' other (inr e, same) calm = not_lost reply NoMemory refl e calm

-- A reply and a phase are what the machine tells, by texts that a folder may have given.
abbrev IsToldOf : Terms → Bool → Option (List NamedText) → Phase → Result Asked LineRefusal → Reply → Phase → Type 0
IsToldOf terms told folder phase demand reply phase' = (texts : SiteTexts) × AreRead folder texts × IsToldBy told (machine_responds terms texts phase demand) reply phase'

told_read : (folder : Option (List NamedText)) → AreRead folder (texts_told folder)
told_read None = tt
told_read (Some texts) = refl

-- A round whose reply is as defined is as the machine tells it, where the folder and the clock fix that.
calm_asked : (terms : Terms) (told : Bool) (folder : Option (List NamedText)) (phase : Phase) (asked : Asked) (area : ℕ) (journal : Content) (reply : Reply) (phase' : Phase) → phase.world.due ≡ false
    → IsRoundOf terms told folder phase (Ok asked) area journal reply phase' → is_as_defined reply ≡ true → is_fixed folder phase.moments (Ok asked) ≡ true → IsToldOf terms told folder phase (Ok asked) reply phase'
calm_asked terms told folder phase (One event) area journal reply phase' rest (inl lost) calm fixed = not_lost reply NoMemory refl lost.0 calm
calm_asked terms told folder phase (One event) area journal reply phase' rest (inr turn) calm fixed = (texts_told folder, told_read folder, calm_event terms told phase event area journal reply phase' rest fixed turn calm)
calm_asked terms told folder phase (AskedAt moment) area journal reply phase' rest (inl lost) calm fixed = not_lost reply NoMemory refl lost.0 calm
calm_asked terms told folder phase (AskedAt moment) area journal reply phase' rest (inr moved) calm fixed = (texts_told folder, told_read folder, calm_moved told phase moment reply phase' fixed moved)
calm_asked terms told folder phase Configure area journal reply phase' rest (inl (inl fault, same)) calm fixed = not_lost reply FolderFault refl fault calm
calm_asked terms told folder phase Configure area journal reply phase' rest (inl (inr lost, same)) calm fixed = not_lost reply NoMemory refl lost calm
calm_asked terms told folder phase Configure area journal reply phase' rest (inr (texts, read, turn)) calm fixed =
    (texts, read, calm_event terms told phase (ConfigureEvent texts) area journal reply phase' rest (and_parts (is_known folder) (is_known phase.moments) fixed).1 turn calm)
calm_asked terms told folder phase _ area journal reply phase' rest answers calm fixed =
    (texts_told folder, told_read folder, calm_answers told (Line NotACommand) phase reply phase' (λ bytes e. cc) answers calm)

calm_round : (terms : Terms) (told : Bool) (folder : Option (List NamedText)) (phase : Phase) (demand : Result Asked LineRefusal) (area : ℕ) (journal : Content) (reply : Reply) (phase' : Phase) → phase.world.due ≡ false
    → IsRoundOf terms told folder phase demand area journal reply phase' → is_as_defined reply ≡ true → is_fixed folder phase.moments demand ≡ true → IsToldOf terms told folder phase demand reply phase'
calm_round terms told folder phase (Err refusal) area journal reply phase' rest answers calm fixed =
    (texts_told folder, told_read folder, calm_answers told (Line refusal) phase reply phase' (λ bytes e. cc) answers calm)
calm_round terms told folder phase (Ok asked) area journal reply phase' rest round calm fixed = calm_asked terms told folder phase asked area journal reply phase' rest round calm fixed

-- Where the folder fixes what the machine tells, any texts that were read give it.
told_alike : (terms : Terms) (folder : Option (List NamedText)) (texts : SiteTexts) (phase : Phase) (demand : Result Asked LineRefusal) → AreRead folder texts → is_fixed folder phase.moments demand ≡ true
    → machine_responds terms texts phase demand ≡ machine_responds terms (texts_told folder) phase demand
told_alike terms (Some named) texts phase demand read fixed = ap (λ (t : SiteTexts). machine_responds terms t phase demand) read
told_alike terms None texts phase (Err refusal) read fixed = refl
told_alike terms None texts phase (Ok Configure) read fixed = absurd (cc)
told_alike terms None texts phase (Ok _) read fixed = refl

-- Then such a round is as the machine tells it by the folder's texts.
fixed_round : (terms : Terms) (told : Bool) (folder : Option (List NamedText)) (phase : Phase) (demand : Result Asked LineRefusal) (area : ℕ) (journal : Content) (reply : Reply) (phase' : Phase) → phase.world.due ≡ false
    → IsRoundOf terms told folder phase demand area journal reply phase' → is_as_defined reply ≡ true → is_fixed folder phase.moments demand ≡ true → IsToldBy told (machine_responds terms (texts_told folder) phase demand) reply phase'
fixed_round terms told folder phase demand area journal reply phase' rest round calm fixed =
    let t = calm_round terms told folder phase demand area journal reply phase' rest round calm fixed in
    subst (λ (s : Response). IsToldBy told s reply phase') (told_alike terms folder t.0 phase demand t.1 fixed) t.2

-- After a round whose reply is as defined no reopening is due.
event_settled : (terms : Terms) (told : Bool) (phase : Phase) (event : Event) (area : ℕ) (journal : Content) (reply : Reply) (phase' : Phase) → phase.world.due ≡ false → IsEvent terms told phase event area journal reply phase' → is_as_defined reply ≡ true
    → phase'.world.due ≡ false
event_settled terms told phase event area journal reply phase' rest turn calm =
    ap (λ (x : World). x.due) (calm_turn terms told phase.world event (moment_of phase.world.clock turn.0) area reply phase'.world (turn_at_rest terms told phase.world event turn.0 area journal reply phase'.world rest turn.2) calm).1 ∙ rest

stays_settled : (phase phase' : Phase) → phase' ≡ phase → phase.world.due ≡ false → phase'.world.due ≡ false
stays_settled phase phase' e rest = ap (λ (s : Phase). s.world.due) e ∙ rest

asked_settled : (terms : Terms) (told : Bool) (folder : Option (List NamedText)) (phase : Phase) (asked : Asked) (area : ℕ) (journal : Content) (reply : Reply) (phase' : Phase) → phase.world.due ≡ false
    → IsRoundOf terms told folder phase (Ok asked) area journal reply phase' → is_as_defined reply ≡ true → phase'.world.due ≡ false
asked_settled terms told folder phase (One event) area journal reply phase' rest (inl lost) calm = stays_settled phase phase' lost.1 rest
asked_settled terms told folder phase (One event) area journal reply phase' rest (inr turn) calm = event_settled terms told phase event area journal reply phase' rest turn calm
asked_settled terms told folder phase (AskedAt moment) area journal reply phase' rest (inl lost) calm = stays_settled phase phase' lost.1 rest
asked_settled terms told folder phase (AskedAt moment) area journal reply phase' rest (inr moved) calm = ap (λ (s : Phase). s.world.due) moved.3 ∙ rest
asked_settled terms told folder phase Configure area journal reply phase' rest (inl unread) calm = stays_settled phase phase' unread.1 rest
asked_settled terms told folder phase Configure area journal reply phase' rest (inr (texts, read, turn)) calm = event_settled terms told phase (ConfigureEvent texts) area journal reply phase' rest turn calm
asked_settled terms told folder phase _ area journal reply phase' rest answers calm = stays_settled phase phase' answers.1 rest

pub calm_rests : (terms : Terms) (told : Bool) (folder : Option (List NamedText)) (phase : Phase) (demand : Result Asked LineRefusal) (area : ℕ) (journal : Content) (reply : Reply) (phase' : Phase) → phase.world.due ≡ false
    → IsRoundOf terms told folder phase demand area journal reply phase' → is_as_defined reply ≡ true → phase'.world.due ≡ false
calm_rests terms told folder phase (Err refusal) area journal reply phase' rest answers calm = stays_settled phase phase' answers.1 rest
calm_rests terms told folder phase (Ok asked) area journal reply phase' rest round calm = asked_settled terms told folder phase asked area journal reply phase' rest round calm

-- Moments that are told stay so.
event_known : (terms : Terms) (told : Bool) (phase : Phase) (event : Event) (area : ℕ) (journal : Content) (reply : Reply) (phase' : Phase) → IsEvent terms told phase event area journal reply phase' → is_known phase.moments ≡ true → is_known phase'.moments ≡ true
event_known terms told phase event area journal reply phase' turn known = ap (λ (ms : Option (List ℕ)). is_known ms) (gives_told phase.moments phase'.moments turn.0 known turn.1).1 ∙ then_known phase.moments known

stays_known : (phase phase' : Phase) → phase' ≡ phase → is_known phase.moments ≡ true → is_known phase'.moments ≡ true
stays_known phase phase' e known = ap (λ (s : Phase). is_known s.moments) e ∙ known

asked_known : (terms : Terms) (told : Bool) (folder : Option (List NamedText)) (phase : Phase) (asked : Asked) (area : ℕ) (journal : Content) (reply : Reply) (phase' : Phase) → IsRoundOf terms told folder phase (Ok asked) area journal reply phase'
    → is_known phase.moments ≡ true → is_known phase'.moments ≡ true
asked_known terms told folder phase (One event) area journal reply phase' (inl lost) known = stays_known phase phase' lost.1 known
asked_known terms told folder phase (One event) area journal reply phase' (inr turn) known = event_known terms told phase event area journal reply phase' turn known
asked_known terms told folder phase (AskedAt moment) area journal reply phase' (inl lost) known = stays_known phase phase' lost.1 known
asked_known terms told folder phase (AskedAt moment) area journal reply phase' (inr moved) known = ap (λ (s : Phase). is_known s.moments) moved.3
asked_known terms told folder phase Configure area journal reply phase' (inl unread) known = stays_known phase phase' unread.1 known
asked_known terms told folder phase Configure area journal reply phase' (inr (texts, read, turn)) known = event_known terms told phase (ConfigureEvent texts) area journal reply phase' turn known
asked_known terms told folder phase _ area journal reply phase' answers known = stays_known phase phase' answers.1 known

round_known : (terms : Terms) (told : Bool) (folder : Option (List NamedText)) (phase : Phase) (demand : Result Asked LineRefusal) (area : ℕ) (journal : Content) (reply : Reply) (phase' : Phase) → IsRoundOf terms told folder phase demand area journal reply phase'
    → is_known phase.moments ≡ true → is_known phase'.moments ≡ true
round_known terms told folder phase (Err refusal) area journal reply phase' answers known = stays_known phase phase' answers.1 known
round_known terms told folder phase (Ok asked) area journal reply phase' round known = asked_known terms told folder phase asked area journal reply phase' round known

-- What moments fix, others that are told do as well.
fixed_still : (folder : Option (List NamedText)) (moments now : Option (List ℕ)) (demand : Result Asked LineRefusal) → (is_known moments ≡ true → is_known now ≡ true) → is_fixed folder moments demand ≡ true → is_fixed folder now demand ≡ true
fixed_still folder moments now (Err refusal) still fixed = refl
fixed_still folder moments now (Ok (One event)) still fixed = still fixed
fixed_still folder moments now (Ok (AskedAt moment)) still fixed = still fixed
fixed_still folder moments now (Ok Configure) still fixed =
    let parts = and_parts (is_known folder) (is_known moments) fixed in
    ap (λ (b : Bool). b && is_known now) parts.0 ∙ still parts.1
fixed_still folder moments now (Ok _) still fixed = refl

answers_cause : (defined : Reply) (phase : Phase) (reply : Reply) (phase' : Phase) → cause_of defined ≡ 0 → Answers defined phase reply phase' → CauseOf reply
answers_cause defined phase reply phase' none (inl e, same) = inl (ap cause_of e ∙ none)
answers_cause defined phase reply phase' none (inr e, same) = inr (inr (ap cause_of e))

event_cause : (terms : Terms) (told : Bool) (phase : Phase) (event : Event) (area : ℕ) (journal : Content) (reply : Reply) (phase' : Phase) → phase.world.due ≡ false → IsEvent terms told phase event area journal reply phase' → CauseOf reply
event_cause terms told phase event area journal reply phase' rest turn =
    turn_cause terms told phase.world event (moment_of phase.world.clock turn.0) area reply phase'.world (turn_at_rest terms told phase.world event turn.0 area journal reply phase'.world rest turn.2)

asked_cause : (terms : Terms) (told : Bool) (folder : Option (List NamedText)) (phase : Phase) (asked : Asked) (area : ℕ) (journal : Content) (reply : Reply) (phase' : Phase) → phase.world.due ≡ false
    → IsRoundOf terms told folder phase (Ok asked) area journal reply phase' → CauseOf reply
asked_cause terms told folder phase (One event) area journal reply phase' rest (inl lost) = inr (inr (ap cause_of lost.0))
asked_cause terms told folder phase (One event) area journal reply phase' rest (inr turn) = event_cause terms told phase event area journal reply phase' rest turn
asked_cause terms told folder phase (AskedAt moment) area journal reply phase' rest (inl lost) = inr (inr (ap cause_of lost.0))
asked_cause terms told folder phase (AskedAt moment) area journal reply phase' rest (inr moved) = inl (ap cause_of moved.2)
asked_cause terms told folder phase Configure area journal reply phase' rest (inl (inl fault, same)) = inr (inl (ap cause_of fault, ap (λ (r : Reply). faults_of r + folder_faults_of r) fault))
asked_cause terms told folder phase Configure area journal reply phase' rest (inl (inr lost, same)) = inr (inr (ap cause_of lost))
asked_cause terms told folder phase Configure area journal reply phase' rest (inr (texts, read, turn)) = event_cause terms told phase (ConfigureEvent texts) area journal reply phase' rest turn
asked_cause terms told folder phase _ area journal reply phase' rest answers = answers_cause (Line NotACommand) phase reply phase' refl answers

-- Where no reopening is due, a reply is no cause, a fault of the store or of the folder, or want of memory.
pub round_cause : (terms : Terms) (told : Bool) (folder : Option (List NamedText)) (phase : Phase) (demand : Result Asked LineRefusal) (area : ℕ) (journal : Content) (reply : Reply) (phase' : Phase) → phase.world.due ≡ false
    → IsRoundOf terms told folder phase demand area journal reply phase' → CauseOf reply
round_cause terms told folder phase (Err refusal) area journal reply phase' rest answers = answers_cause (Line refusal) phase reply phase' refl answers
round_cause terms told folder phase (Ok asked) area journal reply phase' rest round = asked_cause terms told folder phase asked area journal reply phase' rest round

-- Up to the first fault or want of memory, and the first request that folder and clock do not fix, all replies and phases are the
-- machine's.
pub fixed_run : (terms : Terms) (told : Bool) (folder : Option (List NamedText)) (moments : Option (List ℕ)) (phase : Phase) (rs : List Round) (more : List Request) → phase.world.due ≡ false → (is_known moments ≡ true → is_known phase.moments ≡ true)
    → IsRun terms told folder phase rs → AreResponses told (calm folder moments rs) (machine_run terms (texts_told folder) phase (take (length (calm folder moments rs)) (asked rs ++ more)))
fixed_run terms told folder moments phase [] more rest still run = tt
fixed_run terms told folder moments phase (x ∷ rs) more rest still run =
    elim (is_as_defined x.reply && is_fixed folder moments x.request.asked) as (λ b. (is_as_defined x.reply && is_fixed folder moments x.request.asked) ≡ b
    → AreResponses told (cond b (x ∷ calm folder moments rs) []) (machine_run terms (texts_told folder) phase (take (length (cond b (x ∷ calm folder moments rs) [])) (x.request ∷ (asked rs ++ more))))) [
      | true ↦ (λ e. let parts = and_parts (is_as_defined x.reply) (is_fixed folder moments x.request.asked) e in
          here parts.0 (fixed_still folder moments phase.moments x.request.asked still parts.1)
          (λ h. fixed_run terms told folder moments x.after rs more h (λ known. round_known terms told folder phase x.request.asked x.area x.journal x.reply x.after run.0 (still known)) run.1))
      | false ↦ (λ e. tt)
    ] refl
  where
    here : is_as_defined x.reply ≡ true → is_fixed folder phase.moments x.request.asked ≡ true
        → (x.after.world.due ≡ false → AreResponses told (calm folder moments rs) (machine_run terms (texts_told folder) x.after (take (length (calm folder moments rs)) (asked rs ++ more))))
        → AreResponses told (x ∷ calm folder moments rs) (machine_run terms (texts_told folder) phase (take (length (x ∷ calm folder moments rs)) (x.request ∷ (asked rs ++ more))))
    here calm_reply fixed behind_it =
        let same = fixed_round terms told folder phase x.request.asked x.area x.journal x.reply x.after rest run.0 calm_reply fixed in
        let behind = behind_it (calm_rests terms told folder phase x.request.asked x.area x.journal x.reply x.after rest run.0 calm_reply) in
        (same.0, same.1, subst (λ (s : Phase). AreResponses told (calm folder moments rs) (machine_run terms (texts_told folder) s (take (length (calm folder moments rs)) (asked rs ++ more)))) same.1 behind)

-- What rounds write, where the store tells its content and none of them ends the session, is what the machine writes.
pub output_told : (terms : Terms) (texts : SiteTexts) (told : Bool) (phase : Phase) (rs : List Round) → IsTrue told → GoOn rs → AreResponses told rs (machine_run terms texts phase (asked rs)) → output rs ≡ output_of terms texts phase (asked rs)
output_told terms texts true phase [] tells on h = refl
output_told terms texts true phase (x ∷ rs) tells on h =
    let t = machine_responds terms texts phase x.request.asked in
    let goes : x.request.closes t.reply ≡ false = sym (ap (λ (r : Reply). x.request.closes r) h.0) ∙ on.0 in
    ap (λ (r : Reply). x.request.text r ++ output rs) h.0
    ∙ ap (λ (l : List ℕ). x.request.text t.reply ++ l)
    (output_told terms texts true t.after rs tells on.1 h.2 ∙ sym (ap (λ (b : Bool). cond b [] (output_of terms texts t.after (asked rs))) goes))
output_told terms texts false phase rs tells on h = absurd (let no : false ≡ true = tells in cc)

-- So it is up to the first one that ends the session, whatever is asked behind it.
pub output_closed : (terms : Terms) (texts : SiteTexts) (told : Bool) (phase : Phase) (rs : List Round) (last : Round) (more : List Request) → IsTrue told → GoOn rs → last.request.closes last.reply ≡ true
    → AreResponses told (rs ++ last ∷ []) (machine_run terms texts phase (asked (rs ++ last ∷ []))) → output (rs ++ last ∷ []) ≡ output_of terms texts phase (asked (rs ++ last ∷ []) ++ more)
output_closed terms texts true phase [] last more tells on ends h =
    let t = machine_responds terms texts phase last.request.asked in
    let stops : last.request.closes t.reply ≡ true = sym (ap (λ (r : Reply). last.request.closes r) h.0) ∙ ends in
    ap (λ (r : Reply). last.request.text r ++ []) h.0 ∙ ap (λ (l : List ℕ). last.request.text t.reply ++ l) (sym (ap (λ (b : Bool). cond b [] (output_of terms texts t.after more)) stops))
output_closed terms texts true phase (x ∷ rs) last more tells on ends h =
    let t = machine_responds terms texts phase x.request.asked in
    let goes : x.request.closes t.reply ≡ false = sym (ap (λ (r : Reply). x.request.closes r) h.0) ∙ on.0 in
    ap (λ (r : Reply). x.request.text r ++ output (rs ++ last ∷ [])) h.0
    ∙ ap (λ (l : List ℕ). x.request.text t.reply ++ l)
    (output_closed terms texts true t.after rs last more tells on.1 ends h.2 ∙ sym (ap (λ (b : Bool). cond b [] (output_of terms texts t.after (asked (rs ++ last ∷ []) ++ more))) goes))
output_closed terms texts false phase rs last more tells on ends h = absurd (let no : false ≡ true = tells in cc)
