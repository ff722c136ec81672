-- What is answered to what was asked, and where the engine stands then.
use Rattle.std.proofs.Common.{◌≡◌, ◌⊎◌, inl, inr, ℕ, ◌≤◌, List, refl, sym, ◌∙◌, ap, subst, arith, Bool, true, false, IsTrue, Option, Some, IfSome, Result, Ok, Err}
use Rattle.std.specs.Prelude.{max, ◌==◌, if◌then◌else◌}
use Rattle.outside.specs.Moments.{Gives, next_moment}
use Rattle.std.proofs.lemmas.Bool.{eqb-true}
use Rattle.base.specs.Causes.{Rose, AreCounted}
use Rattle.outside.specs.declared.folder.NamedText.{NamedText}
use Rattle.bank.specs.Content.{Content}
use Rattle.bank.specs.View.{View, IsSound, LeavesOnly}
use Rattle.bank.proofs.Instants.{started}
use Rattle.site_events.specs.declared.event.Asked.{Asked}
use Rattle.site_events.specs.declared.event.Asked.TheVariants.{One, At as AskedAt, Configure}
use Rattle.site_events.specs.declared.event.Event.{Event}
use Rattle.site_events.specs.declared.event.Event.TheVariants.{Configure as ConfigureEvent}
use Rattle.site_types.specs.declared.file.SiteTexts.{SiteTexts}
use Rattle.site_events.specs.declared.reply.LineRefusal.{LineRefusal}
use Rattle.site_events.specs.declared.reply.LineRefusal.TheVariants.{NotACommand, BadWord, LineTooLong, NoMemory as WantOfMemory}
use Rattle.site_events.specs.declared.reply.Reply.{Reply}
use Rattle.site_events.specs.declared.reply.Reply.TheVariants.{Line, At, BankFault, FolderFault, NoMemory}
use Rattle.configuration.specs.FolderTexts.{AreRead}
use Rattle.site_history.specs.Terms.{Terms}
use Rattle.site_history.specs.Worlds.{World}
use Rattle.site_history.specs.Turns.{EventTurn}
use Rattle.site_history.specs.Images.{ReadsAs}
use Rattle.engine.specs.declared.engine.Engine.{Engine}
use Rattle.engine.specs.StandsFor.{Moves}
use Rattle.engine.proofs.Serving.{either_world}
use Rattle.session.specs.Requests.{reply_to}
use Rattle.session.specs.Hearing.{IsReadAs}
use Rattle.session.specs.Rounds.{Phase, own, moments_of, IsEvent, IsRoundOf, faults_of, journal_faults_of, folder_faults_of}
use Rattle.session.specs.Standing.{StandsAt, IsMoved}
use Rattle.session.proofs.AnswerCauses.{event_folder}

-- A reply that tells a fault comes where the store counted one.
pub counted_reply : (reply : Reply) (before now : ℕ) → (reply ≡ BankFault → Rose before now) → before ≤ now → AreCounted before (faults_of reply) now
counted_reply BankFault before now fault later = fault refl
counted_reply _ before now fault later = omega (arith, later)

-- So does one that tells a fault of the journal.
pub counted_journal : (reply : Reply) (area before now : ℕ) → (reply ≡ BankFault → area ≡ 0 → Rose before now) → before ≤ now → AreCounted before (journal_faults_of reply area) now
counted_journal BankFault area before now fault later = by_area (area == 0) refl
  where
    by_area : (b : Bool) → (area == 0) ≡ b → AreCounted before (if b then 1 else 0) now
    by_area true is = fault refl (eqb-true area 0 is)
    by_area false is = omega (arith, later)
counted_journal _ area before now fault later = omega (arith, later)

-- Want of memory may be answered to any request.
memory_lost : (terms : Terms) (told : Bool) (folder : Option (List NamedText)) (phase : Phase) (demand : Result Asked LineRefusal) (area : ℕ) (journal : Content) → IsRoundOf terms told folder phase demand area journal NoMemory phase
memory_lost terms told folder phase (Err refusal) area journal = (inr refl, refl)
memory_lost terms told folder phase (Ok (One event)) area journal = inl (refl, refl)
memory_lost terms told folder phase (Ok (AskedAt moment)) area journal = inl (refl, refl)
memory_lost terms told folder phase (Ok Configure) area journal = inl (inr refl, refl)
memory_lost terms told folder phase (Ok _) area journal = (inr refl, refl)

-- What was read, where it is the same.
pub read_alike : (asked same : Result Asked LineRefusal) (demand : Result Asked LineRefusal) → asked ≡ same → IsReadAs asked demand → IsReadAs same demand
read_alike asked same demand e read = subst (λ (a : Result Asked LineRefusal). IsReadAs a demand) e read

-- What was read is the request, unless no memory was found for it.
request_read : (asked : Asked) (demand : Result Asked LineRefusal) → IsReadAs (Ok asked) demand → Ok asked ≡ demand
request_read asked demand (inl e) = e
request_read asked demand (inr e) = absurd (cc)

-- What is asked otherwise than by an event, a moment or `configure` is no command.
no_command : (terms : Terms) (told : Bool) (folder : Option (List NamedText)) (phase : Phase) (asked : Asked) (area : ℕ) (journal : Content) → ((event : Event) → asked ≡ One event → ⊥)
    → ((moment : ℕ) → asked ≡ AskedAt moment → ⊥) → (asked ≡ Configure → ⊥) → IsRoundOf terms told folder phase (Ok asked) area journal (Line NotACommand) phase
no_command terms told folder phase (One event) area journal not_one not_at not_configure = absurd (not_one event refl)
no_command terms told folder phase (AskedAt moment) area journal not_one not_at not_configure = absurd (not_at moment refl)
no_command terms told folder phase Configure area journal not_one not_at not_configure = absurd (not_configure refl)
no_command terms told folder phase _ area journal not_one not_at not_configure = (inl refl, refl)

-- A refused line is answered as it is defined.
refused_round : (terms : Terms) (told : Bool) (folder : Option (List NamedText)) (phase : Phase) (refusal : LineRefusal) (demand : Result Asked LineRefusal) (area : ℕ) (journal : Content) → IsReadAs (Err refusal) demand
    → IsRoundOf terms told folder phase demand area journal (reply_to refusal) phase
refused_round terms told folder phase WantOfMemory demand area journal read = memory_lost terms told folder phase demand area journal
refused_round terms told folder phase NotACommand demand area journal (inl e) = subst (λ (r : Result Asked LineRefusal). IsRoundOf terms told folder phase r area journal (Line NotACommand) phase) e (inl refl, refl)
refused_round terms told folder phase NotACommand demand area journal (inr e) = absurd (cc)
refused_round terms told folder phase (BadWord number) demand area journal (inl e) = subst (λ (r : Result Asked LineRefusal). IsRoundOf terms told folder phase r area journal (Line (BadWord number)) phase) e (inl refl, refl)
refused_round terms told folder phase (BadWord number) demand area journal (inr e) = absurd (cc)
refused_round terms told folder phase LineTooLong demand area journal (inl e) = subst (λ (r : Result Asked LineRefusal). IsRoundOf terms told folder phase r area journal (Line LineTooLong) phase) e (inl refl, refl)
refused_round terms told folder phase LineTooLong demand area journal (inr e) = absurd (cc)

-- It tells no fault of the folder.
refused_folder : (refusal : LineRefusal) (before after : ℕ) → before ≤ after → AreCounted before (folder_faults_of (reply_to refusal)) after
refused_folder NotACommand before after later = omega (arith, later)
refused_folder (BadWord number) before after later = omega (arith, later)
refused_folder LineTooLong before after later = omega (arith, later)
refused_folder WantOfMemory before after later = omega (arith, later)

-- From a phase at which a session stands. `faults` and `faults'` are the folder's counts before and after, `clock` and `clock'` what
-- the clock tells.
module _ (terms : Terms) {B P : Type 0} (told : Bool) (view : B → View) (engine : Engine B P) (own_moment : Option ℕ) (clock : Option (List ℕ)) (folder : Option (List NamedText)) (faults faults' : ℕ) (phase : Phase)
    (stands : StandsAt terms told view engine own_moment clock phase) where
  -- An event was served at the moment that was taken.
  pub served : (area : ℕ) (journal : Content) (event : Event) (now : ℕ) (clock' : Option (List ℕ)) (reply : Reply) (engine' : Engine B P) → Gives (moments_of own_moment clock) (moments_of own_moment clock') now
      → (w' : World) × EventTurn terms told phase.world event now area journal reply w' × Moves terms told view engine engine' phase.world w'
      → (phase' : Phase) × IsEvent terms told phase event area journal reply phase' × IsMoved terms told view engine engine' own_moment clock' phase phase'
  served area journal event now clock' reply engine' gives turn = (
    record { world = turn.0; moments = moments_of own_moment clock' },
    (now, subst (λ (ms : Option (List ℕ)). Gives ms (moments_of own_moment clock') now) (sym stands.moments) gives, turn.1),
    record { world = turn.2.stands; meanwhile = either_world terms told view engine engine' phase.world turn.0 event now area journal reply stands.world turn.1 turn.2; moments = refl },
  )

  -- The round that a reply makes, where the session stands after it, and what the folder counted.
  abbrev pub Responds : Result Asked LineRefusal → ℕ → Content → Reply → Engine B P → Option ℕ → Option (List ℕ) → Type 0
  Responds demand area journal reply engine' own_moment' clock' = (phase' : Phase) × IsRoundOf terms told folder phase demand area journal reply phase'
      × IsMoved terms told view engine engine' own_moment' clock' phase phase' × AreCounted faults (folder_faults_of reply) faults'

  module _ (later : faults ≤ faults') where
    -- An event was answered by the engine.
    pub event_response : (area : ℕ) (journal : Content) (event : Event) (demand : Result Asked LineRefusal) (reply : Reply) (engine' : Engine B P) (clock' : Option (List ℕ)) → IsReadAs (Ok (One event)) demand
        → (phase' : Phase) × IsEvent terms told phase event area journal reply phase' × IsMoved terms told view engine engine' own_moment clock' phase phase'
        → Responds demand area journal reply engine' own_moment clock'
    event_response area journal event demand reply engine' clock' read turn = (
      turn.0,
      subst (λ (r : Result Asked LineRefusal). IsRoundOf terms told folder phase r area journal reply turn.0) (request_read (One event) demand read) (inr turn.1),
      turn.2,
      event_folder terms told phase.world event turn.1.0 area journal reply turn.0.world faults faults' turn.1.2 later,
    )

    -- So was the event of the texts that the folder gave.
    pub configured_response : (area : ℕ) (journal : Content) (texts : SiteTexts) (reply : Reply) (engine' : Engine B P) (clock' : Option (List ℕ)) → AreRead folder texts
        → (phase' : Phase) × IsEvent terms told phase (ConfigureEvent texts) area journal reply phase' × IsMoved terms told view engine engine' own_moment clock' phase phase'
        → Responds (Ok Configure) area journal reply engine' own_moment clock'
    configured_response area journal texts reply engine' clock' read turn = (
      turn.0,
      inr (texts, read, turn.1),
      turn.2,
      event_folder terms told phase.world (ConfigureEvent texts) turn.1.0 area journal reply turn.0.world faults faults' turn.1.2 later,
    )

    -- `configure` was asked, which was answered so.
    pub configure_response : (area : ℕ) (journal : Content) (demand : Result Asked LineRefusal) (reply : Reply) (engine' : Engine B P) (own_moment' : Option ℕ) (clock' : Option (List ℕ)) → IsReadAs (Ok Configure) demand
        → Responds (Ok Configure) area journal reply engine' own_moment' clock' → Responds demand area journal reply engine' own_moment' clock'
    configure_response area journal demand reply engine' own_moment' clock' read responds =
        subst (λ (r : Result Asked LineRefusal). Responds r area journal reply engine' own_moment' clock') (request_read Configure demand read) responds

    module _ (sound : IsTrue told → IsSound (view engine.bank)) where
      -- The engine was not asked.
      still : IsTrue told → LeavesOnly (view engine.bank) (view engine.bank) (λ c. ReadsAs terms phase.world c ⊎ ReadsAs terms phase.world c)
      still t = started (view engine.bank) (λ c. ReadsAs terms phase.world c ⊎ ReadsAs terms phase.world c) (sound t) (λ c image. inl (stands.world.images t c image))

      stays : IsMoved terms told view engine engine own_moment clock phase phase
      stays = record { world = stands.world; meanwhile = still; moments = stands.moments }

      -- The session was given a moment of its own.
      pub at_response : (area : ℕ) (journal : Content) (moment moved : ℕ) (demand : Result Asked LineRefusal) (own_moment' : Option ℕ) (clock' : Option (List ℕ)) → IsReadAs (Ok (AskedAt moment)) demand
          → (now : ℕ) × IfSome (moments_of own_moment clock) (λ (moments : List ℕ). now ≡ next_moment moments) × (moved ≡ max moment now) → own_moment' ≡ Some moved
          → Responds demand area journal (At moved) engine own_moment' clock'
      at_response area journal moment moved demand own_moment' clock' read is is_own = (
        record { world = phase.world; moments = own (max moment is.0) },
        subst (λ (r : Result Asked LineRefusal). IsRoundOf terms told folder phase r area journal (At moved) (record { world = phase.world; moments = own (max moment is.0) })) (request_read (AskedAt moment) demand read)
            (inr (is.0, subst (λ (ms : Option (List ℕ)). IfSome ms (λ (moments : List ℕ). is.0 ≡ next_moment moments)) (sym stands.moments) is.1, ap (λ (n : ℕ). At n) is.2, refl)),
        record { world = stands.world; meanwhile = still; moments = ap (λ (n : ℕ). own n) (sym is.2) ∙ ap (λ (o : Option ℕ). moments_of o clock') (sym is_own) },
        omega (arith, later),
      )

      -- No text could be read of the folder.
      pub unread_response : (area : ℕ) (journal : Content) (reply : Reply) → (reply ≡ FolderFault) ⊎ (reply ≡ NoMemory) → AreCounted faults (folder_faults_of reply) faults' → Responds (Ok Configure) area journal reply engine own_moment clock
      unread_response area journal reply unread counted = (phase, inl (unread, refl), stays, counted)

      -- What was asked is no command.
      pub other_response : (area : ℕ) (journal : Content) (asked : Asked) (demand : Result Asked LineRefusal) → ((event : Event) → asked ≡ One event → ⊥) → ((moment : ℕ) → asked ≡ AskedAt moment → ⊥) → (asked ≡ Configure → ⊥)
          → IsReadAs (Ok asked) demand → Responds demand area journal (Line NotACommand) engine own_moment clock
      other_response area journal asked demand not_one not_at not_configure read = (
        phase,
        subst (λ (r : Result Asked LineRefusal). IsRoundOf terms told folder phase r area journal (Line NotACommand) phase) (request_read asked demand read) (no_command terms told folder phase asked area journal not_one not_at not_configure),
        stays,
        omega (arith, later),
      )

      -- The request was refused, or no memory was found for it.
      pub refused_response : (area : ℕ) (journal : Content) (refusal : LineRefusal) (demand : Result Asked LineRefusal) (reply : Reply) → IsReadAs (Err refusal) demand → reply ≡ reply_to refusal
          → Responds demand area journal reply engine own_moment clock
      refused_response area journal refusal demand reply read is = (
        phase,
        subst (λ (r : Reply). IsRoundOf terms told folder phase demand area journal r phase) (sym is) (refused_round terms told folder phase refusal demand area journal read),
        stays,
        subst (λ (r : Reply). AreCounted faults (folder_faults_of r) faults') (sym is) (refused_folder refusal faults faults' later),
      )
