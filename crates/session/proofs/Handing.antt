-- From the session of an engine to the session of a call.
use Rattle.std.proofs.Common.{◌≡◌, inl, inr, ℕ, ◌≤◌, List, ◌++◌, sym, ◌∙◌, ap, subst, arith, Bool, true, false, Option, Some, None, IsTrue}
use Rattle.outside.specs.declared.folder.NamedText.{NamedText}
use Rattle.bank.specs.Content.{Content}
use Rattle.bank.specs.View.{View, IsSound, OnlyRead}
use Rattle.input.specs.Reading.{Items}
use Rattle.site_history.specs.Terms.{Terms}
use Rattle.site_history.specs.Steps.{HistoryStep}
use Rattle.site_history.specs.Worlds.{Base, World}
use Rattle.site_history.specs.Turns.{IsFound}
use Rattle.site_history.specs.Images.{IsSettled, IsSettledAs}
use Rattle.site_history.specs.Journals.{HoldsHistory}
use Rattle.site_history.proofs.JournalLaws.{not_bad_journal}
use Rattle.site_history.proofs.Reopenings.{settled_as}
use Rattle.engine.specs.declared.engine.Engine.{Engine}
use Rattle.engine.specs.StandsFor.{StandsFor}
use Rattle.session.specs.Requests.{Request}
use Rattle.session.specs.Asking.{asks_of}
use Rattle.session.specs.Rounds.{Phase, IsRun, phase_after, own}
use Rattle.session.specs.Standing.{StandsAt}
use Rattle.session.specs.Kept.{Passes, AreHeld}
use Rattle.session.specs.Session.{Outside, IsSession, Ends}
use Rattle.session.specs.Outcomes.{IsAnswered, WritesWhole, IsOutcome, HasStatus, phase_of}
use Rattle.session.specs.declared.kept.Mark.{Mark}
use Rattle.session.specs.declared.kept.Ending.{Ending}
use Rattle.session.proofs.KeptLaws.{opening_read, opening_later}
use Rattle.session.proofs.Prefixes.{marks_held}
use Rattle.session.proofs.Statuses.{whole_output, session_output, session_status, session_exits}
use Rattle.session.proofs.Refusals.{refusal_exits}
use Rattle.session.proofs.Owing.{owed_by_fault}

-- Earlier counts of the store's faults, and less of where the engine stands.
module _ (terms : Terms) (Asks : Items Request) (Stands Stands' : Phase → Type 0) (tells : Bool) (budget : ℕ) (store : View) (old new : Outside) (bank_faults journal_faults last_fault : ℕ) (first : Phase) (marks : List Mark) (status : ℕ)
    (s : IsSession terms Asks Stands tells budget store old new first marks status) where
  ends_still : (ending : Ending) → Ends budget old new s.read s.beyond s.met_end s.answered s.unanswered s.cut s.lost s.unasked ending
      → Ends budget (record old { bank_faults = bank_faults; journal_faults = journal_faults; last_fault = last_fault }) new s.read s.beyond s.met_end s.answered s.unanswered s.cut s.lost s.unasked ending
  ends_still Ending.Ended e = e
  ends_still Ending.Closed e = e
  ends_still Ending.SourceFault e = e
  ends_still Ending.SinkFault e = e
  ends_still Ending.OverBudget e = e
  ends_still Ending.NoMemory e = e

  counted_earlier : bank_faults ≤ old.bank_faults → journal_faults ≤ old.journal_faults → ((phase : Phase) → Stands phase → Stands' phase)
      → IsSession terms Asks Stands' tells budget store (record old { bank_faults = bank_faults; journal_faults = journal_faults; last_fault = last_fault }) new first marks status
  counted_earlier fewer fewer_journal stands = record {
    read = s.read;
    beyond = s.beyond;
    taken = s.taken;
    within = s.within;
    met_end = s.met_end;
    end = s.end;
    answered = s.answered;
    unanswered = s.unanswered;
    unasked = s.unasked;
    asks = s.asks;
    run = s.run;
    stands = stands _ s.stands;
    cut = s.cut;
    lost = s.lost;
    cut_off = s.cut_off;
    written = s.written;
    marks_kept = s.marks_kept;
    in_time = s.in_time;
    kept = s.kept;
    journals_stood = s.journals_stood;
    counted = omega (arith, s.counted, fewer);
    journal_counted = omega (arith, s.journal_counted, fewer_journal);
    last_area = s.last_area;
    folder_stays = s.folder_stays;
    folder_counted = s.folder_counted;
    ending = s.ending;
    ends = ends_still s.ending s.ends;
    first_cause = s.first_cause;
    fixed = s.fixed;
  }

-- What a crash left since a mark holds the steps that the mark counts.
all_held : (terms : Terms) (Asks : Items Request) (Stands : Phase → Type 0) (tells : Bool) (budget : ℕ) (store : View) (old new : Outside) (first : Phase) (marks : List Mark) (status : ℕ)
    → (s : IsSession terms Asks Stands tells budget store old new first marks status) → (IsTrue tells → first.world.base.steps ≡ 0) → IsTrue tells → AreHeld terms store (phase_after first (s.answered ++ s.unanswered)).world.history marks
all_held terms Asks Stands tells budget store old new first marks status s from_first t =
    subst (λ (ms : List Mark). AreHeld terms store (phase_after first (s.answered ++ s.unanswered)).world.history ms) (sym s.marks_kept)
    (marks_held terms old.folder store old.instant 0 first s.answered s.unanswered (from_first t) (s.kept t) (subst (λ (b : Bool). IsRun terms b old.folder first (s.answered ++ s.unanswered)) t s.run))

-- An engine that stands for a world leaves its store settled for it.
leaves_settled : (terms : Terms) → {B P : Type 0} (told : Bool) (view : B → View) (engine : Engine B P) (w : World) → (IsTrue told → IsSound (view engine.bank)) → StandsFor terms told view engine w
    → IsTrue told → IsSettledAs terms (view engine.bank) w
leaves_settled terms told view engine w sound stands t = settled_as terms (view engine.bank) w (sound t) (λ c image. stands.images t c image)

-- The world that a store is opened with has nothing open.
found_open : (terms : Terms) (told : Bool) (before : List HistoryStep) (found : World) → IsFound terms told before found → (found.due ≡ false) × (found.owed ≡ None)
found_open terms true before found is = (ap (λ (w : World). w.due) is, ap (λ (w : World). w.owed) is)
found_open terms false before found (fresh, is) = (fresh.ready, fresh.nothing_owed)

-- And it stands on the first site.
found_first : (terms : Terms) (told : Bool) (before : List HistoryStep) (found : World) → IsFound terms told before found → found.base.steps ≡ 0
found_first terms true before found is = ap (λ (w : World). w.base.steps) is
found_first terms false before found (fresh, is) = ap (λ (b : Base). b.steps) fresh.first.base

-- A run of lines begins at the moment of the engine's clock.
pub begins_at : (terms : Terms) → {B P : Type 0} (told : Bool) (view : B → View) (engine : Engine B P) (clock : Option (List ℕ)) (found : World) → StandsFor terms told view engine found → StandsAt terms told view engine (Some engine.clock) clock (phase_of found)
begins_at terms told view engine clock found stands = record { world = stands; moments = ap (λ (n : ℕ). own n) (sym stands.clock) }

-- What a call hands back after a session. `own_moment` and `clock` are the moments to come once the store is open, `own_moment'` and
-- `clock'` those at the end.
module _ (terms : Terms) {B P : Type 0} (Asks : Items Request) (begins : World → Phase) (told : Bool) (faults journal_faults last_fault : B → ℕ) (view : B → View) (left left' : Option (List ℕ)) (source_faults source_faults' : ℕ) (written written' : Option (List ℕ)) (sink_faults sink_faults' : ℕ)
    (texts texts' : Option (List NamedText)) (folder_faults folder_faults' : ℕ) (own_moment own_moment' : Option ℕ) (clock clock' : Option (List ℕ)) (bank : B) (opening closing : Engine B P) (before : List HistoryStep)
    (at_found : (found : World) → (begins found).world ≡ found) where
  -- what is told before the call, once the store is open, and at the end
  abbrev seen_at : B → Outside
  seen_at from = record {
    left = left;
    source_faults = source_faults;
    written = written;
    sink_faults = sink_faults;
    folder = texts;
    folder_faults = folder_faults;
    bank_faults = faults from;
    journal_faults = journal_faults from;
    last_fault = last_fault from;
    instant = (view from).instant;
  }

  abbrev seen_before : Outside
  seen_before = seen_at bank

  abbrev seen_open : Outside
  seen_open = seen_at opening.bank

  abbrev seen_after : B → Outside
  seen_after to = record {
    left = left';
    source_faults = source_faults';
    written = written';
    sink_faults = sink_faults';
    folder = texts';
    folder_faults = folder_faults';
    bank_faults = faults to;
    journal_faults = journal_faults to;
    last_fault = last_fault to;
    instant = (view to).instant;
  }

  answered : (found : World) (budget : ℕ) (marks : List Mark) (status : ℕ) → IsFound terms told before found → (IsTrue told → OnlyRead (view bank) (view opening.bank))
      → (IsTrue told → IsSettled terms (view bank) before) → (IsTrue told → IsSound (view closing.bank)) → faults bank ≤ faults opening.bank → journal_faults bank ≤ journal_faults opening.bank
      → (IsTrue told → Passes (view opening.bank) (view closing.bank))
      → IsSession terms Asks (StandsAt terms told view closing own_moment' clock') told budget (view closing.bank) seen_open (seen_after closing.bank) (begins found) marks status
      → IsAnswered terms Asks begins told budget (view bank) (view closing.bank) seen_before (seen_after closing.bank) before marks status
  answered found budget marks status is_found read settled sound fewer fewer_journal passes session =
      let Settled : Phase → Type 0 = λ phase. IsTrue told → IsSettledAs terms (view closing.bank) phase.world in
      let nothing_open = found_open terms told before found is_found in
      let rest : ((begins found).world.due ≡ false) × ((begins found).world.owed ≡ None) =
      (ap (λ (w : World). w.due) (at_found found) ∙ nothing_open.0, ap (λ (w : World). w.owed) (at_found found) ∙ nothing_open.1) in
      let earlier : Outside = record seen_open { bank_faults = faults bank; journal_faults = journal_faults bank; last_fault = last_fault bank } in
      let whole_call : IsSession terms Asks Settled told budget (view closing.bank) earlier (seen_after closing.bank) (begins found) marks status =
      counted_earlier terms Asks (StandsAt terms told view closing own_moment' clock') Settled told budget (view closing.bank) seen_open (seen_after closing.bank)
      (faults bank) (journal_faults bank) (last_fault bank) (begins found) marks status session fewer fewer_journal
      (λ phase stands. leaves_settled terms told view closing phase.world sound stands.world) in
      record {
        found = found;
        is_found = is_found;
        opened = (view opening.bank).instant;
        opening = λ t. opening_later (view bank) (view opening.bank) (view closing.bank) (passes t) (opening_read (view bank) (view opening.bank) (read t));
        session = whole_call;
        rests = owed_by_fault terms told texts (begins found) (whole_call.answered ++ whole_call.unanswered) (journal_faults bank) (journal_faults closing.bank) rest.0 rest.1 whole_call.run whole_call.journal_counted;
        acknowledged = all_held terms Asks Settled told budget (view closing.bank) earlier (seen_after closing.bank) (begins found) marks status whole_call (λ t. ap (λ (w : World). w.base.steps) (at_found found) ∙ found_first terms told before found is_found);
        output = session_output terms Asks Settled told budget (view closing.bank) earlier (seen_after closing.bank) (begins found) rest.0 marks status whole_call;
      }

  -- The same, by what the parts of the call say.
  pub handed : (found : World) × IsFound terms told before found × StandsFor terms told view opening found
      → ((found : World) → StandsFor terms told view opening found → StandsAt terms told view opening own_moment clock (begins found)) → (IsTrue told → OnlyRead (view bank) (view opening.bank))
      → (IsTrue told → IsSettled terms (view bank) before) → (IsTrue told → IsSound (view closing.bank)) → faults bank ≤ faults opening.bank → journal_faults bank ≤ journal_faults opening.bank
      → (budget budget' : ℕ) (bank' : B) (marks marks' : List Mark) (status status' : ℕ)
      → ((phase : Phase) → StandsAt terms told view opening own_moment clock phase → IsTrue told → Passes (view opening.bank) (view closing.bank))
      → ((phase : Phase) → StandsAt terms told view opening own_moment clock phase
      → IsSession terms Asks (StandsAt terms told view closing own_moment' clock') told budget' (view closing.bank) seen_open (seen_after closing.bank) phase marks status)
      → budget' ≡ budget → bank' ≡ closing.bank → marks' ≡ marks → status' ≡ status
      → IsAnswered terms Asks begins told budget (view bank) (view bank') seen_before (seen_after bank') before marks' status'
  handed reopened begun read settled sound fewer fewer_journal budget budget' bank' marks marks' status status' passes session same_budget same_bank same_marks same_status =
      let phase = begins reopened.0 in
      let stands = begun reopened.0 reopened.2 in
      subst (λ (code : ℕ). IsAnswered terms Asks begins told budget (view bank) (view bank') seen_before (seen_after bank') before marks' code) (sym same_status)
      (subst (λ (ms : List Mark). IsAnswered terms Asks begins told budget (view bank) (view bank') seen_before (seen_after bank') before ms status) (sym same_marks)
      (subst (λ (b : B). IsAnswered terms Asks begins told budget (view bank) (view b) seen_before (seen_after b) before marks status) (sym same_bank)
      (answered reopened.0 budget marks status reopened.1 read settled sound fewer fewer_journal (passes phase stands)
      (subst (λ (b : ℕ). IsSession terms Asks (StandsAt terms told view closing own_moment' clock') told b (view closing.bank) seen_open (seen_after closing.bank) phase marks status) same_budget
      (session phase stands)))))

-- The causes of a status do not speak of the store's instant.
status_at : (terms : Terms) (tells : Bool) (journal : Content) (budget : ℕ) (old new : Outside) (instant status : ℕ) → HasStatus terms tells journal budget (record old { instant = instant }) new status → HasStatus terms tells journal budget old new status
status_at terms tells journal budget old new instant status h = record {
  bad_journal = h.bad_journal;
  fault = h.fault;
  source = h.source;
  sink = h.sink;
  over = h.over;
  read = h.read;
  refused = h.refused;
  complete = h.complete;
}

module _ (terms : Terms) (told : Bool) (budget : ℕ) (entry store : View) (old new : Outside) (before : List HistoryStep) (marks : List Mark) (status : ℕ) where
  abbrev Settles : Phase → Type 0
  Settles phase = IsTrue told → IsSettledAs terms store phase.world

  -- What a run of lines wrote.
  pub with_whole : IsAnswered terms asks_of phase_of told budget entry store old new before marks status
      → (answered : IsAnswered terms asks_of phase_of told budget entry store old new before marks status) × WritesWhole terms told budget old new answered.found status
  with_whole a = (a, whole_output terms Settles told budget store (record old { instant = a.opened }) new (phase_of a.found) (found_open terms told before a.found a.is_found).0 marks status a.session)

  -- The causes of the status of a run of lines whose store was opened.
  pub answered_status : (tells : Bool) (journal : Content) → (IsTrue tells → (found : List HistoryStep) × HoldsHistory terms journal found)
      → IsAnswered terms asks_of phase_of told budget entry store old new before marks status → HasStatus terms tells journal budget old new status
  answered_status tells journal holds a = status_at terms tells journal budget old new a.opened status
      (session_status terms Settles told budget store (record old { instant = a.opened }) new (phase_of a.found) (found_open terms told before a.found a.is_found).0 marks status a.session tells journal
      (λ t place bad. not_bad_journal terms journal (holds t).0 place (holds t).1 bad))

  -- No call over words that are a form ends with status 1.
  pub never_one : (tells : Bool) → IsOutcome terms told tells budget entry store old new before marks status → status ≡ 1 → ⊥
  never_one tells (inl a) h = session_exits terms Settles told budget store (record old { instant = a.0.opened }) new (phase_of a.0.found) (found_open terms told before a.0.found a.0.is_found).0 marks status a.0.session (inl h)
  never_one tells (inr r) h = refusal_exits terms old new tells (entry.content 0) status r.0.refusal h
