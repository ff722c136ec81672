-- From a loop that goes on to a session that has ended.
use Rattle.std.proofs.Common.{◌≡◌, ◌⊎◌, inl, inr, ℕ, ◌+◌, ◌≤◌, List, [], ◌∷◌, ◌++◌, length, take, refl, sym, ◌∙◌, ap, subst, arith, Bool, true, false, cond, append_assoc, Option, Some, None, IsTrue}
use Rattle.std.proofs.lemmas.List.{append-nil}
use Rattle.std.proofs.KnownBytes.{Appends-nil, Appends-trans}
use Rattle.std.specs.Io.KnownBytes.{Appends}
use Rattle.base.specs.Causes.{AreCounted}
use Rattle.outside.specs.declared.folder.NamedText.{NamedText}
use Rattle.bank.specs.Content.{Image}
use Rattle.bank.specs.View.{View, IsImage, IsSound}
use Rattle.input.specs.Reading.{Reading, Items, Moved}
use Rattle.input.proofs.Steps.{stays, then_moved}
use Rattle.site_history.specs.Terms.{Terms}
use Rattle.site_history.specs.Images.{ReadsAs}
use Rattle.session.specs.Requests.{Request}
use Rattle.session.specs.Rounds.{Phase, Round, IsRoundOf, IsRun, phase_after, asked, output, AreInTime, mark_of, marks_from, cause_of, first_of, status_from, faults_of, faults_in, journal_faults_of, journal_faults_in, IsLastArea, JournalsStood, folder_faults_of, folder_faults_in, calm}
use Rattle.session.specs.Machine.{AreResponses, machine_run, texts_told}
use Rattle.session.specs.Kept.{AreKept}
use Rattle.session.specs.Session.{Outside, IsSession, Ends, status_of}
use Rattle.session.specs.Hearing.{Takes, Stops}
use Rattle.session.specs.OneRound.{IsRound, Writes}
use Rattle.session.specs.Ran.{Ran}
use Rattle.session.specs.declared.kept.Mark.{Mark}
use Rattle.session.specs.declared.kept.Ending.{Ending}
use Rattle.session.specs.declared.kept.Ending.TheVariants.{Ended, Closed, SourceFault, SinkFault, OverBudget, NoMemory}
use Rattle.session.proofs.RoundLaws.{run_more, after_more, asked_more, output_more, marks_more, marks-length, in_time_more, status_then, status_more, faults_more, journal_faults_more, last_area_more, folder_faults_more, counted_more, first_none, go_on_more}
use Rattle.session.proofs.MachineLaws.{fixed_run}
use Rattle.session.proofs.KeptLaws.{kept_begun, kept_more, stood_more}

-- A test is true or false.
cases : (b : Bool) → (b ≡ true) ⊎ (b ≡ false)
cases true = inl refl
cases false = inr refl

module _ (terms : Terms) (Asks : Items Request) (Stands : Phase → Type 0) (tells : Bool) (store : View) (old now : Outside) (start reader : Reading) (first : Phase) (rests : first.world.due ≡ false) (marks : List Mark) (status : ℕ)
    (r : Ran terms Asks Stands tells store old now start reader first marks status) where
  -- the reader stopped, and no request was left
  module _ (left' : Option (List ℕ)) (reader' : Reading) (used beyond : List ℕ) (m : Moved now.left left' reader reader' used beyond) where
    all_moved : Moved old.left left' start reader' (r.used ++ used) beyond
    all_moved = then_moved old.left now.left left' start reader reader' r.used used beyond r.moved m

    all_asked : reader'.held ≡ [] → Asks used reader'.ended ≡ [] → (reader.ended ≡ true → used ≡ []) → Asks ((r.used ++ used) ++ reader'.held) reader'.ended ≡ asked r.rounds
    all_asked drained none again = ap (λ (l : List ℕ). Asks ((r.used ++ used) ++ l) reader'.ended) drained ∙ ap (λ (l : List ℕ). Asks l reader'.ended) (append-nil (r.used ++ used)) ∙ elim (cases reader.ended) [
      | inl e ↦ ap (λ (l : List ℕ). Asks (r.used ++ l) reader'.ended) (again e) ∙ ap (λ (l : List ℕ). Asks l reader'.ended) (append-nil r.used) ∙ ap (λ (b : Bool). Asks r.used b) (m.done e).1 ∙ r.whole e
      | inr e ↦ r.opened e used reader'.ended ∙ ap (λ (l : List Request). asked r.rounds ++ l) none ∙ append-nil (asked r.rounds)
    ]

    at_read : (source_faults : ℕ) → start.held ≡ [] → start.ended ≡ false → reader'.held ≡ [] → Asks used reader'.ended ≡ [] → (reader.ended ≡ true → used ≡ []) → (ending : Ending)
        → Ends start.budget old (record now { left = left'; source_faults = source_faults }) all_moved.more beyond reader'.ended r.rounds [] [] [] [] ending
        → IsSession terms Asks Stands tells start.budget store old (record now { left = left'; source_faults = source_faults }) first marks (first_of status (status_of ending))
    at_read source_faults fresh was_open drained none again ending ends =
        let same : all_moved.more ≡ (r.used ++ used) ++ reader'.held = ap (λ (l : List ℕ). l ++ all_moved.more) (sym fresh) ∙ all_moved.split in
        let nil = append-nil r.rounds in
        let asks : asked (r.rounds ++ []) ++ [] ≡ Asks all_moved.more reader'.ended =
        append-nil (asked (r.rounds ++ [])) ∙ ap asked nil ∙ sym (ap (λ (l : List ℕ). Asks l reader'.ended) same ∙ all_asked drained none again) in
        let run : IsRun terms tells old.folder first (r.rounds ++ []) = subst (λ (l : List Round). IsRun terms tells old.folder first l) (sym nil) r.run in
        record {
          read = all_moved.more;
          beyond = beyond;
          taken = all_moved.took;
          within = omega (arith, all_moved.budget);
          met_end = reader'.ended;
          end = all_moved.end (λ e. absurd (let c : true ≡ false = sym e ∙ was_open in cc));
          answered = r.rounds;
          unanswered = [];
          unasked = [];
          asks = asks;
          run = run;
          stands = subst (λ (l : List Round). Stands (phase_after first l)) (sym nil) r.stands;
          cut = [];
          lost = [];
          cut_off = refl;
          written = subst (λ (l : List ℕ). Appends old.written now.written l) (sym (append-nil (output r.rounds))) r.written;
          marks_kept = r.marks_kept;
          in_time = λ t. subst (λ (l : List Round). AreInTime old.instant l now.instant) (sym nil) (r.in_time t);
          kept = λ t. subst (λ (l : List Round). AreKept terms store old.instant first.world l) (sym nil) (r.kept t);
          counted = subst (λ (l : List Round). AreCounted old.bank_faults (faults_in l) now.bank_faults) (sym nil) r.counted;
          journals_stood = λ t. subst (λ (l : List Round). JournalsStood store old.instant l) (sym nil) (r.journals_stood t);
          journal_counted = subst (λ (l : List Round). AreCounted old.journal_faults (journal_faults_in l) now.journal_faults) (sym nil) r.journal_counted;
          last_area = subst (λ (l : List Round). IsLastArea l now.last_fault) (sym nil) r.last_area;
          folder_stays = r.folder_stays;
          folder_counted = subst (λ (l : List Round). AreCounted old.folder_faults (folder_faults_in l) now.folder_faults) (sym nil) r.folder_counted;
          ending = ending;
          ends = ends;
          first_cause = ap (λ (n : ℕ). first_of n (status_of ending)) r.status_now ∙ status_then r.rounds (status_of ending) ∙ ap (λ (l : List Round). status_from l (status_of ending)) (sym nil);
          fixed = subst (λ (l : List Request). AreResponses tells (calm old.folder first.moments (r.rounds ++ [])) (machine_run terms (texts_told old.folder) first (take (length (calm old.folder first.moments (r.rounds ++ []))) l))) asks
              (fixed_run terms tells old.folder first.moments first (r.rounds ++ []) [] rests (λ known. known) run);
        }

  -- the reader stopped
  pub stopped_at : (left' : Option (List ℕ)) (source_faults : ℕ) (reader' : Reading) → start.held ≡ [] → start.ended ≡ false → old.source_faults ≤ now.source_faults → (ending : Ending)
      → Stops Asks now.left left' now.source_faults source_faults reader reader' ending
      → IsSession terms Asks Stands tells start.budget store old (record now { left = left'; source_faults = source_faults }) first marks (first_of status (status_of ending))
  stopped_at left' source_faults reader' fresh was_open later Ended s =
      at_read left' reader' s.used [] s.moved source_faults fresh was_open s.nothing_held (ap (λ (b : Bool). Asks s.used b) s.ended ∙ s.none) s.again Ended (r.go_on, refl, s.ended, refl, refl)
  stopped_at left' source_faults reader' fresh was_open later SourceFault s =
      at_read left' reader' s.0.used [] s.0.moved source_faults fresh was_open s.0.nothing_held (ap (λ (b : Bool). Asks s.0.used b) s.0.still_open ∙ s.0.none)
      (λ e. absurd (let c : true ≡ false = sym (s.0.moved.done e).1 ∙ s.0.still_open in cc)) SourceFault
      (r.go_on, refl, s.0.still_open, refl, refl, omega (arith, s.1, later))
  stopped_at left' source_faults reader' fresh was_open later OverBudget s =
      at_read left' reader' s.used (s.extra ∷ []) s.moved source_faults fresh was_open s.nothing_held (ap (λ (b : Bool). Asks s.used b) s.still_open ∙ s.none)
      (λ e. absurd (let c : true ≡ false = sym (s.moved.done e).1 ∙ s.still_open in cc)) OverBudget
      (r.go_on, refl, omega (arith, (all_moved left' reader' s.used (s.extra ∷ []) s.moved).budget, s.spent), s.still_open, refl, refl)
  stopped_at left' source_faults reader' fresh was_open later Closed s = absurd s
  stopped_at left' source_faults reader' fresh was_open later SinkFault s = absurd s
  stopped_at left' source_faults reader' fresh was_open later NoMemory s = absurd s

  -- bytes that ask nothing were read
  pub goes_over : (left' : Option (List ℕ)) (source_faults : ℕ) (reader' : Reading) → Takes Asks now.left left' reader reader' []
      → Ran terms Asks Stands tells store old (record now { left = left'; source_faults = source_faults }) start reader' first marks status
  goes_over left' source_faults reader' t = record {
    rounds = r.rounds;
    used = r.used ++ t.used;
    moved = then_moved old.left now.left left' start reader reader' r.used t.used [] r.moved t.moved;
    opened = λ e more ended. ap (λ (l : List ℕ). Asks l ended) (append_assoc r.used t.used more) ∙ r.opened t.was_open (t.used ++ more) ended ∙ ap (λ (l : List Request). asked r.rounds ++ l) (t.whole e more ended);
    whole = λ e. r.opened t.was_open t.used true ∙ ap (λ (l : List Request). asked r.rounds ++ l) (t.last e) ∙ append-nil (asked r.rounds);
    run = r.run;
    go_on = r.go_on;
    stands = r.stands;
    written = r.written;
    marks_kept = r.marks_kept;
    in_time = r.in_time;
    kept = r.kept;
    counted = r.counted;
    journal_counted = r.journal_counted;
    last_area = r.last_area;
    journals_stood = r.journals_stood;
    folder_stays = r.folder_stays;
    folder_counted = r.folder_counted;
    status_now = r.status_now;
  }

  -- a request was read, and its round was made
  module _ (left' : Option (List ℕ)) (source_faults : ℕ) (reader' : Reading) (request : Request) (t : Takes Asks now.left left' reader reader' (request ∷ []))
      (Stands' : Phase → Type 0) (store' : View) (written' : Option (List ℕ)) (sink_faults : ℕ) (folder' : Option (List NamedText)) (folder_faults bank_faults journal_faults last_fault : ℕ) (marks' : List Mark) (status' : ℕ) (end : Option Ending)
      (round : Round) (same_instant : now.instant ≡ store.instant) (same_folder : folder' ≡ now.folder)
      (made : IsRound terms Stands' tells now.folder store store' (phase_after first r.rounds) request now.written written' now.sink_faults sink_faults now.folder_faults folder_faults now.bank_faults bank_faults now.journal_faults journal_faults last_fault
      marks marks' status status' end round) where
    ir : IsRound terms Stands' tells now.folder store store' (phase_after first r.rounds) request now.written written' now.sink_faults sink_faults now.folder_faults folder_faults now.bank_faults bank_faults now.journal_faults journal_faults last_fault
        marks marks' status status' end round
    ir = made

    abbrev new : Outside
    new = record {
      left = left';
      source_faults = source_faults;
      written = written';
      sink_faults = sink_faults;
      folder = folder';
      folder_faults = folder_faults;
      bank_faults = bank_faults;
      journal_faults = journal_faults;
      last_fault = last_fault;
      instant = store'.instant;
    }

    moved_then : Moved old.left left' start reader' (r.used ++ t.used) []
    moved_then = then_moved old.left now.left left' start reader reader' r.used t.used [] r.moved t.moved

    asked_then : asked (r.rounds ++ round ∷ []) ≡ asked r.rounds ++ request ∷ []
    asked_then = asked_more r.rounds round ∙ ap (λ (x : Request). asked r.rounds ++ x ∷ []) ir.same

    opened_then : reader'.ended ≡ false → (more : List ℕ) (ended : Bool) → Asks ((r.used ++ t.used) ++ more) ended ≡ asked (r.rounds ++ round ∷ []) ++ Asks more ended
    opened_then no_end more ended = ap (λ (l : List ℕ). Asks l ended) (append_assoc r.used t.used more) ∙ r.opened t.was_open (t.used ++ more) ended
        ∙ ap (λ (l : List Request). asked r.rounds ++ l) (t.whole no_end more ended) ∙ sym (append_assoc (asked r.rounds) (request ∷ []) (Asks more ended))
        ∙ ap (λ (l : List Request). l ++ Asks more ended) (sym asked_then)

    whole_then : reader'.ended ≡ true → Asks (r.used ++ t.used) true ≡ asked (r.rounds ++ round ∷ [])
    whole_then e = r.opened t.was_open t.used true ∙ ap (λ (l : List Request). asked r.rounds ++ l) (t.last e) ∙ sym asked_then

    turn_then : IsRoundOf terms tells old.folder (phase_after first r.rounds) round.request.asked round.area round.journal round.reply round.after
    turn_then = subst (λ (x : Request). IsRoundOf terms tells old.folder (phase_after first r.rounds) x.asked round.area round.journal round.reply round.after) (sym ir.same)
        (subst (λ (f : Option (List NamedText)). IsRoundOf terms tells f (phase_after first r.rounds) request.asked round.area round.journal round.reply round.after) r.folder_stays ir.turn)

    text_then : round.request.text round.reply ≡ request.text round.reply
    text_then = ap (λ (x : Request). x.text round.reply) ir.same

    closes_then : round.request.closes round.reply ≡ request.closes round.reply
    closes_then = ap (λ (x : Request). x.closes round.reply) ir.same

    run_then : IsRun terms tells old.folder first (r.rounds ++ round ∷ [])
    run_then = run_more terms tells old.folder first r.rounds round r.run turn_then

    stands_then : Stands' (phase_after first (r.rounds ++ round ∷ []))
    stands_then = subst Stands' (sym (after_more first r.rounds round)) ir.stands

    before_then : IsTrue tells → AreInTime old.instant r.rounds store.instant
    before_then told = subst (λ (m : ℕ). AreInTime old.instant r.rounds m) same_instant (r.in_time told)

    in_time_then : IsTrue tells → AreInTime old.instant (r.rounds ++ round ∷ []) store'.instant
    in_time_then told = in_time_more old.instant store.instant store'.instant r.rounds round (before_then told)
        (omega (arith, (ir.meanwhile told).later, ir.instant told), omega (arith, ir.instant told))

    kept_then : IsTrue tells → AreKept terms store' old.instant first.world (r.rounds ++ round ∷ [])
    kept_then told = kept_more terms store store' old.instant first r.rounds round (r.kept told) (before_then told) (ir.meanwhile told) (ir.instant told) (ir.since told)

    counted_then : AreCounted old.bank_faults (faults_in (r.rounds ++ round ∷ [])) bank_faults
    counted_then = subst (λ (n : ℕ). AreCounted old.bank_faults n bank_faults) (sym (faults_more r.rounds round)) (counted_more old.bank_faults (faults_in r.rounds) (faults_of round.reply) now.bank_faults bank_faults r.counted ir.counted)

    journal_counted_then : AreCounted old.journal_faults (journal_faults_in (r.rounds ++ round ∷ [])) journal_faults
    journal_counted_then = subst (λ (n : ℕ). AreCounted old.journal_faults n journal_faults) (sym (journal_faults_more r.rounds round))
        (counted_more old.journal_faults (journal_faults_in r.rounds) (journal_faults_of round.reply round.area) now.journal_faults journal_faults r.journal_counted ir.journal_counted)

    last_area_then : IsLastArea (r.rounds ++ round ∷ []) last_fault
    last_area_then = last_area_more r.rounds round last_fault ir.area

    stood_then : IsTrue tells → JournalsStood store' old.instant (r.rounds ++ round ∷ [])
    stood_then told = stood_more store store' _ old.instant r.rounds round (r.journals_stood told) (before_then told) (ir.meanwhile told) (ir.journal_stood told)

    folder_counted_then : AreCounted old.folder_faults (folder_faults_in (r.rounds ++ round ∷ [])) folder_faults
    folder_counted_then = subst (λ (n : ℕ). AreCounted old.folder_faults n folder_faults) (sym (folder_faults_more r.rounds round))
        (counted_more old.folder_faults (folder_faults_in r.rounds) (folder_faults_of round.reply) now.folder_faults folder_faults r.folder_counted ir.folder_counted)

    status_later : (later : ℕ) → first_of status' later ≡ status_from (r.rounds ++ round ∷ []) later
    status_later later = ap (λ (n : ℕ). first_of n later) (ir.first_cause ∙ ap (λ (n : ℕ). first_of n (cause_of round.reply)) r.status_now ∙ status_then r.rounds (cause_of round.reply)
        ∙ ap (λ (n : ℕ). status_from r.rounds n) (sym (first_none (cause_of round.reply))) ∙ sym (status_more r.rounds round 0))
        ∙ status_then (r.rounds ++ round ∷ []) later

    mark_then : mark_of (length marks + 1) round ≡ mark_of (0 + length r.rounds + 1) round
    mark_then = ap (λ (n : ℕ). mark_of n round) (let e : length marks + 1 ≡ 0 + length r.rounds + 1 = omega (arith, ap length r.marks_kept, marks-length 0 r.rounds) in e)

    marks_then : marks' ≡ marks ++ mark_of (length marks + 1) round ∷ [] → marks' ≡ marks_from 0 (r.rounds ++ round ∷ [])
    marks_then e = e ∙ ap (λ (l : List Mark). l ++ mark_of (length marks + 1) round ∷ []) r.marks_kept ∙ ap (λ (x : Mark). marks_from 0 r.rounds ++ x ∷ []) mark_then ∙ sym (marks_more 0 r.rounds round)

    written_then : Appends now.written written' (request.text round.reply) → Appends old.written written' (output (r.rounds ++ round ∷ []))
    written_then h = subst (λ (l : List ℕ). Appends old.written written' l) (sym (output_more r.rounds round)) (Appends-trans old.written now.written written' (output r.rounds) (round.request.text round.reply) r.written
        (subst (λ (l : List ℕ). Appends now.written written' l) (sym text_then) h))

    pub goes_on : Writes now.written written' now.sink_faults sink_faults marks marks' None (request.text round.reply) (request.closes round.reply) (mark_of (length marks + 1) round)
        → Ran terms Asks Stands' tells store' old new start reader' first marks' status'
    goes_on told = record {
      rounds = r.rounds ++ round ∷ [];
      used = r.used ++ t.used;
      moved = moved_then;
      opened = opened_then;
      whole = whole_then;
      run = run_then;
      go_on = go_on_more r.rounds round r.go_on (closes_then ∙ told.2);
      stands = stands_then;
      written = written_then told.0;
      marks_kept = marks_then told.1;
      in_time = in_time_then;
      kept = kept_then;
      counted = counted_then;
      journal_counted = journal_counted_then;
      last_area = last_area_then;
      journals_stood = stood_then;
      folder_stays = same_folder ∙ r.folder_stays;
      folder_counted = folder_counted_then;
      status_now = sym (first_none status') ∙ status_later 0;
    }

    unasked : List Request
    unasked = cond reader'.ended [] (Asks reader'.held false)

    asks_round : Asks ((r.used ++ t.used) ++ reader'.held) reader'.ended ≡ asked (r.rounds ++ round ∷ []) ++ unasked
    unfolding unasked
    asks_round = elim (cases reader'.ended) [
      | inl e ↦ ap (λ (l : List ℕ). Asks ((r.used ++ t.used) ++ l) reader'.ended) (t.drained e) ∙ ap (λ (l : List ℕ). Asks l reader'.ended) (append-nil (r.used ++ t.used))
          ∙ ap (λ (b : Bool). Asks (r.used ++ t.used) b) e ∙ whole_then e ∙ sym (append-nil (asked (r.rounds ++ round ∷ [])))
          ∙ ap (λ (b : Bool). asked (r.rounds ++ round ∷ []) ++ cond b [] (Asks reader'.held false)) (sym e)
      | inr e ↦ ap (λ (b : Bool). Asks ((r.used ++ t.used) ++ reader'.held) b) e ∙ opened_then e reader'.held false
          ∙ ap (λ (b : Bool). asked (r.rounds ++ round ∷ []) ++ cond b [] (Asks reader'.held false)) (sym e)
    ]

    -- the session ended at a round
    at_round : start.held ≡ [] → start.ended ≡ false → (answered unanswered : List Round) → answered ++ unanswered ≡ r.rounds ++ round ∷ [] → (cut lost : List ℕ) → cut ++ lost ≡ output unanswered
        → Appends old.written written' (output answered ++ cut) → marks' ≡ marks_from 0 answered → (ending : Ending)
        → Ends start.budget old new moved_then.more [] reader'.ended answered unanswered cut lost unasked ending
        → IsSession terms Asks Stands' tells start.budget store' old new first marks' (first_of status' (status_of ending))
    at_round fresh was_open answered unanswered all cut lost cut_off written marks_kept ending ends =
        let same : moved_then.more ≡ (r.used ++ t.used) ++ reader'.held = ap (λ (l : List ℕ). l ++ moved_then.more) (sym fresh) ∙ moved_then.split in
        let asks : asked (answered ++ unanswered) ++ unasked ≡ Asks moved_then.more reader'.ended =
        ap (λ (l : List Round). asked l ++ unasked) all ∙ sym (ap (λ (l : List ℕ). Asks l reader'.ended) same ∙ asks_round) in
        let run : IsRun terms tells old.folder first (answered ++ unanswered) = subst (λ (l : List Round). IsRun terms tells old.folder first l) (sym all) run_then in
        record {
          read = moved_then.more;
          beyond = [];
          taken = moved_then.took;
          within = omega (arith, moved_then.budget);
          met_end = reader'.ended;
          end = moved_then.end (λ h. absurd (let c : true ≡ false = sym h ∙ was_open in cc));
          answered = answered;
          unanswered = unanswered;
          unasked = unasked;
          asks = asks;
          run = run;
          stands = subst (λ (l : List Round). Stands' (phase_after first l)) (sym all) stands_then;
          cut = cut;
          lost = lost;
          cut_off = cut_off;
          written = written;
          marks_kept = marks_kept;
          in_time = λ t. subst (λ (l : List Round). AreInTime old.instant l store'.instant) (sym all) (in_time_then t);
          kept = λ t. subst (λ (l : List Round). AreKept terms store' old.instant first.world l) (sym all) (kept_then t);
          counted = subst (λ (l : List Round). AreCounted old.bank_faults (faults_in l) bank_faults) (sym all) counted_then;
          journals_stood = λ t. subst (λ (l : List Round). JournalsStood store' old.instant l) (sym all) (stood_then t);
          journal_counted = subst (λ (l : List Round). AreCounted old.journal_faults (journal_faults_in l) journal_faults) (sym all) journal_counted_then;
          last_area = subst (λ (l : List Round). IsLastArea l last_fault) (sym all) last_area_then;
          folder_stays = same_folder ∙ r.folder_stays;
          folder_counted = subst (λ (l : List Round). AreCounted old.folder_faults (folder_faults_in l) folder_faults) (sym all) folder_counted_then;
          ending = ending;
          ends = ends;
          first_cause = status_later (status_of ending) ∙ ap (λ (l : List Round). status_from l (status_of ending)) (sym all);
          fixed = subst (λ (l : List Request). AreResponses tells (calm old.folder first.moments (answered ++ unanswered)) (machine_run terms (texts_told old.folder) first (take (length (calm old.folder first.moments (answered ++ unanswered))) l))) asks
              (fixed_run terms tells old.folder first.moments first (answered ++ unanswered) unasked rests (λ known. known) run);
        }

    pub ends_at : start.held ≡ [] → start.ended ≡ false → old.sink_faults ≤ now.sink_faults → (ending : Ending)
        → Writes now.written written' now.sink_faults sink_faults marks marks' (Some ending) (request.text round.reply) (request.closes round.reply) (mark_of (length marks + 1) round)
        → IsSession terms Asks Stands' tells start.budget store' old new first marks' (first_of status' (status_of ending))
    ends_at fresh was_open later Closed told =
        at_round fresh was_open (r.rounds ++ round ∷ []) [] (append-nil (r.rounds ++ round ∷ [])) [] [] refl
        (subst (λ (l : List ℕ). Appends old.written written' l) (sym (append-nil (output (r.rounds ++ round ∷ [])))) (written_then told.0)) (marks_then told.1) Closed
        ((r.rounds, round, refl, r.go_on, closes_then ∙ told.2), refl, refl)
    ends_at fresh was_open later SinkFault told =
        at_round fresh was_open r.rounds (round ∷ []) refl told.0.0 told.0.1 (sym told.0.2 ∙ sym text_then ∙ sym (append-nil (round.request.text round.reply)))
        (Appends-trans old.written now.written written' (output r.rounds) told.0.0 r.written told.0.4) (told.1 ∙ r.marks_kept) SinkFault
        (r.go_on, refl, refl, told.0.3, omega (arith, told.2, later))
    ends_at fresh was_open later NoMemory told =
        at_round fresh was_open r.rounds (round ∷ []) refl [] (output (round ∷ [])) refl
        (Appends-trans old.written now.written written' (output r.rounds) [] r.written told.0) (told.1 ∙ r.marks_kept) NoMemory
        (r.go_on, refl, refl, refl)
    ends_at fresh was_open later Ended told = absurd told
    ends_at fresh was_open later SourceFault told = absurd told
    ends_at fresh was_open later OverBudget told = absurd told

-- Nothing was asked yet.
pub begun : (terms : Terms) (Asks : Items Request) (Stands : Phase → Type 0) (tells : Bool) (store : View) (now : Outside) (start : Reading) (first : Phase) (marks : List Mark) (status : ℕ)
    → marks ≡ [] → status ≡ 0 → start.ended ≡ false → Stands first → now.instant ≡ store.instant
    → (IsTrue tells → IsSound store) → (IsTrue tells → (c : Image) → IsImage store c → ReadsAs terms first.world c)
    → Ran terms Asks Stands tells store now now start start first marks status
begun terms Asks Stands tells store now start first marks status none_marked no_cause was_open stands same_instant sound images = record {
  rounds = [];
  used = [];
  moved = stays now.left start;
  opened = λ _ more ended. refl;
  whole = λ e. absurd (let c : true ≡ false = sym e ∙ was_open in cc);
  run = tt;
  go_on = tt;
  stands = stands;
  written = Appends-nil now.written;
  marks_kept = none_marked;
  in_time = λ t. omega arith;
  kept = λ t. subst (λ (m : ℕ). AreKept terms store m first.world []) (sym same_instant) (kept_begun terms store first.world (sound t) (images t));
  counted = omega arith;
  journal_counted = omega arith;
  last_area = tt;
  journals_stood = λ t. tt;
  folder_stays = refl;
  folder_counted = omega arith;
  status_now = no_cause;
}
