-- The causes of the status of a session.
use Rattle.std.proofs.Common.{◌≡◌, ◌⊎◌, inl, inr, ℕ, suc, zero, ◌+◌, ◌<◌, ◌≤◌, List, [], ◌∷◌, ◌++◌, length, take, refl, sym, ◌∙◌, ap, subst, arith, Bool, true, false, cond, length-append, Option, Some, None, IfSome, IsTrue}
use Rattle.std.proofs.lemmas.List.{append-nil, take_all}
use Rattle.std.proofs.lemmas.Bool.{and_parts, and_from}
use Rattle.std.proofs.Math.Seq.{take-append_seam}
use Rattle.std.specs.Prelude.{flat_map}
use Rattle.std.specs.List.{list_all}
use Rattle.std.specs.Io.KnownBytes.{Appends, Consumes, IsAtEnd}
use Rattle.base.specs.Causes.{Rose, AreCounted}
use Rattle.outside.specs.declared.folder.NamedText.{NamedText}
use Rattle.bank.specs.Content.{Content}
use Rattle.bank.specs.View.{View}
use Rattle.input.specs.Reading.{Items}
use Rattle.site_events.specs.declared.reply.Reply.{Reply}
use Rattle.site_events.specs.declared.reply.Reply.TheVariants.{BadJournal}
use Rattle.site_history.specs.Terms.{Terms}
use Rattle.site_history.specs.Steps.{HistoryStep}
use Rattle.site_history.specs.Images.{IsSettled}
use Rattle.site_history.specs.Journals.{IsBadJournal}
use Rattle.site_history.proofs.JournalLaws.{not_bad_journal}
use Rattle.session.specs.Requests.{Request}
use Rattle.session.specs.Asking.{ends_run, line_request, requests_of, asks_of}
use Rattle.session.specs.Rounds.{Phase, Round, GoOn, IsRun, asked, output, cause_of, first_of, status_from, faults_in, folder_faults_in, is_as_defined, is_fixed, calm}
use Rattle.session.specs.Machine.{AreResponses, machine_run, output_of, texts_told}
use Rattle.desk.specs.Asks.{is_skipped, asked_of}
use Rattle.input.specs.Lines.{RawLine, Kept, Long, raw_lines}
use Rattle.session.specs.Session.{Outside, IsSession, Ends, status_of}
use Rattle.session.specs.Outcomes.{HasStatus}
use Rattle.session.specs.declared.kept.Mark.{Mark}
use Rattle.session.specs.declared.kept.Ending.{Ending}
use Rattle.session.specs.declared.kept.Ending.TheVariants.{Ended, Closed, SourceFault, SinkFault, OverBudget, NoMemory}
use Rattle.session.proofs.RoundLaws.{asked-length, first_suc}
use Rattle.session.proofs.AnswerCauses.{CauseOf, none_defined}
use Rattle.session.proofs.MachineLaws.{round_cause, calm_rests, output_told, output_closed}
use Rattle.session.proofs.StatusCauses.{by_bank, by_folder, by_memory, by_end, by_source, by_sink, by_budget}

-- None of the replies is a cause of a status.
abbrev NoCauses : List Round → Type 0
NoCauses [] = Unit {0}
NoCauses (x ∷ rs) = (cause_of x.reply ≡ 0) × NoCauses rs

-- A status is that of what ended the run, or that of a reply.
abbrev StatusOf : List Round → ℕ → ℕ → Type 0
StatusOf rs later n = ((n ≡ later) × NoCauses rs) ⊎ (((n ≡ 3) × (0 < faults_in rs + folder_faults_in rs)) ⊎ (n ≡ 9))

-- A reply that is no cause leaves the status to what comes after it.
behind_calm : (x : Round) (rs : List Round) (later n : ℕ) → cause_of x.reply ≡ 0 → StatusOf rs later n → StatusOf (x ∷ rs) later (first_of (cause_of x.reply) n)
behind_calm x rs later n e (inl (m, none)) = inl (ap (λ (k : ℕ). first_of k n) e ∙ m, (e, none))
behind_calm x rs later n e (inr (inl (m, some))) = inr (inl (ap (λ (k : ℕ). first_of k n) e ∙ m, omega (arith, some)))
behind_calm x rs later n e (inr (inr m)) = inr (inr (ap (λ (k : ℕ). first_of k n) e ∙ m))

-- The status of a run that began with no reopening due: a fault of the store or of the folder, want of memory, or what ended
-- the run.
status_is : (terms : Terms) (told : Bool) (folder : Option (List NamedText)) (phase : Phase) (rs : List Round) (later : ℕ) → phase.world.due ≡ false → IsRun terms told folder phase rs
    → StatusOf rs later (status_from rs later)
status_is terms told folder phase [] later rest run = inl (refl, tt)
status_is terms told folder phase (x ∷ rs) later rest run =
    by_cause (round_cause terms told folder phase x.request.asked x.area x.journal x.reply x.after rest run.0) (λ h. status_is terms told folder x.after rs later h run.1)
  where
    by_cause : CauseOf x.reply → (x.after.world.due ≡ false → StatusOf rs later (status_from rs later)) → StatusOf (x ∷ rs) later (first_of (cause_of x.reply) (status_from rs later))
    by_cause (inl e) behind = behind_calm x rs later (status_from rs later) e (behind (calm_rests terms told folder phase x.request.asked x.area x.journal x.reply x.after rest run.0 (none_defined x.reply e)))
    by_cause (inr (inl (e, f))) behind = inr (inl (ap (λ (k : ℕ). first_of k (status_from rs later)) e ∙ first_suc 2 (status_from rs later), omega (arith, f)))
    by_cause (inr (inr e)) behind = inr (inr (ap (λ (k : ℕ). first_of k (status_from rs later)) e ∙ first_suc 8 (status_from rs later)))

-- The last of such rounds is no cause either.
last_none : (rs : List Round) (r : Round) → NoCauses (rs ++ r ∷ []) → cause_of r.reply ≡ 0
last_none [] r none = none.0
last_none (x ∷ rs) r none = last_none rs r none.1

-- whether folder and clock fix what is told to a request
abbrev request_fixed : Option (List NamedText) → Option (List ℕ) → Request → Bool
request_fixed folder moments request = is_fixed folder moments request.asked

-- Such rounds are all calm, where folder and clock fix what the machine tells to them.
all_calm : (folder : Option (List NamedText)) (moments : Option (List ℕ)) (rs : List Round) → NoCauses rs → IsTrue (list_all (request_fixed folder moments) (asked rs)) → calm folder moments rs ≡ rs
all_calm folder moments [] none fixed = refl
all_calm folder moments (x ∷ rs) none fixed =
    let parts = and_parts (is_fixed folder moments x.request.asked) (list_all (request_fixed folder moments) (asked rs)) fixed in
    ap (λ (b : Bool). cond b (x ∷ calm folder moments rs) []) (and_from (is_as_defined x.reply) (is_fixed folder moments x.request.asked) (none_defined x.reply none.0) parts.0)
    ∙ ap (λ (l : List Round). x ∷ l) (all_calm folder moments rs none.1 parts.1)

no_front : (xs ys : List ℕ) → xs ++ ys ≡ [] → xs ≡ []
no_front [] ys e = refl
no_front (x ∷ xs) ys e = absurd (cc)

module _ (terms : Terms) (Asks : Items Request) (Stands : Phase → Type 0) (told : Bool) (budget : ℕ) (store : View) (old new : Outside) (first : Phase) (rests : first.world.due ≡ false) (marks : List Mark) (status : ℕ)
    (s : IsSession terms Asks Stands told budget store old new first marks status) where
  abbrev all_rounds : List Round
  all_rounds = s.answered ++ s.unanswered

  session_kind : StatusOf all_rounds (status_of s.ending) status
  session_kind = subst (λ (n : ℕ). StatusOf all_rounds (status_of s.ending) n) (sym s.first_cause) (status_is terms told old.folder first all_rounds (status_of s.ending) rests s.run)

  -- All rounds are as the machine tells them, where they are calm.
  all_as_told : calm old.folder first.moments all_rounds ≡ all_rounds → AreResponses told all_rounds (machine_run terms (texts_told old.folder) first (asked all_rounds))
  all_as_told same =
      let front : take (length (calm old.folder first.moments all_rounds)) (Asks s.read s.met_end) ≡ asked all_rounds =
      ap (λ (l : List Request). take (length (calm old.folder first.moments all_rounds)) l) (sym s.asks)
      ∙ ap (λ (n : ℕ). take n (asked all_rounds ++ s.unasked)) (ap length same ∙ sym (asked-length all_rounds)) ∙ take-append_seam (asked all_rounds) s.unasked in
      subst (λ (l : List Round). AreResponses told l (machine_run terms (texts_told old.folder) first (asked all_rounds))) same
      (subst (λ (l : List Request). AreResponses told (calm old.folder first.moments all_rounds) (machine_run terms (texts_told old.folder) first l)) front s.fixed)

  -- what was written is the machine's output for all that was asked
  abbrev pub IsOutput : Type 0
  IsOutput = IsTrue (list_all (λ (request : Request). is_fixed old.folder first.moments request.asked) (asked all_rounds)) → Appends old.written new.written (output_of terms (texts_told old.folder) first (Asks s.read s.met_end))

  -- nothing was cut off
  uncut : s.unanswered ≡ [] → output s.answered ++ s.cut ≡ output all_rounds
  uncut none = ap (λ (l : List ℕ). output s.answered ++ l) (no_front s.cut s.lost (s.cut_off ∙ ap output none)) ∙ append-nil (output s.answered)
      ∙ ap output (sym (append-nil s.answered) ∙ ap (λ (l : List Round). s.answered ++ l) (sym none))

  output_by : IsTrue told → NoCauses all_rounds → (ending : Ending) → status_of ending ≡ 0 → Ends budget old new s.read s.beyond s.met_end s.answered s.unanswered s.cut s.lost s.unasked ending → IsOutput
  output_by tells none Ended e ends fixed =
      let all_told : s.answered ≡ all_rounds = sym (append-nil s.answered) ∙ ap (λ (l : List Round). s.answered ++ l) (sym ends.4) in
      let asks : asked all_rounds ≡ Asks s.read s.met_end = sym (append-nil (asked all_rounds)) ∙ ap (λ (l : List Request). asked all_rounds ++ l) (sym ends.3) ∙ s.asks in
      subst (λ (l : List ℕ). Appends old.written new.written l)
      (uncut ends.4 ∙ output_told terms (texts_told old.folder) told first all_rounds tells (subst GoOn all_told ends.0) (all_as_told (all_calm old.folder first.moments all_rounds none fixed))
      ∙ ap (λ (l : List Request). output_of terms (texts_told old.folder) first l) asks) s.written
  output_by tells none Closed e ends fixed =
      let all : all_rounds ≡ ends.0.0 ++ ends.0.1 ∷ [] = ap (λ (l : List Round). s.answered ++ l) ends.2 ∙ append-nil s.answered ∙ ends.0.2 in
      subst (λ (l : List ℕ). Appends old.written new.written l)
      (uncut ends.2 ∙ ap output all
      ∙ output_closed terms (texts_told old.folder) told first ends.0.0 ends.0.1 s.unasked tells ends.0.3 ends.0.4
      (subst (λ (l : List Round). AreResponses told l (machine_run terms (texts_told old.folder) first (asked l))) all (all_as_told (all_calm old.folder first.moments all_rounds none fixed)))
      ∙ ap (λ (l : List Round). output_of terms (texts_told old.folder) first (asked l ++ s.unasked)) (sym all) ∙ ap (λ (l : List Request). output_of terms (texts_told old.folder) first l) s.asks) s.written
  output_by tells none SourceFault e ends fixed = absurd (omega (arith, e))
  output_by tells none SinkFault e ends fixed = absurd (omega (arith, e))
  output_by tells none OverBudget e ends fixed = absurd (omega (arith, e))
  output_by tells none NoMemory e ends fixed = absurd (omega (arith, e))

  -- With status 0 what was written is the machine's output for all that was asked, where the store tells its content.
  pub session_output : IsTrue told → status ≡ 0 → IsOutput
  session_output tells is = elim session_kind [
    | inl k ↦ output_by tells k.1 s.ending (sym k.0 ∙ is) s.ends
    | inr (inl k) ↦ absurd (omega (arith, k.0, is))
    | inr (inr k) ↦ absurd (omega (arith, k, is))
  ]

-- The requests are lines: a bad journal ends the session.
abbrev AreLines : List Request → Type 0
AreLines [] = Unit {0}
AreLines (request ∷ requests) = (request.closes ≡ ends_run) × AreLines requests

more_lines : (front rest : List Request) → AreLines front → AreLines rest → AreLines (front ++ rest)
more_lines [] rest a b = b
more_lines (request ∷ front) rest a b = (a.0, more_lines front rest a.1 b)

front_lines : (front rest : List Request) → AreLines (front ++ rest) → AreLines front
front_lines [] rest a = tt
front_lines (request ∷ front) rest a = (a.0, front_lines front rest a.1)

unless_skipped : (skipped : Bool) (request : Request) → request.closes ≡ ends_run → AreLines (cond skipped [] (request ∷ []))
unless_skipped true request e = tt
unless_skipped false request e = (e, tt)

line_lines : (line : RawLine) → AreLines (requests_of line)
line_lines (Kept line) = unless_skipped (is_skipped line) (line_request (asked_of line)) refl
line_lines Long = (refl, tt)

raw_lines_lines : (lines : List RawLine) → AreLines (flat_map requests_of lines)
raw_lines_lines [] = tt
raw_lines_lines (line ∷ lines) = more_lines (requests_of line) (flat_map requests_of lines) (line_lines line) (raw_lines_lines lines)

last_line : (rs : List Round) (r : Round) → AreLines (asked (rs ++ r ∷ [])) → r.request.closes ≡ ends_run
last_line [] r a = a.0
last_line (x ∷ rs) r a = last_line rs r a.1

-- Of two counts one rose, where together they tell a fault.
rose_either : (some more before now before' now' : ℕ) → 0 < some + more → AreCounted before some now → AreCounted before' more now' → Rose before now ⊎ Rose before' now'
rose_either zero more before now before' now' any counted counted' = inr (omega (arith, any, counted'))
rose_either (suc some) more before now before' now' any counted counted' = inl (omega (arith, counted))

-- An answer that ends the run is a cause.
last_is_cause : (reply : Reply) → ends_run reply ≡ true → cause_of reply ≡ 2
last_is_cause (BadJournal place) e = refl
last_is_cause _ e = absurd (cc)

-- More bytes than the budget were taken.
taken_more : (a b : Option (List ℕ)) (read beyond : List ℕ) (budget : ℕ) → Consumes a b (read ++ beyond) → length beyond ≡ 1 → length read ≡ budget → IfSome a (λ bytes. budget < length bytes)
taken_more None b read beyond budget c one spent = tt
taken_more (Some xs) None read beyond budget c one spent = absurd c
taken_more (Some xs) (Some ys) read beyond budget c one spent = omega (arith, ap length c, length-append (read ++ beyond) ys, length-append read beyond, one, spent)

-- All bytes were taken.
taken_all : (a b : Option (List ℕ)) (read : List ℕ) (P : List ℕ → Type 0) → Consumes a b read → IsAtEnd b → P read → IfSome a P
taken_all None b read P c e p = tt
taken_all (Some xs) None read P c e p = absurd c
taken_all (Some xs) (Some ys) read P c e p = subst P (sym (c ∙ ap (λ (l : List ℕ). read ++ l) e ∙ append-nil read)) p

module _ (terms : Terms) (Stands : Phase → Type 0) (told : Bool) (budget : ℕ) (store : View) (old new : Outside) (first : Phase) (rests : first.world.due ≡ false) (marks : List Mark) (status : ℕ)
    (s : IsSession terms asks_of Stands told budget store old new first marks status) where
  kind : StatusOf (s.answered ++ s.unanswered) (status_of s.ending) status
  kind = subst (λ (n : ℕ). StatusOf (s.answered ++ s.unanswered) (status_of s.ending) n) (sym s.first_cause) (status_is terms told old.folder first (s.answered ++ s.unanswered) (status_of s.ending) rests s.run)

  abbrev EndsAs : Ending → Type 0
  EndsAs ending = Ends budget old new s.read s.beyond s.met_end s.answered s.unanswered s.cut s.lost s.unasked ending

  abbrev pub Rises : Type 0
  Rises = Rose old.bank_faults new.bank_faults ⊎ Rose old.folder_faults new.folder_faults

  rises : 0 < faults_in (s.answered ++ s.unanswered) + folder_faults_in (s.answered ++ s.unanswered) → Rises
  rises some = rose_either (faults_in (s.answered ++ s.unanswered)) (folder_faults_in (s.answered ++ s.unanswered)) old.bank_faults new.bank_faults old.folder_faults new.folder_faults some s.counted s.folder_counted

  -- An answer that ends the run is a cause.
  never_closed : EndsAs Ending.Closed → NoCauses (s.answered ++ s.unanswered) → ⊥
  never_closed e none =
      let all : s.answered ++ s.unanswered ≡ e.0.0 ++ e.0.1 ∷ [] = ap (λ (l : List Round). s.answered ++ l) e.2 ∙ append-nil s.answered ∙ e.0.2 in
      let lines : AreLines (asked (s.answered ++ s.unanswered)) = front_lines (asked (s.answered ++ s.unanswered)) s.unasked (subst AreLines (sym s.asks) (raw_lines_lines (raw_lines s.read s.met_end))) in
      let closes : e.0.1.request.closes ≡ ends_run = last_line e.0.0 e.0.1 (subst (λ (l : List Round). AreLines (asked l)) all lines) in
      let ends : ends_run e.0.1.reply ≡ true = sym (ap (λ (f : Reply → Bool). f e.0.1.reply) closes) ∙ e.0.4 in
      omega (arith, last_none e.0.0 e.0.1 (subst NoCauses all none), last_is_cause e.0.1.reply ends)

  abbrev pub Cause : Type 0
  Cause = ((status ≡ 0) × EndsAs Ending.Ended × NoCauses (s.answered ++ s.unanswered))
      ⊎ (((status ≡ 4) × EndsAs Ending.SourceFault) ⊎ (((status ≡ 5) × EndsAs Ending.SinkFault) ⊎ (((status ≡ 7) × EndsAs Ending.OverBudget)
      ⊎ (((status ≡ 3) × Rises) ⊎ (status ≡ 9)))))

  of_ending : (ending : Ending) → EndsAs ending → status ≡ status_of ending → NoCauses (s.answered ++ s.unanswered) → Cause
  of_ending Ending.Ended e is none = inl (is, e, none)
  of_ending Ending.Closed e is none = absurd (never_closed e none)
  of_ending Ending.SourceFault e is none = inr (inl (is, e))
  of_ending Ending.SinkFault e is none = inr (inr (inl (is, e)))
  of_ending Ending.OverBudget e is none = inr (inr (inr (inl (is, e))))
  of_ending Ending.NoMemory e is none = inr (inr (inr (inr (inr is))))

  -- What was the cause of the status.
  pub cause : Cause
  cause = elim kind [
    | inl k ↦ of_ending s.ending s.ends k.0 k.1
    | inr (inl k) ↦ inr (inr (inr (inr (inl (k.0, rises k.1)))))
    | inr (inr k) ↦ inr (inr (inr (inr (inr k))))
  ]

  -- All that the input says was read.
  all_read : EndsAs Ending.Ended → (P : List ℕ → Type 0) → P s.read → IfSome old.left P
  all_read e P p = taken_all old.left new.left s.read P (subst (λ (l : List ℕ). Consumes old.left new.left l) (ap (λ (l : List ℕ). s.read ++ l) e.1 ∙ append-nil s.read) s.taken) (s.end e.2) p

  -- what was written is the output of all of the input, where folder and clock fix it
  abbrev pub WroteAll : List ℕ → Type 0
  WroteAll bytes = IsTrue (list_all (request_fixed old.folder first.moments) (asks_of bytes true)) → Appends old.written new.written (output_of terms (texts_told old.folder) first (asks_of bytes true))

  -- the rounds that are fixed
  abbrev fixed_rounds : List Round
  fixed_rounds = calm old.folder first.moments (s.answered ++ s.unanswered)

  -- With status 0 the output is that of all that was read, where the store tells its content.
  all_written : IsTrue told → EndsAs Ending.Ended → NoCauses (s.answered ++ s.unanswered) → IfSome old.left (λ bytes. (length bytes ≤ budget) × WroteAll bytes)
  all_written tells e none = all_read e _ (s.within, λ fixed. subst (λ (l : List ℕ). Appends old.written new.written l) (out (calm_all fixed)) s.written)
    where
      asks : asks_of s.read true ≡ asked (s.answered ++ s.unanswered)
      asks = ap (λ (b : Bool). asks_of s.read b) (sym e.2) ∙ sym s.asks ∙ ap (λ (l : List Request). asked (s.answered ++ s.unanswered) ++ l) e.3 ∙ append-nil (asked (s.answered ++ s.unanswered))

      all_told : s.answered ≡ s.answered ++ s.unanswered
      all_told = sym (append-nil s.answered) ∙ ap (λ (l : List Round). s.answered ++ l) (sym e.4)

      calm_all : IsTrue (list_all (request_fixed old.folder first.moments) (asks_of s.read true)) → fixed_rounds ≡ s.answered ++ s.unanswered
      calm_all fixed = all_calm old.folder first.moments (s.answered ++ s.unanswered) none (subst (λ (l : List Request). IsTrue (list_all (request_fixed old.folder first.moments) l)) asks fixed)

      front_all : fixed_rounds ≡ s.answered ++ s.unanswered → take (length fixed_rounds) (asks_of s.read s.met_end) ≡ asks_of s.read true
      front_all calm_same = ap (λ (b : Bool). take (length fixed_rounds) (asks_of s.read b)) e.2
          ∙ take_all (length fixed_rounds) (asks_of s.read true) (omega (arith, ap length asks, asked-length (s.answered ++ s.unanswered), ap length calm_same))

      as_told : fixed_rounds ≡ s.answered ++ s.unanswered → AreResponses told (s.answered ++ s.unanswered) (machine_run terms (texts_told old.folder) first (asked (s.answered ++ s.unanswered)))
      as_told calm_same = subst (λ (l : List Round). AreResponses told l (machine_run terms (texts_told old.folder) first (asked (s.answered ++ s.unanswered)))) calm_same
          (subst (λ (l : List Request). AreResponses told fixed_rounds (machine_run terms (texts_told old.folder) first l)) (front_all calm_same ∙ asks) s.fixed)

      out : fixed_rounds ≡ s.answered ++ s.unanswered → output s.answered ++ s.cut ≡ output_of terms (texts_told old.folder) first (asks_of s.read true)
      out calm_same = ap (λ (l : List ℕ). output s.answered ++ l) (no_front s.cut s.lost (s.cut_off ∙ ap output e.4)) ∙ append-nil (output s.answered) ∙ ap output all_told
          ∙ output_told terms (texts_told old.folder) told first (s.answered ++ s.unanswered) tells (subst GoOn all_told e.0) (as_told calm_same)
          ∙ ap (λ (l : List Request). output_of terms (texts_told old.folder) first l) (sym asks)

  pub whole_output : IsTrue told → status ≡ 0 → IfSome old.left (λ bytes. (length bytes ≤ budget) × WroteAll bytes)
  whole_output tells is = elim cause [
    | inl c ↦ all_written tells c.1 c.2
    | inr (inl c) ↦ absurd (omega (arith, c.0, is))
    | inr (inr (inl c)) ↦ absurd (omega (arith, c.0, is))
    | inr (inr (inr (inl c))) ↦ absurd (omega (arith, c.0, is))
    | inr (inr (inr (inr (inl c)))) ↦ absurd (omega (arith, c.0, is))
    | inr (inr (inr (inr (inr c)))) ↦ absurd (omega (arith, c, is))
  ]

  -- The causes of the status, over a journal that is not bad.
  pub session_status : (tells : Bool) (journal : Content) → (IsTrue tells → (place : ℕ) → IsBadJournal terms journal place → ⊥) → HasStatus terms tells journal budget old new status
  session_status tells journal not_bad = elim cause [
    | inl c ↦ by_end terms tells journal budget old new status not_bad c.0 (s.end c.1.2) (all_read c.1 (λ bytes. length bytes ≤ budget) s.within)
    | inr (inl c) ↦ by_source terms tells journal budget old new status not_bad c.0 c.1.5
    | inr (inr (inl c)) ↦ by_sink terms tells journal budget old new status not_bad c.0 c.1.4
    | inr (inr (inr (inl c))) ↦ by_budget terms tells journal budget old new status not_bad c.0 (taken_more old.left new.left s.read s.beyond budget s.taken c.1.1 c.1.2)
    | inr (inr (inr (inr (inl (is, inl rose))))) ↦ by_bank terms tells journal budget old new status is rose
    | inr (inr (inr (inr (inl (is, inr rose))))) ↦ by_folder terms tells journal budget old new status not_bad is rose
    | inr (inr (inr (inr (inr c)))) ↦ by_memory terms tells journal budget old new status c
  ]

  -- No session ends with status 1 or 2.
  pub session_exits : (status ≡ 1) ⊎ (status ≡ 2) → ⊥
  session_exits h = elim cause [
    | inl c ↦ omega (arith, c.0, h)
    | inr (inl c) ↦ omega (arith, c.0, h)
    | inr (inr (inl c)) ↦ omega (arith, c.0, h)
    | inr (inr (inr (inl c))) ↦ omega (arith, c.0, h)
    | inr (inr (inr (inr (inl c)))) ↦ omega (arith, c.0, h)
    | inr (inr (inr (inr (inr c)))) ↦ omega (arith, c, h)
  ]

-- The journal of a settled store is not bad, so no status tells that it is.
pub never_bad : (terms : Terms) (tells : Bool) (v : View) (budget : ℕ) (old new : Outside) (status : ℕ) (before : List HistoryStep) → HasStatus terms tells (v.content 0) budget old new status → IsTrue tells → IsSettled terms v before
    → status ≡ 2 → ⊥
never_bad terms tells v budget old new status before h t settled is =
    let bad = h.bad_journal is t in
    not_bad_journal terms (v.content 0) before bad.0 (record { history = settled.now.history; records = settled.now.records }) bad.1
