-- What one event does to a world, in the form of a turn: a lemma for each exit of the code that serves it. First what the
-- answer to the event is (`put-refused`, `put-stored`, `read-missing`, `read-found`, `remove-missing`, `remove-found`,
-- `configure-refused`, `configure-made`), and from that the turn: `answer-turn` where no step is made, `full-turn` where the journal
-- has no room, `made-turn` where the step is acknowledged, `owes-turn` where the journal failed, `fails-turn` where another area did.
use Rattle.std.proofs.Common.{◌≡◌, ℕ, ◌+◌, ◌<◌, ◌≤◌, List, length, take, refl, sym, ◌∙◌, ap, subst, arith, Bool, true, false, cond, Option, Some, None}
use Rattle.std.specs.Prelude.{is_none, IsTrue}
use Rattle.std.proofs.lemmas.Bool.{le-leb, lt-leb, eq-eqb, ne_eqb}
use Rattle.site_events.specs.declared.event.Event.{Event}
use Rattle.site_events.specs.declared.event.Event.TheVariants.{Put as PutEvent, Read as ReadEvent, Remove as RemoveEvent, Configure as ConfigureEvent}
use Rattle.site_events.specs.declared.reply.Reply.{Reply}
use Rattle.site_events.specs.declared.reply.Reply.TheVariants.{Stored, Done, Bytes, JournalFull, BankFault}
use Rattle.site_events.specs.declared.reply.Rule.{Rule}
use Rattle.site_events.specs.declared.reply.Rule.TheVariants.{NoFile}
use Rattle.site_types.specs.declared.file.FileRec.{FileRec}
use Rattle.site_types.specs.declared.file.SiteTexts.{SiteTexts}
use Rattle.site_types.specs.declared.step.StepKind.TheVariants.{Configured, Accessed, Removed}
use Rattle.step_codec.specs.Written.{written}
use Rattle.site_history.specs.Terms.{Terms}
use Rattle.site_history.specs.Site.{Site, file_at, bytes_of}
use Rattle.site_history.specs.Steps.{HistoryStep}
use Rattle.site_history.specs.PutSteps.{inode_for}
use Rattle.site_history.specs.Answers.{answer_to}
use Rattle.site_history.specs.ConfigureAnswers.{configure_refusal, configure_answer_by}
use Rattle.site_history.specs.FileAnswers.{put_rule, put_step, put_answer_by, read_answer_of, remove_answer_of}
use Rattle.site_history.specs.Running.{Running}
use Rattle.site_history.specs.Replies.{Answer, tells, refused, makes, bare_step}
use Rattle.site_history.specs.Worlds.{World, site_of, at_moment, made_in, owing_in}
use Rattle.site_history.specs.Turns.{has_room, answer_in, IsReply, Course, Goes, Fails, Owes, course_of, answered_in, failed_in, TurnBy, Turn}

-- The answers.

module _ (terms : Terms) (site : Site) (running : Running) (moment : ℕ) (path : List ℕ) where
  -- a rule refuses a put
  pub put-refused : (owner group bytes : List ℕ) (rule : Rule) → put_rule site.fields path owner group (length bytes) ≡ Some rule
      → answer_to terms site running moment (PutEvent path owner group bytes) ≡ refused running rule
  put-refused owner group bytes rule e = ap (λ (o : Option Rule). put_answer_by o site.fields running moment path owner group bytes) e

  -- no rule does
  pub put-stored : (owner group bytes : List ℕ) → put_rule site.fields path owner group (length bytes) ≡ None
      → answer_to terms site running moment (PutEvent path owner group bytes)
      ≡ makes running (Stored (inode_for site.fields path) (is_none (file_at path site.fields.files))) (put_step site.fields moment path owner group bytes)
  put-stored owner group bytes e = ap (λ (o : Option Rule). put_answer_by o site.fields running moment path owner group bytes) e

  -- a read of a path that is no file's, and of one that is
  pub read-missing : (upto : ℕ) → file_at path site.fields.files ≡ None → answer_to terms site running moment (ReadEvent path upto) ≡ refused running NoFile
  read-missing upto e = ap (λ (o : Option FileRec). read_answer_of o site.contents running moment upto) e

  pub read-found : (upto : ℕ) (file : FileRec) → file_at path site.fields.files ≡ Some file
      → answer_to terms site running moment (ReadEvent path upto) ≡ makes running (Bytes (take upto (bytes_of site.contents file.inode))) (bare_step moment (Accessed file.inode))
  read-found upto file e = ap (λ (o : Option FileRec). read_answer_of o site.contents running moment upto) e

  -- a removal
  pub remove-missing : file_at path site.fields.files ≡ None → answer_to terms site running moment (RemoveEvent path) ≡ refused running NoFile
  remove-missing e = ap (λ (o : Option FileRec). remove_answer_of o running moment) e

  pub remove-found : (file : FileRec) → file_at path site.fields.files ≡ Some file
      → answer_to terms site running moment (RemoveEvent path) ≡ makes running (Done file.inode) (bare_step moment (Removed file.inode))
  remove-found file e = ap (λ (o : Option FileRec). remove_answer_of o running moment) e

module _ (terms : Terms) (site : Site) (running : Running) (moment : ℕ) where
  -- a configuration that is refused, and one that is made
  pub configure-refused : (texts : SiteTexts) (reply : Reply) → configure_refusal site.fields texts ≡ Some reply → answer_to terms site running moment (ConfigureEvent texts) ≡ tells running reply
  configure-refused texts reply e = ap (λ (o : Option Reply). configure_answer_by o running moment texts) e

  pub configure-made : (texts : SiteTexts) → configure_refusal site.fields texts ≡ None
      → answer_to terms site running moment (ConfigureEvent texts) ≡ makes running (Done 0) (bare_step moment (Configured texts))
  configure-made texts e = ap (λ (o : Option Reply). configure_answer_by o running moment texts) e

-- The answer of a journal with and without room.

abbrev roomed : Terms → World → Answer → Answer
roomed terms w answer = cond (has_room terms w.place answer.step) answer (tells w.running JournalFull)

module _ (terms : Terms) (w : World) (answer : Answer) where
  without_step : answer.step ≡ None → roomed terms w answer ≡ answer
  without_step e = ap (λ (o : Option HistoryStep). cond (has_room terms w.place o) answer (tells w.running JournalFull)) e

  module _ (made : HistoryStep) (e : answer.step ≡ Some made) where
    with_room : w.place + 6 + length (written made.step) ≤ terms.size → roomed terms w answer ≡ answer
    with_room fits =
        ap (λ (o : Option HistoryStep). cond (has_room terms w.place o) answer (tells w.running JournalFull)) e
        ∙ ap (λ (b : Bool). cond b answer (tells w.running JournalFull)) (le-leb (w.place + 6 + length (written made.step)) terms.size fits)

    without_room : terms.size < w.place + 6 + length (written made.step) → roomed terms w answer ≡ tells w.running JournalFull
    without_room full =
        ap (λ (o : Option HistoryStep). cond (has_room terms w.place o) answer (tells w.running JournalFull)) e
        ∙ ap (λ (b : Bool). cond b answer (tells w.running JournalFull)) (lt-leb (w.place + 6 + length (written made.step)) terms.size full)

-- The replies.

-- the reply that is defined
pub is_reply : (told : Bool) (defined reply : Reply) → reply ≡ defined → IsReply told defined reply
is_reply true defined reply e = e
is_reply false (Bytes bytes) reply e = (bytes, e, refl)
is_reply false _ reply e = e

-- bytes that were read: those of the file where the store tells its content, and as many in any case
pub is_reply-bytes : (told : Bool) (defined bytes : List ℕ) → (IsTrue told → bytes ≡ defined) → length bytes ≡ length defined → IsReply told (Bytes defined) (Bytes bytes)
is_reply-bytes true defined bytes same as_many = ap (λ (l : List ℕ). Bytes l) (same refl)
is_reply-bytes false defined bytes same as_many = (bytes, refl, as_many)

-- The turns.

module _ (terms : Terms) (told : Bool) (w : World) (event : Event) (moment area : ℕ) where
  goes : (answer : Answer) (reply : Reply) → roomed terms w (answer_to terms (site_of terms w) w.running moment event) ≡ answer → IsReply told answer.reply reply
      → TurnBy Goes told (answer_in terms w moment event) w event moment reply (answered_in answer moment w)
  goes answer reply e is = (subst (λ (a : Answer). IsReply told a.reply reply) (sym e) is, ap (λ (a : Answer). answered_in a moment w) (sym e))

  -- the answer makes no step
  pub answer-turn : (reply : Reply) → answer_to terms (site_of terms w) w.running moment event ≡ tells w.running reply → course_of reply area ≡ Goes
      → Turn terms told w event moment area reply (at_moment moment w)
  answer-turn reply e course = subst (λ (c : Course). TurnBy c told (answer_in terms w moment event) w event moment reply (at_moment moment w)) (sym course)
      (goes (tells w.running reply) reply
      (ap (λ (a : Answer). roomed terms w a) e ∙ without_step terms w (tells w.running reply) refl) (is_reply told reply reply refl))

  -- another area than the journal failed
  pub fails-turn : (area ≡ 0 → ⊥) → Turn terms told w event moment area BankFault (failed_in event moment w)
  fails-turn other = subst (λ (c : Course). TurnBy c told (answer_in terms w moment event) w event moment BankFault (failed_in event moment w))
      (ap (λ (b : Bool). cond b Owes Fails) (sym (ne_eqb area 0 other))) refl

  -- a step is answered, and its record goes where the journal goes on; the place and the payload are those of the code
  module _ (defined : Reply) (made : HistoryStep) (answered : answer_to terms (site_of terms w) w.running moment event ≡ makes w.running defined made)
      (place : ℕ) (payload : List ℕ) (at_end : place ≡ w.place) (form : payload ≡ written made.step) where
    -- the journal has no room
    pub full-turn : terms.size < place + 6 + length payload → Turn terms told w event moment area JournalFull (at_moment moment w)
    full-turn full = goes (tells w.running JournalFull) JournalFull
        (ap (λ (a : Answer). roomed terms w a) answered ∙ without_room terms w (makes w.running defined made) made refl (omega (arith, full, at_end, ap length form)))
        (is_reply told JournalFull JournalFull refl)

    module _ (fits : place + 6 + length payload ≤ terms.size) where
      is_answer : roomed terms w (answer_to terms (site_of terms w) w.running moment event) ≡ makes w.running defined made
      is_answer = ap (λ (a : Answer). roomed terms w a) answered
          ∙ with_room terms w (makes w.running defined made) made refl (omega (arith, fits, at_end, ap length form))

      -- the step is acknowledged
      pub made-turn : (reply : Reply) → course_of reply area ≡ Goes → IsReply told defined reply → Turn terms told w event moment area reply (made_in (Some made) (at_moment moment w))
      made-turn reply course is = subst (λ (c : Course). TurnBy c told (answer_in terms w moment event) w event moment reply (made_in (Some made) (at_moment moment w))) (sym course)
          (goes (makes w.running defined made) reply is_answer is)

      -- the journal failed
      pub owes-turn : area ≡ 0 → Turn terms told w event moment area BankFault (owing_in (Some made) (at_moment moment w))
      owes-turn journal = subst (λ (c : Course). TurnBy c told (answer_in terms w moment event) w event moment BankFault (owing_in (Some made) (at_moment moment w)))
          (ap (λ (b : Bool). cond b Owes Fails) (sym (eq-eqb area 0 journal)))
          (ap (λ (a : Answer). owing_in a.step (at_moment moment w)) (sym is_answer))
