-- Histories between two worlds. `between_after` and `between_before` join what is read before and after a world in which nothing
-- is owed, and `event_begins` gives what they ask for; of one event `event_reads` says that an image reads as the world before it
-- or as the one after it.
use Rattle.std.proofs.Common.{◌≡◌, ◌⊎◌, inl, inr, ⊎_elim, ℕ, Bool, true, false, List, [], ◌∷◌, ◌++◌, length, Option, Some, None, refl, sym, ◌∙◌, ap, subst, arith}
use Rattle.std.proofs.lemmas.List.{append-nil, append_assoc, append_cancel_left}
use Rattle.bank.specs.Content.{Content, Image}
use Rattle.site_events.specs.declared.event.Event.{Event}
use Rattle.site_events.specs.declared.reply.Reply.{Reply}
use Rattle.site_history.specs.Terms.{Terms}
use Rattle.site_history.specs.Steps.{HistoryStep}
use Rattle.site_history.specs.Histories.{Begins}
use Rattle.site_history.specs.Worlds.{World, at, at_moment, with_step, whole_of, IsWithOrWithout}
use Rattle.site_history.specs.Turns.{moment_of, answer_in, Course, Goes, Stays, Fails, Owes, course_of, failed_in, TurnBy, Turn, EventTurnBy, EventTurn, IsReopened}
use Rattle.site_history.specs.Images.{Reads, ReadsAs, ReadsBetween}

-- Histories that go on from others.

pub begins_same : (steps : List HistoryStep) → Begins steps steps
begins_same steps = ([], sym (append-nil steps))

pub begins_then : (one two three : List HistoryStep) → Begins one two → Begins two three → Begins one three
begins_then one two three (more, e) (rest, f) = (more ++ rest, f ∙ ap (λ (l : List HistoryStep). l ++ rest) e ∙ append_assoc one more rest)

-- a history, and that with the step that is owed
pub begins_with : (history : List HistoryStep) (o : Option HistoryStep) → Begins history (with_step history o)
begins_with history None = begins_same history
begins_with history (Some made) = (made ∷ [], refl)

-- What reads as one of two worlds reads as a history between them.

module _ (terms : Terms) (w w' : World) (c : Image) where
  pub between_whole : Begins w.history (whole_of w') → Reads terms c (whole_of w') → ReadsBetween terms w w' c
  between_whole begins reads = inr (whole_of w', begins, begins_same (whole_of w'), reads)

  pub between_last : Begins w.history w'.history → Reads terms c w'.history → ReadsBetween terms w w' c
  between_last begins reads = inr (w'.history, begins, begins_with w'.history w'.owed, reads)

-- one that reads as the history with what is owed reads as the world
pub whole_reads : (terms : Terms) (w : World) (c : Image) → Reads terms c (whole_of w) → ReadsAs terms w c
whole_reads terms w c reads = by_owed w.owed refl
  where
    by_owed : (o : Option HistoryStep) → w.owed ≡ o → ReadsAs terms w c
    by_owed None e = inl (subst (λ (o : Option HistoryStep). Reads terms c (with_step w.history o)) e reads)
    by_owed (Some made) e = inr (made, e, subst (λ (o : Option HistoryStep). Reads terms c (with_step w.history o)) e reads)

-- where nothing is owed it reads as the history
pub reads_history : (terms : Terms) (w : World) (c : Image) → w.owed ≡ None → ReadsAs terms w c → Reads terms c w.history
reads_history terms w c none (inl reads) = reads
reads_history terms w c none (inr more) = absurd (let no : None ≡ Some more.0 = sym none ∙ more.1 in cc)

-- A world in the middle, in which nothing is owed.

module _ (terms : Terms) (w mid w' : World) (c : Image) (nothing : mid.owed ≡ None) where
  -- what was read before it
  pub between_before : Begins mid.history (whole_of w') → ReadsBetween terms w mid c → ReadsBetween terms w w' c
  between_before begins (inl reads) = inl reads
  between_before begins (inr (steps, from, to, reads)) =
      let at_mid : Begins steps mid.history = subst (λ (o : Option HistoryStep). Begins steps (with_step mid.history o)) nothing to in
      inr (steps, from, begins_then steps mid.history (whole_of w') at_mid begins, reads)

  -- what is read after it
  pub between_after : Begins w.history mid.history → Begins mid.history (whole_of w') → ReadsBetween terms mid w' c → ReadsBetween terms w w' c
  between_after begins goes_on (inl reads) = inr (mid.history, begins, goes_on, reads_history terms mid c nothing reads)
  between_after begins goes_on (inr (steps, from, to, reads)) = inr (steps, begins_then w.history mid.history steps begins from, to, reads)

-- Where a reopening leads is in the middle too.
pub led_begins : (w : World) (steps : List HistoryStep) → IsWithOrWithout w steps → Begins w.history steps
led_begins w steps (inl is) = subst (λ (l : List HistoryStep). Begins w.history l) (sym is) (begins_same w.history)
led_begins w steps (inr (owed, owes, is)) = (owed ∷ [], is)

led_reads : (terms : Terms) (w : World) (c : Image) (steps : List HistoryStep) → IsWithOrWithout w steps → Reads terms c steps → ReadsAs terms w c
led_reads terms w c steps (inl is) reads = inl (subst (λ (l : List HistoryStep). Reads terms c l) is reads)
led_reads terms w c steps (inr (owed, owes, is)) reads = inr (owed, owes, subst (λ (l : List HistoryStep). Reads terms c l) is reads)

pub between_reopened : (terms : Terms) (read : Content) (w w0 w' : World) (c : Image) → IsReopened terms true read w w0 → ReadsBetween terms w0 w' c → ReadsBetween terms w w' c
between_reopened terms read w w0 w' c (steps, led, holds, is) (inl reads) =
    inl (led_reads terms w c steps led (reads_history terms (at steps w.clock) c refl (subst (λ (x : World). ReadsAs terms x c) is reads)))
between_reopened terms read w w0 w' c (steps, led, holds, is) (inr (then, from, to, reads)) =
    let behind : Begins steps then = subst (λ (x : World). Begins x.history then) is from in
    inr (then, begins_then w.history steps then (led_begins w steps led) behind, to, reads)

-- One event.

-- a history, or that with one step more
abbrev pub IsOrIsNext : List HistoryStep → List HistoryStep → Type 0
IsOrIsNext front next = (next ≡ front) ⊎ ((made : HistoryStep) × (next ≡ front ++ made ∷ []))

next_of : (history : List HistoryStep) (o : Option HistoryStep) → IsOrIsNext history (with_step history o)
next_of history None = inl refl
next_of history (Some made) = inr (made, refl)

-- What lies between two histories that are one step apart is one of them.
pub one_of_two : (front steps whole : List HistoryStep) → IsOrIsNext front whole → Begins front steps → Begins steps whole → (steps ≡ front) ⊎ (steps ≡ whole)
one_of_two front steps whole next (more, e) (rest, f) = by_next next
  where
    joined : whole ≡ front ++ (more ++ rest)
    joined = f ∙ ap (λ (l : List HistoryStep). l ++ rest) e ∙ append_assoc front more rest

    none_more : (l : List HistoryStep) → l ≡ more → [] ≡ l → steps ≡ front
    none_more l is none = e ∙ ap (λ (m : List HistoryStep). front ++ m) (sym is ∙ sym none) ∙ append-nil front

    by_rest : (l k : List HistoryStep) (made : HistoryStep) → l ≡ more → k ≡ rest → made ∷ [] ≡ l ++ k → (steps ≡ front) ⊎ (steps ≡ whole)
    by_rest [] k made is ends same = inl (none_more [] is refl)
    by_rest (x ∷ []) [] made is ends same = inr (sym (f ∙ ap (λ (m : List HistoryStep). steps ++ m) (sym ends) ∙ append-nil steps))
    by_rest (x ∷ []) (z ∷ k) made is ends same = absurd (omega (arith, ap length same))
    by_rest (x ∷ (y ∷ l)) k made is ends same = absurd (omega (arith, ap length same))

    by_next : IsOrIsNext front whole → (steps ≡ front) ⊎ (steps ≡ whole)
    by_next (inl is) =
        let both : [] ≡ more ++ rest = append_cancel_left front [] (more ++ rest) (append-nil front ∙ sym is ∙ joined) in
        inl (none_more more refl (none both))
      where
        none : [] ≡ more ++ rest → [] ≡ more
        none same = by_length more rest same
          where
            by_length : (l k : List HistoryStep) → [] ≡ l ++ k → [] ≡ l
            by_length [] k same = refl
            by_length (x ∷ l) k same = absurd (omega (arith, ap length same))
    by_next (inr (made, is)) = by_rest more rest made refl refl (append_cancel_left front (made ∷ []) (more ++ rest) (sym is ∙ joined))

module _ (terms : Terms) (w' : World) (c : Image) where
  -- where one step at most is made behind a history, what lies between reads as that history or as the world then
  pub near_reads : (front steps : List HistoryStep) → IsOrIsNext front (whole_of w') → Begins front steps → Begins steps (whole_of w') → Reads terms c steps
      → Reads terms c front ⊎ ReadsAs terms w' c
  near_reads front steps next from to reads = ⊎_elim
      (λ is. inl (subst (λ (l : List HistoryStep). Reads terms c l) is reads))
      (λ is. inr (whole_reads terms w' c (subst (λ (l : List HistoryStep). Reads terms c l) is reads)))
      (one_of_two front steps (whole_of w') next from to)

-- a turn makes one step at most
turn_next : (terms : Terms) (told : Bool) (w : World) (event : Event) (moment area : ℕ) (reply : Reply) (w' : World) → w.owed ≡ None → Turn terms told w event moment area reply w' → IsOrIsNext w.history (whole_of w')
turn_next terms told w event moment area reply w' none turn = by_course (course_of reply area) turn
  where
    same : (v : World) → v.history ≡ w.history → v.owed ≡ w.owed → w' ≡ v → IsOrIsNext w.history (whole_of w')
    same v history owed is =
        inl (ap (λ (x : World). whole_of x) is ∙ ap (λ (o : Option HistoryStep). with_step v.history o) (owed ∙ none) ∙ history)

    by_course : (course : Course) → TurnBy course told (answer_in terms w moment event) w event moment reply w' → IsOrIsNext w.history (whole_of w')
    by_course Goes (is, then) = subst (λ (l : List HistoryStep). IsOrIsNext w.history l)
        (sym (ap (λ (x : World). whole_of x) then ∙ ap (λ (o : Option HistoryStep). with_step (with_step w.history (answer_in terms w moment event).step) o) none))
        (next_of w.history (answer_in terms w moment event).step)
    by_course Stays then = same (at_moment moment w) refl refl then
    by_course Fails then = same (failed_in event moment w) refl refl then
    by_course Owes then = subst (λ (x : World). IsOrIsNext w.history (whole_of x)) (sym then) (next_of w.history (answer_in terms w moment event).step)

-- what goes on from a history, while that with one step more goes on too
begins_or_is : (history : List HistoryStep) (owed : HistoryStep) (steps whole : List HistoryStep) → Begins (history ++ owed ∷ []) whole → Begins history steps → Begins steps whole
    → (steps ≡ history) ⊎ Begins (history ++ owed ∷ []) steps
begins_or_is history owed steps whole (tail, g) (more, e) (rest, f) = by_more more e
  where
    by_more : (l : List HistoryStep) → steps ≡ history ++ l → (steps ≡ history) ⊎ Begins (history ++ owed ∷ []) steps
    by_more [] is = inl (is ∙ append-nil history)
    by_more (x ∷ l) is =
        let both : owed ∷ tail ≡ x ∷ (l ++ rest) = append_cancel_left history (owed ∷ tail) (x ∷ (l ++ rest))
        (sym (append_assoc history (owed ∷ []) tail) ∙ sym g ∙ f ∙ ap (λ (m : List HistoryStep). m ++ rest) is ∙ append_assoc history (x ∷ l) rest) in
        let head : owed ≡ x = cc in
        inr (l, is ∙ ap (λ (y : HistoryStep). history ++ y ∷ l) (sym head) ∙ sym (append_assoc history (owed ∷ []) l))

whole_begins : (front whole : List HistoryStep) → IsOrIsNext front whole → Begins front whole
whole_begins front whole (inl is) = subst (λ (l : List HistoryStep). Begins front l) (sym is) (begins_same front)
whole_begins front whole (inr (made, is)) = (made ∷ [], is)

-- And so does an event: an image meanwhile reads as the world before it or as the one after it.
module _ (terms : Terms) (w w' : World) (c : Image) where
  -- where one step at most is made behind a history that the world may have
  behind_reads : (front : List HistoryStep) → IsWithOrWithout w front → IsOrIsNext front (whole_of w') → ReadsBetween terms w w' c → ReadsAs terms w c ⊎ ReadsAs terms w' c
  behind_reads front led next (inl reads) = inl reads
  behind_reads front (inl is) next (inr (steps, from, to, reads)) = ⊎_elim (λ was. inl (inl was)) (λ then. inr then)
      (near_reads terms w' c w.history steps (subst (λ (l : List HistoryStep). IsOrIsNext l (whole_of w')) is next) from to reads)
  behind_reads front (inr (owed, owes, is)) next (inr (steps, from, to, reads)) =
      let behind : IsOrIsNext (w.history ++ owed ∷ []) (whole_of w') = subst (λ (l : List HistoryStep). IsOrIsNext l (whole_of w')) is next in
      ⊎_elim
      (λ same. inl (inl (subst (λ (l : List HistoryStep). Reads terms c l) same reads)))
      (λ begins. ⊎_elim (λ was. inl (inr (owed, owes, was))) (λ then. inr then) (near_reads terms w' c (w.history ++ owed ∷ []) steps behind begins to reads))
      (begins_or_is w.history owed steps (whole_of w') (whole_begins (w.history ++ owed ∷ []) (whole_of w') behind) from to)

  module _ (event : Event) (now area : ℕ) (read : Content) (reply : Reply) (between : ReadsBetween terms w w' c) where
    by_due : (due : Bool) → w.due ≡ due → (w.due ≡ false → w.owed ≡ None) → EventTurnBy terms due true w event now area read reply w' → ReadsAs terms w c ⊎ ReadsAs terms w' c
    by_due false due none turn =
        behind_reads w.history (inl refl) (turn_next terms true w event (moment_of w.clock now) area reply w' (none due) turn) between
    by_due true due none (inl (w0, (steps, led, holds, is), turn)) =
        behind_reads steps led
        (subst (λ (l : List HistoryStep). IsOrIsNext l (whole_of w')) (ap (λ (x : World). x.history) is)
        (turn_next terms true w0 event (moment_of w0.clock now) area reply w' (ap (λ (x : World). x.owed) is) turn))
        between
    by_due true due none (inr (refuses, same)) =
        behind_reads w.history (inl refl) (subst (λ (x : World). IsOrIsNext w.history (whole_of x)) (sym same) (next_of w.history w.owed)) between

    pub event_reads : (w.due ≡ false → w.owed ≡ None) → EventTurn terms true w event now area read reply w' → ReadsAs terms w c ⊎ ReadsAs terms w' c
    event_reads none turn = by_due w.due refl none turn
