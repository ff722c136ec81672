-- What a journal's area says of histories: one history's steps, or a bad record at one place.
use Rattle.std.proofs.Common.{◌≡◌, inl, inr, ⊎_elim, ℕ, ◌+◌, ◌<◌, List, [], ◌∷◌, ◌++◌, length, map, refl, sym, ◌∙◌, ap, subst, arith}
use Rattle.std.proofs.lemmas.List.{length-map}
use Rattle.bank.specs.Content.{Content, Same}
use Rattle.journal.specs.Records.{IsRecord, AreRecords, end_of, IsEnd, IsBadAt}
use Rattle.journal.proofs.RecordLaws.{before-same, holds-same, one_record, no_record, not_bad_record, one_list, bad-same}
use Rattle.site_types.specs.declared.step.Step.{Step}
use Rattle.step_codec.specs.Written.{written, InRange}
use Rattle.step_codec.proofs.Steps.{one_form}
use Rattle.site_history.specs.Terms.{Terms}
use Rattle.site_history.specs.Site.{Fields, Site, first_site}
use Rattle.site_history.specs.Steps.{HistoryStep, fields_after, effect, IsLegal}
use Rattle.site_history.specs.Histories.{after_from, after, IsHistoryFrom, IsHistory, journal_length, written_forms}
use Rattle.site_history.specs.Journals.{HoldsHistory, HasBadStep, IsBadJournal}

-- The steps of a history without their bytes.
abbrev pub bare : List HistoryStep → List Step
bare steps = map (λ (made : HistoryStep). made.step) steps

-- Steps in range with one written form are one step.
pub one_step : (s t : Step) → InRange s → InRange t → written s ≡ written t → s ≡ t
one_step s t h k same = (one_form s t [] [] h k (ap (λ (l : List ℕ). l ++ []) same)).0

-- Two histories with the same written forms have the same steps, but for the bytes of their puts.
same_steps_from : (terms : Terms) (site other : Site) (xs ys : List HistoryStep) → IsHistoryFrom terms site xs → IsHistoryFrom terms other ys → written_forms xs ≡ written_forms ys → bare xs ≡ bare ys
same_steps_from terms site other [] [] h k e = refl
same_steps_from terms site other [] (y ∷ ys) h k e = absurd (omega (arith, ap length e))
same_steps_from terms site other (x ∷ xs) [] h k e = absurd (omega (arith, ap length e))
same_steps_from terms site other (x ∷ xs) (y ∷ ys) h k e =
    let head : written x.step ≡ written y.step = cc in
    let tail : written_forms xs ≡ written_forms ys = cc in
    let first : x.step ≡ y.step = one_step x.step y.step h.0.0 k.0.0 head in
    let rest : bare xs ≡ bare ys = same_steps_from terms (effect terms x site) (effect terms y other) xs ys h.2 k.2 tail in
    ap (λ (s : Step). s ∷ bare xs) first ∙ ap (λ (l : List Step). y.step ∷ l) rest

pub same_steps : (terms : Terms) (xs ys : List HistoryStep) → IsHistory terms xs → IsHistory terms ys → written_forms xs ≡ written_forms ys → bare xs ≡ bare ys
same_steps terms xs ys h k e = same_steps_from terms first_site first_site xs ys h k e

-- A journal holds the records of one list of written forms.
pub one_journal : (terms : Terms) (c : Content) (xs ys : List HistoryStep) → HoldsHistory terms c xs → HoldsHistory terms c ys → bare xs ≡ bare ys
one_journal terms c xs ys h k = same_steps terms xs ys h.history k.history (one_list c 0 (written_forms xs) (written_forms ys) terms.size h.records k.records)

-- What the same steps leave of the same fields is the same.
same_fields_from : (terms : Terms) (site other : Site) (xs ys : List HistoryStep) → site.fields ≡ other.fields → bare xs ≡ bare ys → (after_from terms site xs).fields ≡ (after_from terms other ys).fields
same_fields_from terms site other [] [] same e = same
same_fields_from terms site other [] (y ∷ ys) same e = absurd (omega (arith, ap length e))
same_fields_from terms site other (x ∷ xs) [] same e = absurd (omega (arith, ap length e))
same_fields_from terms site other (x ∷ xs) (y ∷ ys) same e =
    let head : x.step ≡ y.step = cc in
    let tail : bare xs ≡ bare ys = cc in
    same_fields_from terms (effect terms x site) (effect terms y other) xs ys
    (ap (λ (s : Step). fields_after terms s site.fields) head ∙ ap (λ (f : Fields). fields_after terms y.step f) same) tail

pub same_fields : (terms : Terms) (xs ys : List HistoryStep) → bare xs ≡ bare ys → (after terms xs).fields ≡ (after terms ys).fields
same_fields terms xs ys e = same_fields_from terms first_site first_site xs ys refl e

-- There are as many of them, and their records take as many bytes.
pub same_count : (xs ys : List HistoryStep) → bare xs ≡ bare ys → length xs ≡ length ys
same_count xs ys e = sym (length-map xs (λ (made : HistoryStep). made.step)) ∙ ap length e ∙ length-map ys (λ (made : HistoryStep). made.step)

pub same_journal_length : (xs ys : List HistoryStep) → bare xs ≡ bare ys → journal_length xs ≡ journal_length ys
same_journal_length [] [] e = refl
same_journal_length [] (y ∷ ys) e = absurd (omega (arith, ap length e))
same_journal_length (x ∷ xs) [] e = absurd (omega (arith, ap length e))
same_journal_length (x ∷ xs) (y ∷ ys) e =
    let head : x.step ≡ y.step = cc in
    let tail : bare xs ≡ bare ys = cc in
    omega (arith, ap (λ (s : Step). length (written s)) head, same_journal_length xs ys tail)

-- The next record goes where those of the history end.
end_from : (place : ℕ) (steps : List HistoryStep) → end_of place (written_forms steps) ≡ place + journal_length steps
end_from place [] = omega arith
end_from place (made ∷ steps) = omega (arith, end_from (place + 5 + length (written made.step)) steps)

pub end_of-history : (steps : List HistoryStep) → end_of 0 (written_forms steps) ≡ journal_length steps
end_of-history steps = omega (arith, end_from 0 steps)

-- A place behind the records of a history, in the area, at an open gate, where no record of a legal step stands.
record IsStop (terms : Terms) (c : Content) (start place : ℕ) (site : Site) (steps : List HistoryStep) : Type 0 where
  history : IsHistoryFrom terms site steps
  before : AreRecords c start (written_forms steps) terms.size
  behind : place ≡ end_of start (written_forms steps)
  within : place < terms.size
  gate : c place ≡ 1
  refused : (step : Step) → IsLegal terms (after_from terms site steps).fields step → IsRecord c place (written step) terms.size → ⊥

-- A bad journal has a stop where it is bad.
stop_of : (terms : Terms) (c : Content) (place : ℕ) (bad : IsBadJournal terms c place) → IsStop terms c 0 place first_site bad.steps
stop_of terms c place bad = ⊎_elim at_length at_step bad.bad
  where
    at_length : IsBadAt c place terms.size (written_forms bad.steps) → IsStop terms c 0 place first_site bad.steps
    at_length b = record {
      history = bad.history;
      before = b.before;
      behind = b.behind;
      within = b.inside;
      gate = b.gate;
      refused = λ step legal here. not_bad_record c place b.bad.0 (written step) terms.size b.bad.1 b.bad.2 b.bad.3 here;
    }

    at_step : HasBadStep terms c place bad.steps → IsStop terms c 0 place first_site bad.steps
    at_step b = record {
      history = bad.history;
      before = b.before;
      behind = b.behind;
      within = omega (arith, b.here.within);
      gate = b.here.gate;
      refused = λ step legal here. b.refused step (one_record c place (written step) b.payload terms.size here b.here) legal;
    }

module _ (terms : Terms) (c : Content) where
  -- Two histories whose records stand at one place begin with the same step.
  first_same : (place : ℕ) (site other : Site) (x y : HistoryStep) → site.fields ≡ other.fields → IsLegal terms site.fields x.step → IsLegal terms other.fields y.step
      → IsRecord c place (written x.step) terms.size → IsRecord c place (written y.step) terms.size → x.step ≡ y.step
  first_same place site other x y same h k here there = one_step x.step y.step h.0 k.0 (one_record c place (written x.step) (written y.step) terms.size here there)

  -- The records behind the first of a stop.
  stop_behind : (start place : ℕ) (site : Site) (x : HistoryStep) (steps : List HistoryStep) → IsStop terms c start place site (x ∷ steps)
      → IsStop terms c (start + 5 + length (written x.step)) place (effect terms x site) steps
  stop_behind start place site x steps s = record { history = s.history.2; before = s.before.1; behind = s.behind; within = s.within; gate = s.gate; refused = s.refused }

  -- Where the same step stands first, the fields and the place behind are the same.
  next_fields : (site other : Site) (x y : HistoryStep) → site.fields ≡ other.fields → x.step ≡ y.step → (effect terms x site).fields ≡ (effect terms y other).fields
  next_fields site other x y same head = ap (λ (s : Step). fields_after terms s site.fields) head ∙ ap (λ (f : Fields). fields_after terms y.step f) same

  next_place : (start : ℕ) (x y : HistoryStep) → x.step ≡ y.step → start + 5 + length (written y.step) ≡ start + 5 + length (written x.step)
  next_place start x y head = ap (λ (s : Step). start + 5 + length (written s)) (sym head)

  -- Where a history's records end at the journal's end, there is no stop.
  no_stop : (start place : ℕ) (site other : Site) (xs ys : List HistoryStep) → site.fields ≡ other.fields → IsHistoryFrom terms site xs
      → AreRecords c start (written_forms xs) terms.size → IsEnd c (end_of start (written_forms xs)) terms.size → IsStop terms c start place other ys → ⊥
  no_stop start place site other [] [] same h records (inl shut) s = shut (ap c (sym s.behind) ∙ s.gate)
  no_stop start place site other [] [] same h records (inr past) s = omega (arith, past, s.behind, s.within)
  no_stop start place site other [] (y ∷ ys) same h records shut s = no_record c start (written y.step) terms.size shut s.before.0
  no_stop start place site other (x ∷ xs) [] same h records shut s =
      s.refused x.step (subst (λ (f : Fields). IsLegal terms f x.step) same h.0) (subst (λ (p : ℕ). IsRecord c p (written x.step) terms.size) (sym s.behind) records.0)
  no_stop start place site other (x ∷ xs) (y ∷ ys) same h records shut s =
      let head : x.step ≡ y.step = first_same start site other x y same h.0 s.history.0 records.0 s.before.0 in
      no_stop (start + 5 + length (written x.step)) place (effect terms x site) (effect terms y other) xs ys (next_fields site other x y same head) h.2 records.1 shut
      (subst (λ (p : ℕ). IsStop terms c p place (effect terms y other) ys) (next_place start x y head) (stop_behind start place other y ys s))

  -- Two stops are one.
  one_stop : (start place there : ℕ) (site other : Site) (xs ys : List HistoryStep) → site.fields ≡ other.fields → IsStop terms c start place site xs
      → IsStop terms c start there other ys → place ≡ there
  one_stop start place there site other [] [] same s t = s.behind ∙ sym t.behind
  one_stop start place there site other [] (y ∷ ys) same s t =
      absurd (s.refused y.step (subst (λ (f : Fields). IsLegal terms f y.step) (sym same) t.history.0) (subst (λ (p : ℕ). IsRecord c p (written y.step) terms.size) (sym s.behind) t.before.0))
  one_stop start place there site other (x ∷ xs) [] same s t =
      absurd (t.refused x.step (subst (λ (f : Fields). IsLegal terms f x.step) same s.history.0) (subst (λ (p : ℕ). IsRecord c p (written x.step) terms.size) (sym t.behind) s.before.0))
  one_stop start place there site other (x ∷ xs) (y ∷ ys) same s t =
      let head : x.step ≡ y.step = first_same start site other x y same s.history.0 t.history.0 s.before.0 t.before.0 in
      one_stop (start + 5 + length (written x.step)) place there (effect terms x site) (effect terms y other) xs ys (next_fields site other x y same head) (stop_behind start place site x xs s)
      (subst (λ (p : ℕ). IsStop terms c p there (effect terms y other) ys) (next_place start x y head) (stop_behind start there other y ys t))

  -- A journal that holds a history is not bad.
  pub not_bad_journal : (steps : List HistoryStep) (place : ℕ) → HoldsHistory terms c steps → IsBadJournal terms c place → ⊥
  not_bad_journal steps place h bad = no_stop 0 place first_site first_site steps bad.steps refl h.history h.records.records h.records.shut (stop_of terms c place bad)

  -- It is bad at one place only.
  pub one_bad_place : (place there : ℕ) → IsBadJournal terms c place → IsBadJournal terms c there → place ≡ there
  one_bad_place place there bad also = one_stop 0 place there first_site first_site bad.steps also.steps refl (stop_of terms c place bad) (stop_of terms c there also)

-- Where the same bytes stand, the same history is held, and the journal is bad at the same place.
pub holds_history_same : (terms : Terms) (c d : Content) (steps : List HistoryStep) → Same c d → HoldsHistory terms c steps → HoldsHistory terms d steps
holds_history_same terms c d steps same h = record { history = h.history; records = holds-same c d 0 (written_forms steps) terms.size (λ k le. sym (same k)) h.records }

pub bad_journal_same : (terms : Terms) (c d : Content) (place : ℕ) → Same c d → IsBadJournal terms c place → IsBadJournal terms d place
bad_journal_same terms c d place same bad = record {
  steps = bad.steps;
  history = bad.history;
  bad = ⊎_elim
      (λ b. inl (bad-same c d place terms.size (written_forms bad.steps) same b))
      (λ (b : HasBadStep terms c place bad.steps). inr (record {
        before = before-same c d 0 (written_forms bad.steps) terms.size (λ k lt. sym (same k)) b.before;
        behind = b.behind;
        payload = b.payload;
        here = (before-same c d place (b.payload ∷ []) terms.size (λ k lt. sym (same k)) (b.here, tt)).0;
        refused = b.refused;
      }))
      bad.bad;
}
