-- The records of a journal, made steps again one after another.
use Rattle.std.proofs.Common.{◌≡◌, inl, inr, ℕ, ◌+◌, List, [], ◌∷◌, ◌++◌, length, length-append, sym, ◌∙◌, ap, subst, arith, Bool}
use Rattle.std.specs.Prelude.{IsTrue}
use Rattle.bank.specs.Content.{Content}
use Rattle.bank.specs.View.{View, OnlyRead}
use Rattle.journal.specs.Records.{IsRecord, AreRecords, HoldsRecords, IsEnd, IsBadAt, end_of}
use Rattle.journal.specs.Readers.{ReaderState, IsOver, IsFound, GoesOn}
use Rattle.journal.specs.declared.reader.Found.{Found}
use Rattle.journal.specs.declared.reader.Found.TheVariants.{Record, End, BadLength}
use Rattle.journal.specs.State.{JournalState}
use Rattle.journal.proofs.RecordLaws.{end-push, records-push}
use Rattle.site_history.specs.Terms.{Terms}
use Rattle.site_history.specs.Site.{Site, first_fields}
use Rattle.site_history.specs.Steps.{HistoryStep}
use Rattle.site_history.specs.Histories.{after, written_forms}
use Rattle.site_history.specs.Journals.{IsBadJournal}
use Rattle.site_history.proofs.HistoryLaws.{after-push, history-push}
use Rattle.site_history.proofs.Commits.{written_forms-push}
use Rattle.site_history.proofs.JournalLaws.{end_of-history}
use Rattle.site_history.proofs.StepBytes.{with_zeros, zeros_fit}
use Rattle.site_state.specs.declared.state.SiteState.{SiteState}
use Rattle.site_state.specs.Keeps.{Keeps}
use Rattle.site_state.specs.Replays.{IsOfNoStep, IsReplayed as IsStepReplayed}
use Rattle.engine.specs.Replayed.{IsReplayed, IsReadUpTo, IsReadToEnd}

-- what is read stays the same where nothing is written
pub same_content : (u v : View) → OnlyRead u v → u.content 0 ≡ v.content 0
same_content u v h = λ i k. h.content 0 k i

-- so that what is found behind reads is what was there before them
pub still_over : (u v : View) (old new : ReaderState) → OnlyRead u v → (IsOver (v.content 0) old → IsOver (v.content 0) new) → IsOver (u.content 0) old → IsOver (u.content 0) new
still_over u v old new only goes over =
    subst (λ (c : Content). IsOver c new) (sym (same_content u v only)) (goes (subst (λ (c : Content). IsOver c old) (same_content u v only) over))

pub found_before : (u v : View) (old new : ReaderState) (found : Found) → OnlyRead u v → (IsOver (v.content 0) old → IsFound (v.content 0) old new found) → IsOver (u.content 0) old
    → IsFound (u.content 0) old new found
found_before u v old new found only finds over =
    subst (λ (c : Content). IsFound c old new found) (sym (same_content u v only)) (finds (subst (λ (c : Content). IsOver c old) (same_content u v only) over))

-- before the first record
pub read_none : (terms : Terms) (told : Bool) (c : Content) (reader : ReaderState) (site : SiteState) → Keeps site first_fields → reader.place ≡ 0 → reader.count ≡ 0 → IsReadUpTo terms told c reader site
read_none terms told c reader site keeps place count = record { steps = []; history = tt; keeps = keeps; count = count; place = place; records = λ t. tt }

module _ (terms : Terms) (told : Bool) (c : Content) (old new : ReaderState) (site : SiteState) (so_far : IsReadUpTo terms told c old site) where
  -- One record more, of a step that may come. A journal has no byte of a file: a put that was read stands for one of zeros.
  pub read_more : (next : SiteState) → GoesOn old new Record → new.size ≡ old.size → (IsTrue told → IsRecord c old.place new.payload old.size)
      → IsStepReplayed terms (after terms so_far.steps).fields new.payload next → IsReadUpTo terms told c new next
  read_more next on size here made =
      let step : HistoryStep = with_zeros made.step in
      let longer : written_forms (so_far.steps ++ step ∷ []) ≡ written_forms so_far.steps ++ new.payload ∷ [] =
      written_forms-push so_far.steps step ∙ ap (λ (p : List ℕ). written_forms so_far.steps ++ p ∷ []) (sym made.form) in
      record {
        steps = so_far.steps ++ step ∷ [];
        history = history-push terms so_far.steps step so_far.history made.legal (zeros_fit made.step);
        keeps = subst (λ (s : Site). Keeps next s.fields) (sym (after-push terms so_far.steps step)) made.keeps;
        count = omega (arith, on.3, so_far.count, length-append so_far.steps (step ∷ []));
        place = on.1 ∙ ap (λ (n : ℕ). n + 5 + length new.payload) so_far.place ∙ sym (end-push 0 (written_forms so_far.steps) new.payload) ∙ ap (λ (l : List (List ℕ)). end_of 0 l) (sym longer);
        records = λ t. subst (λ (n : ℕ). AreRecords c 0 (written_forms (so_far.steps ++ step ∷ [])) n) (sym size)
            (subst (λ (l : List (List ℕ)). AreRecords c 0 l old.size) (sym longer)
            (records-push c 0 (written_forms so_far.steps) new.payload old.size (so_far.records t)
            (subst (λ (n : ℕ). IsRecord c n new.payload old.size) so_far.place (here t))));
      }

  -- or of none: the journal is bad there
  pub bad_step : old.size ≡ terms.size → IsTrue told → IsRecord c old.place new.payload old.size → IsOfNoStep terms (after terms so_far.steps).fields new.payload → IsBadJournal terms c old.place
  bad_step size t here refused = record {
    steps = so_far.steps;
    history = so_far.history;
    bad = inr (record {
      before = subst (λ (n : ℕ). AreRecords c 0 (written_forms so_far.steps) n) size (so_far.records t);
      behind = so_far.place;
      payload = new.payload;
      here = subst (λ (n : ℕ). IsRecord c old.place new.payload n) size here;
      refused = refused;
    });
  }

  -- and so it is where a length is one that no record has
  pub bad_length : old.size ≡ terms.size → IsTrue told → IsFound c old new BadLength → IsBadJournal terms c old.place
  bad_length size t found = record {
    steps = so_far.steps;
    history = so_far.history;
    bad = inl (subst (λ (n : ℕ). IsBadAt c old.place n (written_forms so_far.steps)) size (found (written_forms so_far.steps) (so_far.records t) so_far.place));
  }

-- the journal ends behind the history
pub read_to_end : (terms : Terms) (told : Bool) (c : Content) (old new : ReaderState) (site : SiteState) (h : IsReadUpTo terms told c old site) → GoesOn old new End → new.size ≡ old.size → (IsTrue told → IsFound c old new End)
    → IsReadToEnd terms told c new site
read_to_end terms told c old new site h on size ends = record {
  so_far = record {
    steps = h.steps;
    history = h.history;
    keeps = h.keeps;
    count = on.1 ∙ h.count;
    place = on.0 ∙ h.place;
    records = λ t. subst (λ (n : ℕ). AreRecords c 0 (written_forms h.steps) n) (sym size) (h.records t);
  };
  shut = λ t. subst (λ (n : ℕ). IsEnd c n new.size) (sym on.0) (subst (λ (n : ℕ). IsEnd c old.place n) (sym size) (ends t));
}

-- the journal goes on behind the history
pub replayed : (terms : Terms) (told : Bool) (c : Content) (journal : JournalState) (reader : ReaderState) (site : SiteState) (h : IsReadToEnd terms told c reader site)
    → journal.count ≡ reader.count → journal.place ≡ reader.place → IsReplayed terms journal site h.so_far.steps
replayed terms told c journal reader site h count place = record {
  history = h.so_far.history;
  keeps = h.so_far.keeps;
  count = count ∙ h.so_far.count;
  place = place ∙ h.so_far.place ∙ end_of-history h.so_far.steps;
}

-- whose records the area holds
pub held : (terms : Terms) (told : Bool) (c : Content) (reader : ReaderState) (site : SiteState) (h : IsReadToEnd terms told c reader site) → IsTrue told → HoldsRecords c 0 (written_forms h.so_far.steps) reader.size
held terms told c reader site h t = record {
  records = h.so_far.records t;
  shut = subst (λ (n : ℕ). IsEnd c n reader.size) h.so_far.place (h.shut t);
}
