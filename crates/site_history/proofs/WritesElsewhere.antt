-- Calls that write within chosen bytes of one area, where no byte of a history's files is chosen.
use Rattle.std.proofs.Common.{◌≡◌, ◌≢◌, inl, inr, ℕ, ◌+◌, ◌-◌, Bool, List, [], ◌∷◌, ◌++◌, sym, ◌∙◌, ap, subst, arith}
use Rattle.std.proofs.lemmas.Bool.{cases_eq}
use Rattle.bank.specs.Content.{Content, Image, Stands}
use Rattle.bank.specs.View.{View, LeavesOnly}
use Rattle.bank.specs.Inside.{SameBeside, IsTornInside, WroteInside}
use Rattle.bank.proofs.Spans.{Stands-same}
use Rattle.bank.proofs.Instants.{weakened}
use Rattle.site_history.specs.Terms.{Terms}
use Rattle.site_history.specs.Steps.{HistoryStep}
use Rattle.site_history.specs.Histories.{after, IsHistory}
use Rattle.site_history.specs.Images.{extents, Reads}
use Rattle.site_history.specs.Extents.{Extent, AllStand}
use Rattle.site_history.specs.Pinned.{StandInAll, IsPinned, IsClear, IsClearOf}

-- Extents of two lists are clear of the bytes if those of each are.
pub clear_append : (area : ℕ) (inside : ℕ → Bool) (es fs : List Extent) → IsClearOf area inside es → IsClearOf area inside fs → IsClearOf area inside (es ++ fs)
clear_append area inside [] fs h k = k
clear_append area inside (e ∷ es) fs h k = (h.0, clear_append area inside es fs h.1 k)

module _ (area : ℕ) (inside : ℕ → Bool) where
  -- Bytes that stand beside the chosen ones still stand where only chosen bytes changed.
  clear_stands : (e : Extent) (d c : Content) → IsClear area inside e → e.area ≡ area → SameBeside inside d c → Stands d e.place e.bytes → Stands c e.place e.bytes
  clear_stands e d c (inl other) same beside h = absurd (other same)
  clear_stands e d c (inr clear) same beside h = Stands-same d c e.place e.bytes
      (λ k low high. let there : e.place + (k - e.place) ≡ k = omega arith in beside k (sym (ap inside there) ∙ clear (k - e.place) (omega arith))) h

  torn_one : (v : View) (c : Image) (e : Extent) → IsClear area inside e → ((d : Content) → v.may_leave e.area d → Stands d e.place e.bytes) → IsTornInside v area inside c → Stands (c e.area) e.place e.bytes
  torn_one v c e clear h torn = elim (cases_eq e.area area) [
    | inl same ↦ clear_stands e torn.torn.0 (c e.area) clear same
        (λ k out. ap (λ (a : ℕ). c a k) same ∙ torn.torn.2 k out)
        (h torn.torn.0 (subst (λ (a : ℕ). v.may_leave a torn.torn.0) (sym same) torn.torn.1))
    | inr ne ↦ h (c e.area) (torn.others e.area ne)
  ]

  -- The extents stand in each image in which the chosen bytes may be torn.
  pub torn_stands : (v : View) (c : Image) (es : List Extent) → IsClearOf area inside es → StandInAll v es → IsTornInside v area inside c → AllStand c es
  torn_stands v c [] clear h torn = tt
  torn_stands v c (e ∷ es) clear h torn = (torn_one v c e clear.0 h.0 torn, torn_stands v c es clear.1 h.1 torn)

  wrote_one : (v w : View) (c : Content) (e : Extent) → IsClear area inside e → ((d : Content) → v.may_leave e.area d → Stands d e.place e.bytes) → WroteInside area inside v w → w.may_leave e.area c → Stands c e.place e.bytes
  wrote_one v w c e clear h wrote left = elim (cases_eq e.area area) [
    | inl same ↦
        let d = wrote.images c (subst (λ (a : ℕ). w.may_leave a c) same left) in
        clear_stands e d.0 c clear same d.2 (h d.0 (subst (λ (a : ℕ). v.may_leave a d.0) (sym same) d.1))
    | inr ne ↦ h c (wrote.other_images e.area c ne left)
  ]

  -- They stand in each image after the calls.
  pub wrote_stands : (v w : View) (es : List Extent) → IsClearOf area inside es → StandInAll v es → WroteInside area inside v w → StandInAll w es
  wrote_stands v w [] clear h wrote = tt
  wrote_stands v w (e ∷ es) clear h wrote = ((λ c left. wrote_one v w c e clear.0 h.0 wrote left), wrote_stands v w es clear.1 h.1 wrote)

  moved_one : (v w : View) (e : Extent) → IsClear area inside e → WroteInside area inside v w → Stands (v.content e.area) e.place e.bytes → Stands (w.content e.area) e.place e.bytes
  moved_one v w e clear wrote h = elim (cases_eq e.area area) [
    | inl same ↦ clear_stands e (v.content e.area) (w.content e.area) clear same
        (λ k out. ap (λ (a : ℕ). w.content a k) same ∙ wrote.content k out ∙ sym (ap (λ (a : ℕ). v.content a k) same)) h
    | inr ne ↦ Stands-same (v.content e.area) (w.content e.area) e.place e.bytes (λ k low high. sym (wrote.other_content e.area ne k)) h
  ]

  -- Extents that a read gives are given after the calls too.
  pub moved_stand : (v w : View) (es : List Extent) → IsClearOf area inside es → WroteInside area inside v w → AllStand v.content es → AllStand w.content es
  moved_stand v w [] clear wrote h = tt
  moved_stand v w (e ∷ es) clear wrote h = (moved_one v w e clear.0 wrote h.0, moved_stand v w es clear.1 wrote h.1)

  module _ (terms : Terms) (v w : View) (steps : List HistoryStep) (other : area ≢ 0) (clear : IsClearOf area inside (extents (after terms steps))) (h : IsPinned terms v steps)
      (wrote : WroteInside area inside v w) where
    -- A store stays pinned to its history.
    pub still_pinned : IsPinned terms w steps
    still_pinned = record {
      records = record { each = λ c left. h.records.each c (wrote.other_images 0 c (λ e. other (sym e)) left) };
      bytes = wrote_stands v w (extents (after terms steps)) clear h.bytes wrote;
    }

    -- At each moment meanwhile, what a crash leaves reads as the history.
    pub still_reads : IsHistory terms steps → LeavesOnly v w (λ c. Reads terms c steps)
    still_reads history = weakened v w (IsTornInside v area inside) (λ c. Reads terms c steps) wrote.meanwhile (λ c torn. record {
      history = history;
      records = h.records.each (c 0) (torn.others 0 (λ e. other (sym e)));
      bytes = torn_stands v c (extents (after terms steps)) clear h.bytes torn;
    })
