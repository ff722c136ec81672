-- What one call more does to the view.
use Rattle.std.proofs.Common.{◌≡◌, ◌⊎◌, inl, inr, ⊎_elim, ℕ, ◌+◌, ◌-◌, ◌<◌, Bool, true, false, cond, List, [], ◌∷◌, ◌++◌, length, get_or, reverse, refl, sym, ◌∙◌, ap, subst, arith, Result, Ok, Err, OnOk, OnErr}
use Rattle.std.proofs.lemmas.Bool.Decides.{nat_tests}
use Rattle.std.proofs.lemmas.Bool.{eq-eqb}
use Rattle.std.proofs.lemmas.List.{reverse-append}
use Rattle.bank.specs.Content.{Content, Image, Same, Stands}
use Rattle.bank.specs.View.{View, Elapses, Unchanged, OnlyContent}
use Rattle.bank.specs.declared.bank.BankFailed.{BankFailed}
use Rattle.bank.specs.declared.call.Call.{Call}
use Rattle.bank.specs.declared.call.BankCall.{BankCall}
use Rattle.bank.specs.declared.call.BankCall.TheVariants.{Read, Write, Sync}
use Rattle.bank.specs.declared.memory.MemoryBank.{MemoryBank}
use Rattle.bank.specs.Past.{is_write, is_write_of, is_sync_of, covers, content_of, LeftAfter, Leaves, view_of}
use Rattle.bank.specs.Memory.{zeros, began, past_of, made}
use Rattle.bank.specs.Sound.{not_written, leaves_same, reads_as_image}
use Rattle.bank.proofs.Spans.{Stands-each, Stands-same}

pub elapses : (start : Image) (past : List Call) (call : Call) → Elapses (view_of start past) (view_of start (call ∷ past))
elapses start past call = record {
  later = omega arith;
  nothing_else = λ t c le left. ⊎_elim (λ h. inr h.1) (λ was. inl was) left;
  keeps = λ t c le left. inr left;
}

same_view : (start : Image) (past : List Call) → Unchanged (view_of start past) (view_of start past)
same_view start past = record {
  content = λ a k. refl;
  images = λ a c left. left;
  time = record { later = omega arith; nothing_else = λ t c le left. inl left; keeps = λ t c le left. left };
}

-- a call that wrote nothing
module _ (start : Image) (past : List Call) (call : Call) (quiet : (a : ℕ) → is_write_of call a ≡ false) where
  images : (a : ℕ) (c : Content) → Leaves start (call ∷ past) a c → Leaves start past a c
  images a c = by_test (is_write_of call a) (is_sync_of call a) (quiet a)
    where
      by_test : (w s : Bool) → w ≡ false → LeftAfter w s call.place (length call.bytes) (content_of start past a) (λ d. Leaves start past a d) c → Leaves start past a c
      by_test true s never h = absurd (let e : true ≡ false = never in cc)
      by_test false true never h = leaves_same start past a (content_of start past a) c h (reads_as_image start past a)
      by_test false false never h = h

  pub unchanged : Unchanged (view_of start past) (view_of start (call ∷ past))
  unchanged = record { content = λ a. not_written start call past a (quiet a); images = images; time = elapses start past call }

-- a sync
module _ (start : Image) (past : List Call) (call : Call) (area : ℕ) (quiet : is_write_of call area ≡ false) (brought : is_sync_of call area ≡ true) where
  pub only_content : OnlyContent area (view_of start (call ∷ past))
  only_content c h k = sym (not_written start call past area quiet k) ∙ by_test (is_write_of call area) (is_sync_of call area) quiet brought h k
    where
      by_test : (w s : Bool) → w ≡ false → s ≡ true → LeftAfter w s call.place (length call.bytes) (content_of start past area) (λ d. Leaves start past area d) c → Same (content_of start past area) c
      by_test true s never is h = absurd (let e : true ≡ false = never in cc)
      by_test false true never is h = h
      by_test false false never is h = absurd (let e : false ≡ true = is in cc)

-- a write
module _ (start : Image) (past : List Call) (call : Call) (area : ℕ) (wrote : is_write_of call area ≡ true) where
  covered : (k : ℕ) → k < length call.bytes → content_of start (call ∷ past) area (call.place + k) ≡ get_or call.bytes k 0
  covered k lt =
      let test : covers call area (call.place + k) ≡ true = grind (arith, nat_tests) in
      let at : call.place + k - call.place ≡ k = omega arith in
      ap (λ (b : Bool). cond b (get_or call.bytes (call.place + k - call.place) 0) (content_of start past area (call.place + k))) test ∙ ap (λ (n : ℕ). get_or call.bytes n 0) at

  pub stands : Stands (content_of start (call ∷ past) area) call.place call.bytes
  stands = Stands-each _ call.place call.bytes covered

not_done : (area place : ℕ) (kind : BankCall) (bytes : List ℕ) (a : ℕ) → is_write_of (made kind area place bytes false) a ≡ false
not_done area place kind bytes a = refl

no_write : (area place : ℕ) (kind : BankCall) (bytes : List ℕ) → is_write kind ≡ false → (a : ℕ) → is_write_of (made kind area place bytes true) a ≡ false
no_write area place Read bytes is a = refl
no_write area place Write bytes is a = absurd (cc)
no_write area place Sync bytes is a = refl

-- the view of a store with one call more at its record's end
module _ (m n : MemoryBank) (before : n.before ≡ m.before) where
  view_as : (calls : List Call) → n.calls ≡ calls → view_of (began n) (past_of n) ≡ view_of (began m) (reverse calls)
  view_as calls e = ap (λ (l : List Call). view_of (content_of zeros (reverse l)) (past_of n)) before ∙ ap (λ (l : List Call). view_of (began m) (reverse l)) e

  pub view_more : (call : Call) → n.calls ≡ m.calls ++ call ∷ [] → view_of (began n) (past_of n) ≡ view_of (began m) (call ∷ past_of m)
  view_more call e = view_as (m.calls ++ call ∷ []) e ∙ ap (λ (l : List Call). view_of (began m) l) (reverse-append m.calls (call ∷ []))

  module _ (area place : ℕ) (bytes : List ℕ) (kind : BankCall) where
    refused : (n.calls ≡ m.calls) ⊎ (n.calls ≡ m.calls ++ made kind area place bytes false ∷ []) → Unchanged (view_of (began m) (past_of m)) (view_of (began n) (past_of n))
    refused (inl e) = subst (λ (v : View). Unchanged (view_of (began m) (past_of m)) v) (sym (view_as m.calls e)) (same_view (began m) (past_of m))
    refused (inr e) = subst (λ (v : View). Unchanged (view_of (began m) (past_of m)) v) (sym (view_more _ e)) (unchanged (began m) (past_of m) (made kind area place bytes false) (not_done area place kind bytes))

    pub kept : (r : Result (Unit {0}) BankFailed) → is_write kind ≡ false
        → OnOk r (n.calls ≡ m.calls ++ made kind area place bytes true ∷ [])
        → OnErr r ((n.calls ≡ m.calls) ⊎ (n.calls ≡ m.calls ++ made kind area place bytes false ∷ []))
        → Unchanged (view_of (began m) (past_of m)) (view_of (began n) (past_of n))
    kept (Ok x) quiet ok err = subst (λ (v : View). Unchanged (view_of (began m) (past_of m)) v) (sym (view_more _ ok)) (unchanged (began m) (past_of m) (made kind area place bytes true) (no_write area place kind bytes quiet))
    kept (Err x) quiet ok err = refused err

  pub durable : (area place : ℕ) (bytes : List ℕ) (r : Result (Unit {0}) BankFailed) → OnOk r (n.calls ≡ m.calls ++ made Sync area place bytes true ∷ [])
      → OnOk r (OnlyContent area (view_of (began n) (past_of n)))
  durable area place bytes (Ok x) ok = subst (λ (v : View). OnlyContent area v) (sym (view_more _ ok)) (only_content (began m) (past_of m) (made Sync area place bytes true) area refl (eq-eqb area area refl))
  durable area place bytes (Err x) ok = tt

  pub written : (area place : ℕ) (bytes : List ℕ) (r : Result (Unit {0}) BankFailed) → OnOk r (n.calls ≡ m.calls ++ made Write area place bytes true ∷ [])
      → OnOk r (Stands (content_of (began n) (past_of n) area) place bytes)
  written area place bytes (Ok x) ok = subst (λ (v : View). Stands (v.content area) place bytes) (sym (view_more _ ok)) (stands (began m) (past_of m) (made Write area place bytes true) area (eq-eqb area area refl))
  written area place bytes (Err x) ok = tt

-- what a read gives after it was recorded is what it gave before
pub read_back : (m n : MemoryBank) (area place : ℕ) (before calls : List Call) (piece : List ℕ) → before ≡ n.before → calls ≡ n.calls
    → Unchanged (view_of (began m) (past_of m)) (view_of (began n) (past_of n))
    → Stands (content_of (content_of zeros (reverse before)) (reverse calls) area) place piece
    → Stands (content_of (began m) (past_of m) area) place piece
read_back m n area place before calls piece eb ec same h =
    let now : Stands (content_of (began n) (past_of n) area) place piece =
    subst (λ (l : List Call). Stands (content_of (content_of zeros (reverse l)) (past_of n) area) place piece) eb
    (subst (λ (l : List Call). Stands (content_of (content_of zeros (reverse before)) (reverse l) area) place piece) ec h) in
    Stands-same _ _ place piece (λ k low high. same.content area k) now
