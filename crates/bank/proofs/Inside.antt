-- Calls that write within chosen bytes of one area.
use Rattle.std.proofs.Common.{◌≡◌, ◌≢◌, ◌⊎◌, inr, ℕ, ◌+◌, ◌<◌, ◌≤◌, Bool, false, refl, ◌∙◌, arith}
use Rattle.bank.specs.Content.{Content, Image}
use Rattle.bank.specs.View.{View, IsImage, IsSound, Unchanged, Wrote, IsTornImage}
use Rattle.bank.specs.Inside.{SameBeside, IsTornInside, WroteInside}
use Rattle.bank.proofs.Instants.{weakened, joined}
use Rattle.bank.proofs.Writes.{wrote_nothing}

-- a byte that is not chosen lies outside the range
abbrev pub IsRangeInside : ℕ → ℕ → (ℕ → Bool) → Type 0
IsRangeInside p n inside = (k : ℕ) → inside k ≡ false → (k < p) ⊎ (p + n ≤ k)

module _ (area : ℕ) (inside : ℕ → Bool) where
  image_is_torn : (v : View) (c : Image) → IsImage v c → IsTornInside v area inside c
  image_is_torn v c image = record { torn = (c area, image area, λ k out. refl); others = λ a ne. image a }

  torn_inside : (old new : View) (c : Image) → ((d : Content) → new.may_leave area d → (e : Content) × old.may_leave area e × SameBeside inside e d)
      → ((a : ℕ) (d : Content) → a ≢ area → new.may_leave a d → old.may_leave a d) → IsTornInside new area inside c → IsTornInside old area inside c
  torn_inside old new c images others h =
      let e = images h.torn.0 h.torn.1 in
      record { torn = (e.0, e.1, λ k out. h.torn.2 k out ∙ e.2 k out); others = λ a ne. others a (c a) ne (h.others a ne) }

  -- what was written within a range of chosen bytes
  pub wrote_inside : (p n : ℕ) (old new : View) → IsRangeInside p n inside → Wrote area p n old new → WroteInside area inside old new
  wrote_inside p n old new range h = record {
    content = λ k out. h.content k (range k out);
    other_content = h.other_content;
    images = λ c left. let d = h.images c left in (d.0, d.1, λ k out. d.2 k (range k out));
    other_images = h.other_images;
    meanwhile = weakened old new (IsTornImage old area p n) (IsTornInside old area inside) h.meanwhile
        (λ c t. record { torn = (t.torn.0, t.torn.1, λ k out. t.torn.2 k (range k out)); others = t.others });
  }

  -- nothing was written
  pub inside_nothing : (old new : View) → IsSound old → IsSound new → Unchanged old new → WroteInside area inside old new
  inside_nothing old new sound sound_then h =
      let w = wrote_nothing area 0 0 old new sound sound_then h in record {
        content = λ k out. w.content k (inr (omega arith));
        other_content = w.other_content;
        images = λ c left. let d = w.images c left in (d.0, d.1, λ k out. d.2 k (inr (omega arith)));
        other_images = w.other_images;
        meanwhile = weakened old new (IsTornImage old area 0 0) (IsTornInside old area inside) w.meanwhile
            (λ c t. record { torn = (t.torn.0, t.torn.1, λ k out. t.torn.2 k (inr (omega arith))); others = t.others });
      }

  -- some calls after others
  pub inside_then : (old mid new : View) → WroteInside area inside old mid → WroteInside area inside mid new → WroteInside area inside old new
  inside_then old mid new first second = record {
    content = λ k out. second.content k out ∙ first.content k out;
    other_content = λ a ne k. first.other_content a ne k ∙ second.other_content a ne k;
    images = λ c left.
        let d = second.images c left in
        let e = first.images d.0 d.1 in
        (e.0, e.1, λ k out. d.2 k out ∙ e.2 k out);
    other_images = λ a c ne left. first.other_images a c ne (second.other_images a c ne left);
    meanwhile = joined old mid new (IsTornInside old area inside) first.meanwhile
        (weakened mid new (IsTornInside mid area inside) (IsTornInside old area inside) second.meanwhile
        (λ c h. torn_inside old mid c first.images first.other_images h));
  }
