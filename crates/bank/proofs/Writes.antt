-- Calls that write within one range of one area.
use Rattle.std.proofs.Common.{◌≢◌, ◌⊎◌, inl, inr, ℕ, ◌+◌, ◌<◌, ◌≤◌, refl, sym, ◌∙◌, arith}
use Rattle.bank.specs.Content.{Content, Image, SameOutside}
use Rattle.bank.specs.View.{View, IsImage, IsSound, Unchanged, Touches, Wrote, IsTornImage}
use Rattle.bank.proofs.Instants.{weakened, joined, one_call}

module _ (area p n : ℕ) where
  pub image_is_torn : (v : View) (c : Image) → IsImage v c → IsTornImage v area p n c
  image_is_torn v c image = record { torn = (c area, image area, λ k out. refl); others = λ a ne. image a }

  pub torn_image : (old new : View) (c : Image) → ((d : Content) → new.may_leave area d → (e : Content) × old.may_leave area e × SameOutside p n e d)
      → ((a : ℕ) (d : Content) → a ≢ area → new.may_leave a d → old.may_leave a d) → IsTornImage new area p n c → IsTornImage old area p n c
  torn_image old new c images others h =
      let e = images h.torn.0 h.torn.1 in
      record { torn = (e.0, e.1, λ k out. h.torn.2 k out ∙ e.2 k out); others = λ a ne. others a (c a) ne (h.others a ne) }

  -- one call
  pub wrote : (old new : View) → IsSound old → IsSound new → Touches area p n old new → Wrote area p n old new
  wrote old new sound sound_then h = record {
    content = h.content;
    other_content = h.other_content;
    images = h.images;
    other_images = h.other_images;
    meanwhile = one_call old new (IsTornImage old area p n) sound sound_then h.time (image_is_torn old) now;
  }
    where
      now : (c : Image) → IsImage new c → IsTornImage old area p n c
      now c image = torn_image old new c h.images h.other_images (image_is_torn new c image)

  pub wrote_nothing : (old new : View) → IsSound old → IsSound new → Unchanged old new → Wrote area p n old new
  wrote_nothing old new sound sound_then h = wrote old new sound sound_then (record {
    content = λ k out. sym (h.content area k);
    other_content = λ a ne. h.content a;
    images = λ c left. (c, h.images area c left, λ k out. refl);
    other_images = λ a c ne left. h.images a c left;
    time = h.time;
  })

  -- some calls after others
  pub wrote_then : (old mid new : View) → Wrote area p n old mid → Wrote area p n mid new → Wrote area p n old new
  wrote_then old mid new first second = record {
    content = λ k out. second.content k out ∙ first.content k out;
    other_content = λ a ne k. first.other_content a ne k ∙ second.other_content a ne k;
    images = λ c left.
        let d = second.images c left in
        let e = first.images d.0 d.1 in
        (e.0, e.1, λ k out. d.2 k out ∙ e.2 k out);
    other_images = λ a c ne left. first.other_images a c ne (second.other_images a c ne left);
    meanwhile = joined old mid new (IsTornImage old area p n) first.meanwhile
        (weakened mid new (IsTornImage mid area p n) (IsTornImage old area p n) second.meanwhile (λ c h. torn_image old mid c first.images first.other_images h));
  }

-- a wider range
pub widened : (area p n q m : ℕ) (old new : View) → q ≤ p → p + n ≤ q + m → Wrote area p n old new → Wrote area q m old new
widened area p n q m old new low high h = record {
  content = λ k out. h.content k (outside k out);
  other_content = h.other_content;
  images = λ c left. let d = h.images c left in (d.0, d.1, λ k out. d.2 k (outside k out));
  other_images = h.other_images;
  meanwhile = weakened old new (IsTornImage old area p n) (IsTornImage old area q m) h.meanwhile
      (λ c t. record { torn = (t.torn.0, t.torn.1, λ k out. t.torn.2 k (outside k out)); others = t.others });
}
  where
    outside : (k : ℕ) → (k < q) ⊎ (q + m ≤ k) → (k < p) ⊎ (p + n ≤ k)
    outside k (inl lt) = inl (omega arith)
    outside k (inr le) = inr (omega arith)
