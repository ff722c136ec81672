-- The laws of the views of a store in memory.
use Rattle.std.proofs.Common.{◌≡◌, inl, inr, ℕ, ◌-◌, ◌≤◌, Bool, true, false, cond, List, [], ◌∷◌, length, get_or, refl, sym, ◌∙◌, ap, arith}
use Rattle.std.proofs.lemmas.Bool.Decides.{nat_tests}
use Rattle.bank.specs.Content.{Content, Image, Same, SameOutside}
use Rattle.bank.specs.View.{IsSound}
use Rattle.bank.specs.declared.call.Call.{Call}
use Rattle.bank.specs.Past.{is_write_of, is_sync_of, covers, content_of, LeftAfter, Leaves, IsImageAt, LeftSince, view_of}

pub not_covered : (start : Image) (call : Call) (past : List Call) (a k : ℕ) → covers call a k ≡ false → content_of start (call ∷ past) a k ≡ content_of start past a k
not_covered start call past a k h = ap (λ (b : Bool). cond b (get_or call.bytes (k - call.place) 0) (content_of start past a k)) h

-- a call that wrote nothing there
pub not_written : (start : Image) (call : Call) (past : List Call) (a : ℕ) → is_write_of call a ≡ false → Same (content_of start past a) (content_of start (call ∷ past) a)
not_written start call past a h k = sym (not_covered start call past a k (grind (arith, nat_tests)))

pub outside : (start : Image) (call : Call) (past : List Call) (a : ℕ) → SameOutside call.place (length call.bytes) (content_of start past a) (content_of start (call ∷ past) a)
outside start call past a k out = not_covered start call past a k (grind (arith, nat_tests))

pub leaves_same : (start : Image) (past : List Call) (a : ℕ) (c d : Content) → Same c d → Leaves start past a c → Leaves start past a d
leaves_same start [] a c d same h = λ k. h k ∙ same k
leaves_same start (call ∷ past) a c d same h = by_test (is_write_of call a) (is_sync_of call a) (leaves_same start past a c d same) h
  where
    by_test : (w s : Bool) → (Leaves start past a c → Leaves start past a d)
        → LeftAfter w s call.place (length call.bytes) (content_of start past a) (λ e. Leaves start past a e) c
        → LeftAfter w s call.place (length call.bytes) (content_of start past a) (λ e. Leaves start past a e) d
    by_test true s rest h = (h.0, h.1, λ k out. sym (same k) ∙ h.2 k out)
    by_test false true rest h = λ k. h k ∙ same k
    by_test false false rest h = rest h

-- the store as it reads is an image
pub reads_as_image : (start : Image) (past : List Call) (a : ℕ) → Leaves start past a (content_of start past a)
reads_as_image start [] a = λ k. refl
reads_as_image start (call ∷ past) a = by_test (is_write_of call a) (is_sync_of call a) refl (reads_as_image start past a)
  where
    by_test : (w s : Bool) → w ≡ is_write_of call a → Leaves start past a (content_of start past a)
        → LeftAfter w s call.place (length call.bytes) (content_of start past a) (λ e. Leaves start past a e) (content_of start (call ∷ past) a)
    by_test true s is h = (content_of start past a, h, outside start call past a)
    by_test false true is h = not_written start call past a (sym is)
    by_test false false is h = leaves_same start past a _ _ (not_written start call past a (sym is)) h

pub counts_now : (start : Image) (past : List Call) (t : ℕ) (c : Image) → t ≤ length past → IsImageAt start past c → LeftSince start past t c
counts_now start [] t c le image = (le, image)
counts_now start (call ∷ past) t c le image = inl (le, image)

within : (start : Image) (past : List Call) (t : ℕ) (c : Image) → LeftSince start past t c → t ≤ length past
within start [] t c h = h.0
within start (call ∷ past) t c (inl h) = h.0
within start (call ∷ past) t c (inr h) = omega (arith, within start past t c h)

only_now : (start : Image) (past : List Call) (c : Image) → LeftSince start past (length past) c → IsImageAt start past c
only_now start [] c h = h.1
only_now start (call ∷ past) c (inl h) = h.1
only_now start (call ∷ past) c (inr h) = absurd (omega (arith, within start past _ c h))

pub sound_of : (start : Image) (past : List Call) → IsSound (view_of start past)
sound_of start past = record {
  reads_as_image = reads_as_image start past;
  counts_now = counts_now start past;
  only_now = only_now start past;
}
