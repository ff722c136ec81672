-- Calls that write nothing: reads, syncs, and calls that changed nothing.
use Rattle.std.proofs.Common.{ℕ, List, refl, sym, ◌∙◌}
use Rattle.bank.specs.Content.{Image, Stands}
use Rattle.bank.specs.View.{View, IsImage, IsSound, Unchanged, OnlyContent, LeavesOnly, IsTornImage, Wrote, OnlyRead}
use Rattle.bank.proofs.Instants.{started, weakened, joined, one_call}
use Rattle.bank.proofs.Spans.{Stands-same}
use Rattle.bank.proofs.Writes.{image_is_torn, wrote_then}

-- no call
pub nothing_read : (v : View) → IsSound v → OnlyRead v v
nothing_read v sound = record {
  content = λ a k. refl;
  images = λ a c left. left;
  meanwhile = started v (IsImage v) sound (λ c image. image);
}

-- one call
pub only_read : (old new : View) → IsSound old → IsSound new → Unchanged old new → OnlyRead old new
only_read old new sound sound_then h = record {
  content = h.content;
  images = h.images;
  meanwhile = one_call old new (IsImage old) sound sound_then h.time (λ c image. image) before;
}
  where
    before : (c : Image) → IsImage new c → IsImage old c
    before c image a = h.images a (c a) (image a)

-- an image now was one before
pub was_image : (old new : View) (c : Image) → OnlyRead old new → IsImage new c → IsImage old c
was_image old new c h image a = h.images a (c a) (image a)

-- some calls after others
pub read_then_read : (old mid new : View) → OnlyRead old mid → OnlyRead mid new → OnlyRead old new
read_then_read old mid new first second = record {
  content = λ a k. first.content a k ∙ second.content a k;
  images = λ a c left. first.images a c (second.images a c left);
  meanwhile = joined old mid new (IsImage old) first.meanwhile
      (weakened mid new (IsImage mid) (IsImage old) second.meanwhile (λ c image. was_image old mid c first image));
}

-- what each image has already, each image keeps
pub read_leaves : (old new : View) (P : Image → Type 0) → OnlyRead old new → ((c : Image) → IsImage old c → P c) → LeavesOnly old new P
read_leaves old new P h here = weakened old new (IsImage old) P h.meanwhile here

pub read_then : (old mid new : View) (P : Image → Type 0) → OnlyRead old mid → ((c : Image) → IsImage old c → P c) → LeavesOnly mid new P → LeavesOnly old new P
read_then old mid new P first here second = joined old mid new P (read_leaves old mid P first here) second

pub then_read : (old mid new : View) (P : Image → Type 0) → LeavesOnly old mid P → OnlyRead mid new → ((c : Image) → IsImage mid c → P c) → LeavesOnly old new P
then_read old mid new P first second here = joined old mid new P first (read_leaves mid new P second here)

-- what was the only outcome stays the only one
pub read_only_content : (area : ℕ) (old new : View) → OnlyRead old new → OnlyContent area old → OnlyContent area new
read_only_content area old new h only c left k = sym (h.content area k) ∙ only c (h.images area c left) k

pub read_stands : (area p : ℕ) (bytes : List ℕ) (old new : View) → OnlyRead old new → Stands (old.content area) p bytes → Stands (new.content area) p bytes
read_stands area p bytes old new h stands = Stands-same (old.content area) (new.content area) p bytes (λ k low high. sym (h.content area k)) stands

-- beside calls that write within one range of one area
module _ (area p n : ℕ) where
  pub read_is_write : (old new : View) → OnlyRead old new → Wrote area p n old new
  read_is_write old new h = record {
    content = λ k out. sym (h.content area k);
    other_content = λ a ne. h.content a;
    images = λ c left. (c, h.images area c left, λ k out. refl);
    other_images = λ a c ne left. h.images a c left;
    meanwhile = weakened old new (IsImage old) (IsTornImage old area p n) h.meanwhile (λ c image. image_is_torn area p n old c image);
  }

  pub read_then_wrote : (old mid new : View) → OnlyRead old mid → Wrote area p n mid new → Wrote area p n old new
  read_then_wrote old mid new first second = wrote_then area p n old mid new (read_is_write old mid first) second

  pub wrote_then_read : (old mid new : View) → Wrote area p n old mid → OnlyRead mid new → Wrote area p n old new
  wrote_then_read old mid new first second = wrote_then area p n old mid new first (read_is_write mid new second)
