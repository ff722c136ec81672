-- What a crash left, as rounds go on.
use Rattle.std.proofs.Common.{◌≡◌, ◌⊎◌, inl, inr, ⊎_elim, ℕ, ◌≤◌, List, [], ◌∷◌, ◌++◌, subst, arith}
use Rattle.bank.specs.Content.{Image}
use Rattle.bank.specs.View.{View, IsImage, IsSound, IsSince, LeavesOnly, OnlyRead}
use Rattle.site_history.specs.Terms.{Terms}
use Rattle.site_history.specs.Worlds.{World}
use Rattle.site_history.specs.Images.{ReadsAs}
use Rattle.session.specs.Rounds.{Phase, Round, phase_after, AreInTime, JournalsStood}
use Rattle.session.specs.Kept.{AreKept, IsOpening, Passes}
use Rattle.session.proofs.RoundLaws.{in_time_to}

-- Before the first round each image reads as the first world.
pub kept_begun : (terms : Terms) (v : View) (w : World) → IsSound v → ((c : Image) → IsImage v c → ReadsAs terms w c) → AreKept terms v v.instant w []
kept_begun terms v w sound images = λ c left. images c (sound.only_now c left)

-- One round more: an image since an earlier instant is one from before the round, or it is one of the round's time.
pub kept_more : (terms : Terms) (store store' : View) (from : ℕ) (first : Phase) (rounds : List Round) (round : Round)
    → AreKept terms store from first.world rounds → AreInTime from rounds store.instant
    → LeavesOnly store store' (λ c. ReadsAs terms (phase_after first rounds).world c ⊎ ReadsAs terms round.after.world c) → round.instant ≡ store'.instant
    → ((c : Image) → store'.left_since store'.instant c → ReadsAs terms round.after.world c) → AreKept terms store' from first.world (rounds ++ round ∷ [])
kept_more terms store store' from first [] round kept in_time left same since = (
  λ c h. ⊎_elim (λ was. inr (inl (kept c was))) (λ p. inr p.0) (left.before from c in_time h),
  λ c h. since c (subst (λ (m : ℕ). store'.left_since m c) same h),
)
kept_more terms store store' from first (x ∷ rounds) round kept in_time left same since =
    let le : x.instant ≤ store.instant = in_time_to x.instant store.instant rounds in_time.1 in (
      λ c h. ⊎_elim (λ was. ⊎_elim (λ later. inl (left.keeps x.instant c le later)) (λ reads. inr reads) (kept.0 c was)) (λ p. inl (p.1 x.instant le))
          (left.before from c (omega (arith, in_time.0, le)) h),
      kept_more terms store store' x.instant x.after rounds round kept.1 in_time.1 left same since,
    )

-- One round more: what the journal read when earlier rounds began stood in the store, and stays an image since then.
pub stood_more : (store store' : View) (P : Image → Type 0) (from : ℕ) (rounds : List Round) (round : Round) → JournalsStood store from rounds → AreInTime from rounds store.instant
    → LeavesOnly store store' P → (c : Image) × IsSince store' store.instant c × (round.journal ≡ c 0) → JournalsStood store' from (rounds ++ round ∷ [])
stood_more store store' P from [] round stood in_time left read = ((read.0, read.1 from in_time, read.2), tt)
stood_more store store' P from (x ∷ rounds) round stood in_time left read = (
  (stood.0.0, left.keeps from stood.0.0 (omega (arith, in_time.0, in_time_to x.instant store.instant rounds in_time.1)) stood.0.1, stood.0.2),
  stood_more store store' P x.instant rounds round stood.1 in_time.1 left read,
)

-- What a store reads is an image since each instant up to its own, also as time goes on.
pub reads_since : (old new : View) (P : Image → Type 0) → IsSound old → LeavesOnly old new P → IsSince new old.instant old.content
reads_since old new P sound left = λ t le. left.keeps t old.content le (sound.counts_now t old.content le sound.reads_as_image)

-- A store that was read alone is open: each image meanwhile is one from before.
pub opening_read : (u v : View) → OnlyRead u v → IsOpening u v v.instant
opening_read u v read = record {
  later = read.meanwhile.later;
  images = λ c left. inr (read.meanwhile.each c left);
}

-- That stays so as time goes on: any other image is one since the store was open.
pub opening_later : (entry v v' : View) → Passes v v' → IsOpening entry v v.instant → IsOpening entry v' v.instant
opening_later entry v v' passes opening = record {
  later = opening.later;
  images = λ c left. ⊎_elim (λ was. ⊎_elim (λ since. inl (passes.keeps v.instant c (omega arith) since)) (λ near. inr near) (opening.images c was))
      (λ p. inl (p.1 v.instant (omega arith))) (passes.before entry.instant c opening.later left);
}
