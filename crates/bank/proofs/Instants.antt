-- How a run of calls goes on.
use Rattle.std.proofs.Common.{◌≤◌, ℕ, inl, inr, ⊎_elim, arith}
use Rattle.bank.specs.Content.{Image}
use Rattle.bank.specs.View.{View, IsImage, IsSound, IsSince, Elapses, LeavesOnly}

-- before the first call
pub started : (v : View) (P : Image → Type 0) → IsSound v → ((c : Image) → IsImage v c → P c) → LeavesOnly v v P
started v P sound here = record {
  later = omega arith;
  each = λ c left. here c (sound.only_now c left);
  before = λ t c le left. inl left;
  keeps = λ t c le left. left;
}

-- an image now is one since each earlier instant
pub since_now : (v : View) (instant : ℕ) (c : Image) → IsSound v → instant ≤ v.instant → IsImage v c → IsSince v instant c
since_now v instant c sound le image t lt = sound.counts_now t c (omega (arith, le, lt)) image

-- one call
pub one_call : (old new : View) (P : Image → Type 0) → IsSound old → IsSound new → Elapses old new → ((c : Image) → IsImage old c → P c) → ((c : Image) → IsImage new c → P c) → LeavesOnly old new P
one_call old new P sound sound_then time was now = record {
  later = time.later;
  each = λ c left. ⊎_elim (λ h. was c (sound.only_now c h)) (now c) (time.nothing_else old.instant c (omega arith) left);
  before = λ t c le left. ⊎_elim (λ h. inl h) (λ image. inr (now c image, since_now new old.instant c sound_then time.later image)) (time.nothing_else t c le left);
  keeps = time.keeps;
}

-- one run after another
pub joined : (old mid new : View) (P : Image → Type 0) → LeavesOnly old mid P → LeavesOnly mid new P → LeavesOnly old new P
joined old mid new P first second = record {
  later = omega (arith, first.later, second.later);
  each = λ c left. ⊎_elim (first.each c) (λ p. p.0) (second.before old.instant c first.later left);
  before = λ t c le left. ⊎_elim
      (λ was. ⊎_elim (λ h. inl h) (λ p. inr (p.0, λ s lt. second.keeps s c (omega (arith, lt, first.later)) (p.1 s lt))) (first.before t c le was))
      (λ p. inr (p.0, λ s lt. p.1 s (omega (arith, lt, first.later))))
      (second.before t c (omega (arith, le, first.later)) left);
  keeps = λ t c le left. second.keeps t c (omega (arith, le, first.later)) (first.keeps t c le left);
}

pub weakened : (old new : View) (P Q : Image → Type 0) → LeavesOnly old new P → ((c : Image) → P c → Q c) → LeavesOnly old new Q
weakened old new P Q so_far more = record {
  later = so_far.later;
  each = λ c left. more c (so_far.each c left);
  before = λ t c le left. ⊎_elim (λ was. inl was) (λ p. inr (more c p.0, p.1)) (so_far.before t c le left);
  keeps = so_far.keeps;
}
