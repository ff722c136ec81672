-- What a store tells of its areas, and what its calls do to that.
use Rattle.std.specs.Prelude.{◌≢◌, ◌⊎◌, ℕ, ◌≤◌}
use Rattle.bank.specs.Content.{Content, Image, Same, SameOutside}

-- what a read gives, what a crash now may leave of each area, the instant,
-- and what a crash at some instant from one on may have left of the whole store
pub record View : Type 1 where
  pub content : Image
  pub may_leave : ℕ → Content → Type 0
  pub instant : ℕ
  pub left_since : ℕ → Image → Type 0

-- an image now: any choice of one content for each area
abbrev pub IsImage : View → Image → Type 0
IsImage v c = (a : ℕ) → v.may_leave a (c a)

-- what holds of each view: the store as it reads is an image, and an image now is an image since any earlier instant
pub record IsSound (v : View) : Type 0 where
  pub reads_as_image : IsImage v v.content
  pub counts_now : (t : ℕ) (c : Image) → t ≤ v.instant → IsImage v c → v.left_since t c
  pub only_now : (c : Image) → v.left_since v.instant c → IsImage v c

-- time goes on: a crash since t may have left what it might have left before, or what it may leave now
pub record Elapses (old new : View) : Type 0 where
  pub later : old.instant ≤ new.instant
  pub nothing_else : (t : ℕ) (c : Image) → t ≤ old.instant → new.left_since t c → old.left_since t c ⊎ IsImage new c
  pub keeps : (t : ℕ) (c : Image) → t ≤ old.instant → old.left_since t c → new.left_since t c

-- the content stays, and a crash leaves only what it could leave before
pub record Unchanged (old new : View) : Type 0 where
  pub content : (a : ℕ) → Same (old.content a) (new.content a)
  pub images : (a : ℕ) (c : Content) → new.may_leave a c → old.may_leave a c
  pub time : Elapses old new

-- one call may have torn n bytes of an area, and changed no other byte
pub record Touches (area p n : ℕ) (old new : View) : Type 0 where
  pub content : SameOutside p n (old.content area) (new.content area)
  pub other_content : (a : ℕ) → a ≢ area → Same (old.content a) (new.content a)
  pub images : (c : Content) → new.may_leave area c → (d : Content) × old.may_leave area d × SameOutside p n d c
  pub other_images : (a : ℕ) (c : Content) → a ≢ area → new.may_leave a c → old.may_leave a c
  pub time : Elapses old new

-- a crash leaves of this area what a read gives
abbrev pub OnlyContent : ℕ → View → Type 0
OnlyContent area v = (c : Content) → v.may_leave area c → Same (v.content area) c

-- an image since each instant up to this one
abbrev pub IsSince : View → ℕ → Image → Type 0
IsSince v instant c = (t : ℕ) → t ≤ instant → v.left_since t c

-- from the instant of old to that of new, each image has P
pub record LeavesOnly (old new : View) (P : Image → Type 0) : Type 0 where
  pub later : old.instant ≤ new.instant
  pub each : (c : Image) → new.left_since old.instant c → P c
  -- and so an image since an earlier instant is one from before, or it is from this time and has P
  pub before : (t : ℕ) (c : Image) → t ≤ old.instant → new.left_since t c → old.left_since t c ⊎ (P c × IsSince new old.instant c)
  -- an image from before stays one
  pub keeps : (t : ℕ) (c : Image) → t ≤ old.instant → old.left_since t c → new.left_since t c

-- an image of v in which n bytes of one area may be torn
pub record IsTornImage (v : View) (area p n : ℕ) (c : Image) : Type 0 where
  pub torn : (d : Content) × v.may_leave area d × SameOutside p n d (c area)
  pub others : (a : ℕ) → a ≢ area → v.may_leave a (c a)

-- what some calls did which wrote within these n bytes of one area: at each instant no other byte changed
pub record Wrote (area p n : ℕ) (old new : View) : Type 0 where
  pub content : SameOutside p n (old.content area) (new.content area)
  pub other_content : (a : ℕ) → a ≢ area → Same (old.content a) (new.content a)
  pub images : (c : Content) → new.may_leave area c → (d : Content) × old.may_leave area d × SameOutside p n d c
  pub other_images : (a : ℕ) (c : Content) → a ≢ area → new.may_leave a c → old.may_leave a c
  pub meanwhile : LeavesOnly old new (IsTornImage old area p n)

-- what some calls did which wrote nothing
pub record OnlyRead (old new : View) : Type 0 where
  pub content : (a : ℕ) → Same (old.content a) (new.content a)
  pub images : (a : ℕ) (c : Content) → new.may_leave a c → old.may_leave a c
  pub meanwhile : LeavesOnly old new (IsImage old)

-- of a store that tells nothing
abbrev pub untold : View
untold = record {
  content = λ a k. 0;
  may_leave = λ a c. Unit {0};
  instant = 0;
  left_since = λ t c. Unit {0};
}
