-- Calls that write within chosen bytes of one area, which need not follow one another.
use Rattle.std.specs.Prelude.{◌≡◌, ◌≢◌, ℕ, Bool, false}
use Rattle.bank.specs.Content.{Content, Image, Same}
use Rattle.bank.specs.View.{View, LeavesOnly}

-- the same at each byte that is not chosen
abbrev pub SameBeside : (ℕ → Bool) → Content → Content → Type 0
SameBeside inside c d = (k : ℕ) → inside k ≡ false → d k ≡ c k

-- an image of v in which the chosen bytes of one area may be torn
pub record IsTornInside (v : View) (area : ℕ) (inside : ℕ → Bool) (c : Image) : Type 0 where
  pub torn : (d : Content) × v.may_leave area d × SameBeside inside d (c area)
  pub others : (a : ℕ) → a ≢ area → v.may_leave a (c a)

-- what some calls did which wrote within the chosen bytes of one area: at each instant no other byte changed
pub record WroteInside (area : ℕ) (inside : ℕ → Bool) (old new : View) : Type 0 where
  pub content : SameBeside inside (old.content area) (new.content area)
  pub other_content : (a : ℕ) → a ≢ area → Same (old.content a) (new.content a)
  pub images : (c : Content) → new.may_leave area c → (d : Content) × old.may_leave area d × SameBeside inside d c
  pub other_images : (a : ℕ) (c : Content) → a ≢ area → new.may_leave a c → old.may_leave a c
  pub meanwhile : LeavesOnly old new (IsTornInside old area inside)
