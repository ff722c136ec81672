-- How many sets there may be, and the test of it.
use Rattle.std.proofs.Common.{◌≡◌, Bool, true, false, List, length, refl, inl, inr, arith}
use Rattle.std.specs.Prelude.{◌&&◌, not, nat_le}
use Rattle.std.proofs.lemmas.Bool.{leb-true}
use Rattle.site_text.specs.Fields.{Field}
use Rattle.archiver_lines.specs.Names.{is_in, MayMention, IsOneTooMany}
use Rattle.archiver_lines.specs.CopySteps.{is_too_many}
use Rattle.archiver_lines.proofs.Tests.{above, is_above}

with_room : (b : Bool) → not b && false ≡ false
with_room true = refl
with_room false = refl

pub few_sets : (sets : List Field) (name : Field) → MayMention sets name → is_too_many sets name ≡ false
few_sets sets name (inl there) = rw there refl
few_sets sets name (inr room) = rw (above 64 (length sets) room) (with_room (is_in sets name))

pub few_said : (sets : List Field) (name : Field) → is_too_many sets name ≡ false → MayMention sets name
few_said sets name is = go (is_in sets name) refl is
  where
    go : (b : Bool) → is_in sets name ≡ b → not b && nat_le 64 (length sets) ≡ false → MayMention sets name
    go true there is = inl there
    go false there is = inr (is_above 64 (length sets) is)

pub many_said : (sets : List Field) (name : Field) → is_too_many sets name ≡ true → IsOneTooMany sets name
many_said sets name is = go (is_in sets name) refl is
  where
    go : (b : Bool) → is_in sets name ≡ b → not b && nat_le 64 (length sets) ≡ true → IsOneTooMany sets name
    go true there is = absurd cc
    go false there is = (there, leb-true 64 (length sets) is)

pub not_many : (sets : List Field) (name : Field) → is_too_many sets name ≡ false → ¬ IsOneTooMany sets name
not_many sets name few (none, full) = go (few_said sets name few)
  where
    go : MayMention sets name → ⊥
    go (inl there) = absurd cc
    go (inr room) = omega (arith, room, full)
