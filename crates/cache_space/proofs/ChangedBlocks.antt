-- Runs in the middle of what is held that go, or that others replace.
use Rattle.std.proofs.Common.{◌≡◌, ℕ, ◌||◌, Bool, true, false, List, ◌++◌, refl, sym, ◌∙◌, ap}
use Rattle.site_types.specs.declared.file.Run.{Run}
use Rattle.cache_space.specs.Blocks.{is_in_runs}
use Rattle.cache_space.specs.Space.{taken_by, AreThere, AreApart, AreDisjoint}
use Rattle.cache_space.proofs.RunLemmas.{is_in_runs-append}
use Rattle.cache_space.proofs.HeldBlocks.{HaveSameBlocks, taken_by-same, AreApart-sym, AreApart-append, AreApart-append_right, AreApart-from_append_right, AreThere-append, AreThere-from_append, AreDisjoint-append, AreDisjoint-from_append}

in_three : (xs ys zs : List Run) (block : ℕ) → is_in_runs (xs ++ (ys ++ zs)) block ≡ (is_in_runs xs block || (is_in_runs ys block || is_in_runs zs block))
in_three xs ys zs block = is_in_runs-append xs (ys ++ zs) block ∙ ap (λ b. is_in_runs xs block || b) (is_in_runs-append ys zs block)

or_exchanged : (x y z w : Bool) → ((x || (y || z)) || w) ≡ ((x || (w || z)) || y)
or_exchanged true y z w = refl
or_exchanged false true true true = refl
or_exchanged false true true false = refl
or_exchanged false true false true = refl
or_exchanged false true false false = refl
or_exchanged false false true true = refl
or_exchanged false false true false = refl
or_exchanged false false false true = refl
or_exchanged false false false false = refl

-- new runs beside all are the new ones in the place of the old, and the old
pub same-replaced : (xs old zs new : List Run) → HaveSameBlocks ((xs ++ (old ++ zs)) ++ new) ((xs ++ (new ++ zs)) ++ old)
same-replaced xs old zs new block =
    is_in_runs-append (xs ++ (old ++ zs)) new block ∙ ap (λ b. b || is_in_runs new block) (in_three xs old zs block)
    ∙ or_exchanged (is_in_runs xs block) (is_in_runs old block) (is_in_runs zs block) (is_in_runs new block)
    ∙ sym (is_in_runs-append (xs ++ (new ++ zs)) old block ∙ ap (λ b. b || is_in_runs old block) (in_three xs new zs block))

pub taken_by-replaced : (total : ℕ) (xs old zs new : List Run) → taken_by total ((xs ++ (old ++ zs)) ++ new) ≡ taken_by total ((xs ++ (new ++ zs)) ++ old)
taken_by-replaced total xs old zs new = taken_by-same total ((xs ++ (old ++ zs)) ++ new) ((xs ++ (new ++ zs)) ++ old) (same-replaced xs old zs new)

-- what is left where runs go
pub AreDisjoint-removed : (xs ys zs : List Run) → AreDisjoint (xs ++ (ys ++ zs)) → AreDisjoint (xs ++ zs)
AreDisjoint-removed xs ys zs h =
    let outer = AreDisjoint-from_append xs (ys ++ zs) h in
    let inner = AreDisjoint-from_append ys zs outer.1.0 in
    AreDisjoint-append xs zs outer.0 inner.1.0 (AreApart-from_append_right xs ys zs outer.1.1).1

pub AreApart-removed : (xs ys zs : List Run) → AreDisjoint (xs ++ (ys ++ zs)) → AreApart (xs ++ zs) ys
AreApart-removed xs ys zs h =
    let outer = AreDisjoint-from_append xs (ys ++ zs) h in
    let inner = AreDisjoint-from_append ys zs outer.1.0 in
    AreApart-append xs zs ys (AreApart-from_append_right xs ys zs outer.1.1).0 (AreApart-sym ys zs inner.1.1)

pub AreThere-removed : (total : ℕ) (xs ys zs : List Run) → AreThere total (xs ++ (ys ++ zs)) → AreThere total (xs ++ zs) × AreThere total ys
AreThere-removed total xs ys zs h =
    let outer = AreThere-from_append total xs (ys ++ zs) h in
    let inner = AreThere-from_append total ys zs outer.1 in
    (AreThere-append total xs zs outer.0 inner.1, inner.0)

-- where others take their place
pub AreDisjoint-replaced : (xs old zs new : List Run) → AreDisjoint (xs ++ (old ++ zs)) → AreDisjoint new → AreApart new (xs ++ (old ++ zs)) → AreDisjoint (xs ++ (new ++ zs))
AreDisjoint-replaced xs old zs new h new_disjoint apart =
    let outer = AreDisjoint-from_append xs (old ++ zs) h in
    let inner = AreDisjoint-from_append old zs outer.1.0 in
    let new_outer = AreApart-from_append_right new xs (old ++ zs) apart in
    let new_inner = AreApart-from_append_right new old zs new_outer.1 in
    AreDisjoint-append xs (new ++ zs) outer.0
    (AreDisjoint-append new zs new_disjoint inner.1.0 new_inner.1)
    (AreApart-append_right xs new zs (AreApart-sym new xs new_outer.0) (AreApart-from_append_right xs old zs outer.1.1).1)

pub AreApart-replaced : (xs old zs new : List Run) → AreDisjoint (xs ++ (old ++ zs)) → AreApart new (xs ++ (old ++ zs)) → AreApart (xs ++ (new ++ zs)) old
AreApart-replaced xs old zs new h apart =
    let outer = AreDisjoint-from_append xs (old ++ zs) h in
    let inner = AreDisjoint-from_append old zs outer.1.0 in
    let new_inner = AreApart-from_append_right new old zs (AreApart-from_append_right new xs (old ++ zs) apart).1 in
    AreApart-append xs (new ++ zs) old (AreApart-from_append_right xs old zs outer.1.1).0
    (AreApart-append new zs old new_inner.0 (AreApart-sym old zs inner.1.1))

pub AreThere-replaced : (total : ℕ) (xs old zs new : List Run) → AreThere total (xs ++ (old ++ zs)) → AreThere total new → AreThere total (xs ++ (new ++ zs))
AreThere-replaced total xs old zs new h there =
    let outer = AreThere-from_append total xs (old ++ zs) h in
    let inner = AreThere-from_append total old zs outer.1 in
    AreThere-append total xs (new ++ zs) outer.0 (AreThere-append total new zs there inner.1)
