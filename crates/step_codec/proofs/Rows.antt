-- The two tables of the kinds are one: what a row reads is what it writes.
use Rattle.std.proofs.Common.{◌≡◌, ℕ, ◌+◌, ◌<◌, ◌≤◌, ◌⊎◌, Bool, true, false, cond, eqb, List, [], ◌∷◌, ◌++◌, length, Ok, Err, refl, sym, ap, subst, ◌∙◌, arith, inl, inr}
use Rattle.std.proofs.lemmas.Bool.{eqb-true, eqb-false, cases_eq}
use Rattle.site_types.specs.declared.step.StepKind.{StepKind}
use Rattle.site_types.specs.declared.step.StepKind.TheVariants.{Configured, Put, Accessed, Removed, Renamed, Attributed, CopyMade, Rearchive, Unarchived, Released, Wanted, Staged, StageFailed, Damaged, Recycling, Relabelled, Flagged}
use Rattle.step_codec.specs.declared.refusal.StepRefusal.{StepRefusal}
use Rattle.step_codec.specs.Forms.{Form, Begins, IsWithin, is_within}
use Rattle.step_codec.specs.Written.{Row, of_kind, row, kind_written, IsRowInRange}
use Rattle.step_codec.specs.Reading.{Reader, read_as, kinds, last_kind, read_by, kind_at}
use Rattle.step_codec.proofs.Laws.{IsBytes, Lawful, bind_ok, bind_err, ok_is, ok_or_err}
use Rattle.step_codec.proofs.KindLaws.{texts_lawful, put_lawful, inode_lawful, renamed_lawful, attributed_lawful, copy_made_lawful, file_copy_lawful, released_lawful, inodes_lawful, staged_lawful, damaged_lawful, index_lawful, relabelled_lawful, flagged_lawful}

-- the bytes begin with the fields of a step of the kind
pub record IsOfKind (number : ℕ) (bytes : List ℕ) (s : StepKind) (rest : List ℕ) : Type 0 where
  pub number_is : (row s).number ≡ number
  pub begins : Begins (row s).form bytes (row s).fields rest
  pub rest_fits : IsBytes rest

-- some step of the kind, whose form refuses the bytes
pub record KindRefuses (number : ℕ) (bytes : List ℕ) (e : StepRefusal) : Type 0 where
  pub step : StepKind
  pub number_is : (row step).number ≡ number
  pub refuses : (row step).form.Refuses bytes e

-- a row of the table of readers
pub record IsReader (number : ℕ) (read : Reader) : Type 0 where
  pub takes : (bytes : List ℕ) (s : StepKind) (rest : List ℕ) → IsBytes bytes → read bytes ≡ Ok (s, rest) → IsOfKind number bytes s rest
  pub fails : (bytes : List ℕ) (e : StepRefusal) → IsBytes bytes → read bytes ≡ Err e → KindRefuses number bytes e
  pub there : (s : StepKind) × ((row s).number ≡ number)

as_takes : {A : Type 0} (number : ℕ) (make : A → StepKind) (F : Form A) → Lawful F → ((x : A) → row (make x) ≡ of_kind number F x)
    → (bytes : List ℕ) (s : StepKind) (rest : List ℕ) → IsBytes bytes → read_as make F bytes ≡ Ok (s, rest) → IsOfKind number bytes s rest
as_takes number make F law is bytes s rest fits h =
    let a = bind_ok (F.read bytes) (λ x. Ok (make x.0, x.1)) (s, rest) h in
    let t = law.takes bytes a.0 fits a.1 in
    let given : StepKind × List ℕ = (make a.0.0, a.0.1) in
    let wanted : StepKind × List ℕ = (s, rest) in
    let here : IsOfKind number bytes (make a.0.0) a.0.1 = record {
      number_is = ap (λ (r : Row). r.number) (is a.0.0);
      begins = subst (λ (r : Row). Begins r.form bytes r.fields a.0.1) (sym (is a.0.0)) t.0;
      rest_fits = t.1;
    } in
    subst (λ (y : StepKind × List ℕ). IsOfKind number bytes y.0 y.1) (ok_is given wanted a.2) here

as_fails : {A : Type 0} (number : ℕ) (make : A → StepKind) (F : Form A) → Lawful F → ((x : A) → row (make x) ≡ of_kind number F x)
    → (bytes : List ℕ) (e : StepRefusal) → IsBytes bytes → read_as make F bytes ≡ Err e → KindRefuses number bytes e
as_fails number make F law is bytes e fits h =
    elim (bind_err (F.read bytes) (λ x. Ok (make x.0, x.1)) e h) [
      | inl a ↦ record {
        step = make law.some;
        number_is = ap (λ (r : Row). r.number) (is law.some);
        refuses = subst (λ (r : Row). r.form.Refuses bytes e) (sym (is law.some)) (law.fails bytes e fits a);
      }
      | inr a ↦ let given : StepKind × List ℕ = (make a.0.0, a.0.1) in ok_or_err given e a.2
    ]

reader : {A : Type 0} (number : ℕ) (make : A → StepKind) {F : Form A} → Lawful F → ((x : A) → row (make x) ≡ of_kind number F x) → IsReader number (read_as make F)
reader number make {F} law is = record {
  takes = as_takes number make F law is;
  fails = as_fails number make F law is;
  there = (make law.some, ap (λ (r : Row). r.number) (is law.some));
}

-- the rows are readers of their numbers, which are counted up
abbrev AreReaders : ℕ → List (ℕ × Reader) → Type 0
AreReaders first [] = Unit {0}
AreReaders first (k ∷ more) = (k.0 ≡ first) × IsReader k.0 k.1 × AreReaders (first + 1) more

pub record Readers (first : ℕ) (rows : List (ℕ × Reader)) : Type 0 where
  pub each : AreReaders first rows

no_more : {first : ℕ} → Readers first []
no_more = record { each = tt }

-- one row, and those behind it
infixr 5 ◌also◌
◌also◌ : {first : ℕ} {read : Reader} {more : List (ℕ × Reader)} → IsReader first read → Readers (first + 1) more → Readers first ((first, read) ∷ more)
here also behind = record { each = (refl, here, behind.each) }

-- which way a test went
chosen : {X : Type 0} (b : Bool) (x y z : X) → cond b x y ≡ z → ((b ≡ true) × (x ≡ z)) ⊎ ((b ≡ false) × (y ≡ z))
chosen true x y z e = inl (refl, e)
chosen false x y z e = inr (refl, e)

by_takes : (first : ℕ) (rows : List (ℕ × Reader)) → AreReaders first rows → (number : ℕ) (bytes : List ℕ) (s : StepKind) (rest : List ℕ) → IsBytes bytes → read_by rows number bytes ≡ Ok (s, rest) → IsOfKind number bytes s rest
by_takes first [] h number bytes s rest fits e = absurd cc
by_takes first (k ∷ more) h number bytes s rest fits e =
    elim (chosen (eqb number k.0) (k.1 bytes) (read_by more number bytes) (Ok (s, rest)) e) [
      | inl a ↦ subst (λ (n : ℕ). IsOfKind n bytes s rest) (sym (eqb-true number k.0 a.0)) (h.1.takes bytes s rest fits a.1)
      | inr a ↦ by_takes (first + 1) more h.2 number bytes s rest fits a.1
    ]

by_fails : (first : ℕ) (rows : List (ℕ × Reader)) → AreReaders first rows → (number : ℕ) (bytes : List ℕ) (e : StepRefusal) → IsBytes bytes → first ≤ number → number < first + length rows → read_by rows number bytes ≡ Err e → KindRefuses number bytes e
by_fails first [] h number bytes e fits least most is = absurd (omega arith)
by_fails first (k ∷ more) h number bytes e fits least most is =
    elim (chosen (eqb number k.0) (k.1 bytes) (read_by more number bytes) (Err e) is) [
      | inl a ↦ subst (λ (n : ℕ). KindRefuses n bytes e) (sym (eqb-true number k.0 a.0)) (h.1.fails bytes e fits a.1)
      | inr a ↦ by_fails (first + 1) more h.2 number bytes e fits (omega (arith, h.0, eqb-false number k.0 a.0)) (omega arith) a.1
    ]

by_there : (first : ℕ) (rows : List (ℕ × Reader)) → AreReaders first rows → (number : ℕ) → first ≤ number → number < first + length rows → (s : StepKind) × ((row s).number ≡ number)
by_there first [] h number least most = absurd (omega arith)
by_there first (k ∷ more) h number least most =
    elim (cases_eq number k.0) [
      | inl same ↦ (h.1.there.0, h.1.there.1 ∙ sym same)
      | inr other ↦ by_there (first + 1) more h.2 number (omega (arith, h.0, other)) (omega arith)
    ]

-- a kind is read where its row says, by the form of its row
abbrev IsRow : StepKind → Type 0
IsRow s =
    (make : (row s).Fields → StepKind) × (make (row s).fields ≡ s) × Lawful (row s).form
    × ((bytes : List ℕ) → kind_at (row s).number bytes ≡ read_as make (row s).form bytes)
    × (is_within 1 last_kind (row s).number ≡ true)

-- ---- one line for each kind in each of these

all_readers : Readers 1 kinds
unfolding kinds
all_readers =
    reader 1 Configured texts_lawful (λ x. refl)
    also reader 2 Put put_lawful (λ x. refl)
    also reader 3 Accessed inode_lawful (λ x. refl)
    also reader 4 Removed inode_lawful (λ x. refl)
    also reader 5 Renamed renamed_lawful (λ x. refl)
    also reader 6 Attributed attributed_lawful (λ x. refl)
    also reader 7 CopyMade copy_made_lawful (λ x. refl)
    also reader 8 Rearchive file_copy_lawful (λ x. refl)
    also reader 9 Unarchived file_copy_lawful (λ x. refl)
    also reader 10 Released released_lawful (λ x. refl)
    also reader 11 Wanted inodes_lawful (λ x. refl)
    also reader 12 Staged staged_lawful (λ x. refl)
    also reader 13 StageFailed inode_lawful (λ x. refl)
    also reader 14 Damaged damaged_lawful (λ x. refl)
    also reader 15 Recycling index_lawful (λ x. refl)
    also reader 16 Relabelled relabelled_lawful (λ x. refl)
    also reader 17 Flagged flagged_lawful (λ x. refl)
    also no_more

is_row : (s : StepKind) → IsRow s
unfolding kinds
is_row (Configured t) = (Configured, refl, texts_lawful, λ b. refl, refl)
is_row (Put p) = (Put, refl, put_lawful, λ b. refl, refl)
is_row (Accessed i) = (Accessed, refl, inode_lawful, λ b. refl, refl)
is_row (Removed i) = (Removed, refl, inode_lawful, λ b. refl, refl)
is_row (Renamed r) = (Renamed, refl, renamed_lawful, λ b. refl, refl)
is_row (Attributed a) = (Attributed, refl, attributed_lawful, λ b. refl, refl)
is_row (CopyMade m) = (CopyMade, refl, copy_made_lawful, λ b. refl, refl)
is_row (Rearchive c) = (Rearchive, refl, file_copy_lawful, λ b. refl, refl)
is_row (Unarchived c) = (Unarchived, refl, file_copy_lawful, λ b. refl, refl)
is_row (Released r) = (Released, refl, released_lawful, λ b. refl, refl)
is_row (Wanted is) = (Wanted, refl, inodes_lawful, λ b. refl, refl)
is_row (Staged s) = (Staged, refl, staged_lawful, λ b. refl, refl)
is_row (StageFailed i) = (StageFailed, refl, inode_lawful, λ b. refl, refl)
is_row (Damaged d) = (Damaged, refl, damaged_lawful, λ b. refl, refl)
is_row (Recycling v) = (Recycling, refl, index_lawful, λ b. refl, refl)
is_row (Relabelled r) = (Relabelled, refl, relabelled_lawful, λ b. refl, refl)
is_row (Flagged f) = (Flagged, refl, flagged_lawful, λ b. refl, refl)

-- ----

so_many : last_kind < 1 + length kinds
so_many = omega arith

pub kind_takes : (number : ℕ) (bytes : List ℕ) (s : StepKind) (rest : List ℕ) → IsBytes bytes → kind_at number bytes ≡ Ok (s, rest) → IsOfKind number bytes s rest
kind_takes number bytes s rest fits h = by_takes 1 kinds all_readers.each number bytes s rest fits h

pub kind_fails : (number : ℕ) (bytes : List ℕ) (e : StepRefusal) → IsBytes bytes → IsWithin 1 last_kind number → kind_at number bytes ≡ Err e → KindRefuses number bytes e
kind_fails number bytes e fits within h = by_fails 1 kinds all_readers.each number bytes e fits within.0 (omega (arith, within.1, so_many)) h

pub kind_there : (number : ℕ) → IsWithin 1 last_kind number → (s : StepKind) × ((row s).number ≡ number)
kind_there number within = by_there 1 kinds all_readers.each number within.0 (omega (arith, within.1, so_many))

pub kind_again : (s : StepKind) (rest : List ℕ) → IsRowInRange (row s) → kind_at (row s).number (kind_written (row s) ++ rest) ≡ Ok (s, rest)
kind_again s rest h = let r = is_row s in r.3 (kind_written (row s) ++ rest) ∙ rw (r.2.again (row s).fields rest h, r.1) refl

pub kind_refuses : (s : StepKind) (bytes : List ℕ) (e : StepRefusal) → (row s).form.Refuses bytes e → kind_at (row s).number bytes ≡ Err e
kind_refuses s bytes e h = let r = is_row s in r.3 bytes ∙ rw (r.2.refuses bytes e h) refl

pub kind_within : (s : StepKind) → is_within 1 last_kind (row s).number ≡ true
kind_within s = (is_row s).4
