-- How long the written form of a step is.
use Rattle.std.proofs.Common.{◌≡◌, ℕ, suc, ◌-◌, ◌^◌, ◌+◌, ◌*◌, ◌<◌, ◌≤◌, List, [], ◌∷◌, ◌++◌, length, refl, sym, ap, ◌∙◌, add_comm, arith}
use Rattle.std.specs.List.{flat_map, sum_by, AllByRecursion}
use Rattle.std.specs.Int.{w32, w64}
use Rattle.std.proofs.lemmas.List.{length-append}
use Rattle.std.proofs.lemmas.List.Sums.{sum_by-cons}
use Rattle.std.proofs.Math.Nat.{mul-suc}
use Rattle.site_types.specs.declared.step.Member.{Member}
use Rattle.site_types.specs.declared.step.Step.{Step}
use Rattle.site_types.specs.declared.step.StepKind.{StepKind}
use Rattle.site_types.specs.declared.step.StepKind.TheVariants.{Configured, Put, Accessed, Removed, Renamed, Attributed, CopyMade, Rearchive, Unarchived, Released, Wanted, Staged, StageFailed, Damaged, Recycling, Relabelled, Flagged}
use Rattle.step_codec.specs.Forms.{Form, number_bytes, number_of, choice_of, text, ◌&◌, made, list_of}
use Rattle.step_codec.specs.Lengths.{text_length, items_length, member_length, fields_length, step_length, IsWithinLimits}
use Rattle.step_codec.specs.Written.{row, number, moment, inode, copy, index, release_code, release_of, release_kind, stage_code, stage_of, stage_kind, flag_code, flag_of, flag, truth_code, truth_of, truth, run_of, runs, section_of, section, member_of, member, members, end_of, ends, inodes, kind_written, written, texts_of, texts_parts, texts, put_of, put_parts, put, renamed_of, renamed_parts, renamed, attributed_of, attributed_parts, attributed, copy_made_of, copy_made_parts, copy_made, file_copy_of, file_copy_parts, file_copy, released_of, released_parts, released, staged_of, staged_parts, staged, damaged_of, damaged_parts, damaged, relabelled_of, relabelled_parts, relabelled, flagged_of, flagged_parts, flagged}

-- the length of each value's written form
record Takes {A : Type 0} (F : Form A) (size : A → ℕ) : Type 0 where
  bytes : (x : A) → length (F.written x) ≡ size x

length_8 : (n : ℕ) → length (number_bytes w64 n) ≡ 8
unfolding number_bytes
length_8 n = refl

length_4 : (n : ℕ) → length (number_bytes w32 n) ≡ 4
unfolding number_bytes
length_4 n = refl

eight : (least most : ℕ) → Takes (number_of w64 least most) (λ n. 8)
eight least most = record { bytes = length_8 }

four : (least most : ℕ) → Takes (number_of w32 least most) (λ n. 4)
four least most = record { bytes = length_4 }

one : {A : Type 0} (n : ℕ) (code : A → ℕ) (of : ℕ → A) → Takes (choice_of n code of) (λ x. 1)
one n code of = record { bytes = λ x. refl }

joined : (a b : List ℕ) (m n : ℕ) → length a ≡ m → length b ≡ n → length (a ++ b) ≡ m + n
joined a b m n p q = omega (arith, p, q, length-append a b)

infixr 7 ◌then◌
◌then◌ : {A B : Type 0} {F : Form A} {G : Form B} {a : A → ℕ} {b : B → ℕ} → Takes F a → Takes G b → Takes (F & G) (λ x. a x.0 + b x.1)
◌then◌ {F = F} {G = G} {a = a} {b = b} f g = record { bytes = λ x. joined (F.written x.0) (G.written x.1) (a x.0) (b x.1) (f.bytes x.0) (g.bytes x.1) }

made_takes : {A B : Type 0} (of : A → B) (parts : B → A) {F : Form A} {size : A → ℕ} → Takes F size → Takes (made of parts F) (λ y. size (parts y))
made_takes of parts f = record { bytes = λ y. f.bytes (parts y) }

text_takes : Takes text text_length
text_takes = record { bytes = λ bytes. joined (number_bytes w32 (length bytes)) bytes 4 (length bytes) (length_4 (length bytes)) refl }

every : {X : Type 0} (f : X → List ℕ) (size : X → ℕ) → ((x : X) → length (f x) ≡ size x) → (xs : List X) → length (flat_map f xs) ≡ sum_by size xs
every f size is [] = refl
every f size is (x ∷ xs) = joined (f x) (flat_map f xs) (size x) (sum_by size xs) (is x) (every f size is xs) ∙ sym (sum_by-cons size x xs)

list_takes : {A : Type 0} (least most : ℕ) {F : Form A} {size : A → ℕ} → Takes F size → Takes (list_of least most F) (λ xs. 4 + sum_by size xs)
list_takes least most {F} {size} f = record { bytes = λ xs. joined (number_bytes w32 (length xs)) (flat_map F.written xs) 4 (sum_by size xs) (length_4 (length xs)) (every F.written size f.bytes xs) }

-- items of one length
sum_of_one : {A : Type 0} (n : ℕ) (xs : List A) → sum_by (λ (x : A). n) xs ≡ n * length xs
sum_of_one n [] = omega arith
sum_of_one {A} n (x ∷ xs) = sum_by-cons (λ (x : A). n) x xs ∙ ap (λ (k : ℕ). n + k) (sum_of_one n xs) ∙ add_comm n (n * length xs) ∙ sym (mul-suc n (length xs))

even_takes : {A : Type 0} (least most n : ℕ) {F : Form A} → Takes F (λ x. n) → Takes (list_of least most F) (items_length n)
even_takes least most n {F} f = record { bytes = λ xs. (list_takes least most f).bytes xs ∙ ap (λ (k : ℕ). 4 + k) (sum_of_one n xs) }

runs_take : Takes runs (items_length 8)
runs_take = even_takes 0 (2 ^ 32 - 1) 8 (made_takes run_of (λ r. (r.first, r.count)) (four 0 (2 ^ 32 - 1) then four 0 (2 ^ 32 - 1)))

index_takes : Takes index (λ n. 8)
index_takes = eight 0 (2 ^ 32 - 1)

number_takes : Takes number (λ n. 8)
number_takes = eight 0 (2 ^ 64 - 1)

inode_takes : Takes inode (λ n. 8)
inode_takes = eight 1 4294967294

copy_takes : Takes copy (λ n. 8)
copy_takes = eight 1 4

section_takes : Takes section (λ s. 32)
section_takes = made_takes section_of (λ s. (s.volume, (s.label, (s.place, s.length)))) (index_takes then number_takes then number_takes then number_takes)

member_takes : Takes member member_length
member_takes = record { bytes = λ m. (made_takes member_of (λ m. (m.inode, (m.generation, m.sections))) (inode_takes then number_takes then even_takes 1 8 32 section_takes)).bytes m ∙ omega arith }

members_take : Takes members (λ ms. 4 + sum_by member_length ms)
members_take = list_takes 0 512 member_takes

ends_take : Takes ends (items_length 16)
ends_take = even_takes 0 (2 ^ 32 - 1) 16 (made_takes end_of (λ e. (e.volume, e.used)) (index_takes then number_takes))

inodes_take : Takes inodes (items_length 8)
inodes_take = even_takes 0 (2 ^ 32 - 1) 8 inode_takes

release_takes : Takes release_kind (λ x. 1)
release_takes = one 4 release_code release_of

stage_takes : Takes stage_kind (λ x. 1)
stage_takes = one 3 stage_code stage_of

flag_takes : Takes flag (λ x. 1)
flag_takes = one 2 flag_code flag_of

truth_takes : Takes truth (λ x. 1)
truth_takes = one 2 truth_code truth_of

fields_are : (s : StepKind) → length (kind_written (row s)) ≡ fields_length s
unfolding texts put renamed attributed copy_made file_copy released staged damaged relabelled flagged
fields_are (Configured t) = (made_takes texts_of texts_parts (text_takes then text_takes then text_takes then text_takes then text_takes)).bytes t
fields_are (Put p) = (made_takes put_of put_parts (inode_takes then text_takes then text_takes then text_takes then number_takes then runs_take)).bytes p ∙ omega arith
fields_are (Accessed i) = length_8 i
fields_are (Removed i) = length_8 i
fields_are (Renamed r) = (made_takes renamed_of renamed_parts (inode_takes then text_takes)).bytes r
fields_are (Attributed a) = (made_takes attributed_of attributed_parts (inode_takes then release_takes then number_takes then stage_takes)).bytes a
fields_are (CopyMade m) = (made_takes copy_made_of copy_made_parts (index_takes then copy_takes then text_takes then members_take then ends_take)).bytes m ∙ omega arith
fields_are (Rearchive c) = (made_takes file_copy_of file_copy_parts (inode_takes then copy_takes)).bytes c
fields_are (Unarchived c) = (made_takes file_copy_of file_copy_parts (inode_takes then copy_takes)).bytes c
fields_are (Released r) = (made_takes released_of released_parts (inode_takes then number_takes)).bytes r
fields_are (Wanted is) = inodes_take.bytes is
fields_are (Staged s) = (made_takes staged_of staged_parts (inode_takes then copy_takes then runs_take)).bytes s ∙ omega arith
fields_are (StageFailed i) = length_8 i
fields_are (Damaged d) = (made_takes damaged_of damaged_parts (inode_takes then copy_takes then truth_takes)).bytes d
fields_are (Recycling v) = length_8 v
fields_are (Relabelled r) = (made_takes relabelled_of relabelled_parts (index_takes then number_takes)).bytes r
fields_are (Flagged f) = (made_takes flagged_of flagged_parts (index_takes then flag_takes then truth_takes)).bytes f

pub length-written : (s : Step) → length (written s) ≡ step_length s
unfolding written
length-written s = ap suc (joined (moment.written s.moment) (kind_written (row s.kind)) 8 (fields_length s.kind) (length_8 s.moment) (fields_are s.kind)) ∙ omega arith

-- no written form is empty
pub written_some : (s : Step) → 0 < length (written s)
written_some s = omega (arith, length-written s)

member_lengths : (ms : List Member) → AllByRecursion (λ m. length m.sections ≤ 8) ms → sum_by member_length ms ≤ 276 * length ms
member_lengths [] h = omega arith
member_lengths (m ∷ ms) h = omega (arith, sum_by-cons member_length m ms, h.0, member_lengths ms h.1)

fields_short : (s : StepKind) → IsWithinLimits s → fields_length s ≤ 1000000
fields_short (Configured t) h = omega arith
fields_short (Put p) h = omega arith
fields_short (Accessed i) h = omega arith
fields_short (Removed i) h = omega arith
fields_short (Renamed r) h = omega arith
fields_short (Attributed a) h = omega arith
fields_short (CopyMade m) h = omega (arith, h.0, h.1, h.3, member_lengths m.members h.2)
fields_short (Rearchive c) h = omega arith
fields_short (Unarchived c) h = omega arith
fields_short (Released r) h = omega arith
fields_short (Wanted is) h = omega arith
fields_short (Staged s) h = omega arith
fields_short (StageFailed i) h = omega arith
fields_short (Damaged d) h = omega arith
fields_short (Recycling v) h = omega arith
fields_short (Relabelled r) h = omega arith
fields_short (Flagged f) h = omega arith

-- within the limits of a site a written form has 1 to 1,048,576 bytes
pub written_short : (s : Step) → IsWithinLimits s.kind → length (written s) ≤ 1048576
written_short s h = omega (arith, length-written s, fields_short s.kind h)
