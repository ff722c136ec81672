-- The ranges of the forms are the ranges kind by kind.
use Rattle.std.proofs.Common.{ℕ, ◌-◌, ◌^◌, ◌<◌, List, [], ◌∷◌, length, arith}
use Rattle.std.specs.List.{AllByRecursion}
use Rattle.site_types.specs.declared.file.Run.{Run}
use Rattle.site_types.specs.declared.file.Section.{Section}
use Rattle.site_types.specs.declared.step.Member.{Member}
use Rattle.site_types.specs.declared.step.VolumeEnd.{VolumeEnd}
use Rattle.site_types.specs.declared.step.Step.{Step}
use Rattle.site_types.specs.declared.step.StepKind.{StepKind}
use Rattle.site_types.specs.declared.step.StepKind.TheVariants.{Configured, Put, Accessed, Removed, Renamed, Attributed, CopyMade, Rearchive, Unarchived, Released, Wanted, Staged, StageFailed, Damaged, Recycling, Relabelled, Flagged}
use Rattle.step_codec.specs.Forms.{IsWithin}
use Rattle.site_types.specs.Ranges.{IsMoment, IsRun, IsSection, IsMember, IsEnd, IsListOf, Ranges}
use Rattle.step_codec.specs.Written.{row, IsRowInRange, InRange, run, runs, section, member, volume_end, ends, texts, put, renamed, attributed, copy_made, file_copy, released, staged, damaged, relabelled, flagged}

all_then : {X : Type 0} (P Q : X → Type 0) → ((x : X) → P x → Q x) → (xs : List X) → AllByRecursion P xs → AllByRecursion Q xs
all_then P Q f [] h = tt
all_then P Q f (x ∷ xs) h = (f x h.0, all_then P Q f xs h.1)

-- a number below a bound is one from 0 to the bound less 1
is32 : (n : ℕ) → n < 2 ^ 32 → IsWithin 0 (2 ^ 32 - 1) n
is32 n lt = (omega arith, omega arith)

is64 : (n : ℕ) → n < 2 ^ 64 → IsWithin 0 (2 ^ 64 - 1) n
is64 n lt = (omega arith, omega arith)

of32 : (n : ℕ) → IsWithin 0 (2 ^ 32 - 1) n → n < 2 ^ 32
of32 n h = omega (arith, h.1)

of64 : (n : ℕ) → IsWithin 0 (2 ^ 64 - 1) n → n < 2 ^ 64
of64 n h = omega (arith, h.1)

is_runs : (xs : List Run) → IsListOf IsRun xs → runs.InRange xs
is_runs xs h = (is32 (length xs) h.0, all_then IsRun run.InRange (λ r k. (is32 r.first k.0, is32 r.count k.1)) xs h.1)

of_runs : (xs : List Run) → runs.InRange xs → IsListOf IsRun xs
of_runs xs h = (of32 (length xs) h.0, all_then run.InRange IsRun (λ r k. (of32 r.first k.0, of32 r.count k.1)) xs h.1)

is_section : (s : Section) → IsSection s → section.InRange s
is_section s h = (is32 s.volume h.0, (is64 s.label h.1, (is64 s.place h.2, is64 s.length h.3)))

of_section : (s : Section) → section.InRange s → IsSection s
of_section s h = (of32 s.volume h.0, of64 s.label h.1.0, of64 s.place h.1.1.0, of64 s.length h.1.1.1)

is_member : (m : Member) → IsMember m → member.InRange m
is_member m h = (h.0, (is64 m.generation h.1, ((h.2, h.3), all_then IsSection section.InRange is_section m.sections h.4)))

of_member : (m : Member) → member.InRange m → IsMember m
of_member m h = (h.0, of64 m.generation h.1.0, h.1.1.0.0, h.1.1.0.1, all_then section.InRange IsSection of_section m.sections h.1.1.1)

is_ends : (xs : List VolumeEnd) → IsListOf IsEnd xs → ends.InRange xs
is_ends xs h = (is32 (length xs) h.0, all_then IsEnd volume_end.InRange (λ e k. (is32 e.volume k.0, is64 e.used k.1)) xs h.1)

of_ends : (xs : List VolumeEnd) → ends.InRange xs → IsListOf IsEnd xs
of_ends xs h = (of32 (length xs) h.0, all_then volume_end.InRange IsEnd (λ e k. (of32 e.volume k.0, of64 e.used k.1)) xs h.1)

is_kind : (s : StepKind) → Ranges s → IsRowInRange (row s)
unfolding texts put renamed attributed copy_made file_copy released staged damaged relabelled flagged
is_kind (Configured t) h = (h.0, (h.1, (h.2, (h.3, h.4))))
is_kind (Put p) h = (h.0, (h.1, (h.2, (h.3, (is64 p.length h.4, is_runs p.runs h.5)))))
is_kind (Accessed i) h = h
is_kind (Removed i) h = h
is_kind (Renamed r) h = h
is_kind (Attributed a) h = (h.0, (tt, (is64 a.partial h.1, tt)))
is_kind (CopyMade m) h = (is32 m.set h.0, (h.1, (h.2, (((omega arith, h.3), all_then IsMember member.InRange is_member m.members h.4), is_ends m.ends h.5))))
is_kind (Rearchive c) h = h
is_kind (Unarchived c) h = h
is_kind (Released r) h = (h.0, is64 r.cached h.1)
is_kind (Wanted is) h = (is32 (length is) h.0, h.1)
is_kind (Staged s) h = (h.0, (h.1, is_runs s.runs h.2))
is_kind (StageFailed i) h = h
is_kind (Damaged d) h = (h.0, (h.1, tt))
is_kind (Recycling v) h = is32 v h
is_kind (Relabelled r) h = (is32 r.volume h.0, is64 r.label h.1)
is_kind (Flagged f) h = (is32 f.volume h, (tt, tt))

of_kind : (s : StepKind) → IsRowInRange (row s) → Ranges s
unfolding texts put renamed attributed copy_made file_copy released staged damaged relabelled flagged
of_kind (Configured t) h = (h.0, h.1.0, h.1.1.0, h.1.1.1.0, h.1.1.1.1)
of_kind (Put p) h = (h.0, h.1.0, h.1.1.0, h.1.1.1.0, of64 p.length h.1.1.1.1.0, of_runs p.runs h.1.1.1.1.1)
of_kind (Accessed i) h = h
of_kind (Removed i) h = h
of_kind (Renamed r) h = h
of_kind (Attributed a) h = (h.0, of64 a.partial h.1.1.0)
of_kind (CopyMade m) h = (of32 m.set h.0, h.1.0, h.1.1.0, h.1.1.1.0.0.1, all_then member.InRange IsMember of_member m.members h.1.1.1.0.1, of_ends m.ends h.1.1.1.1)
of_kind (Rearchive c) h = h
of_kind (Unarchived c) h = h
of_kind (Released r) h = (h.0, of64 r.cached h.1)
of_kind (Wanted is) h = (of32 (length is) h.0, h.1)
of_kind (Staged s) h = (h.0, h.1.0, of_runs s.runs h.1.1)
of_kind (StageFailed i) h = h
of_kind (Damaged d) h = (h.0, h.1.0)
of_kind (Recycling v) h = of32 v h
of_kind (Relabelled r) h = (of32 r.volume h.0, of64 r.label h.1)
of_kind (Flagged f) h = of32 f.volume h.0

-- a step is in range where its moment and the fields of its kind are
pub in_range : (s : Step) → IsMoment s.moment → Ranges s.kind → InRange s
unfolding InRange
in_range s m h = ((omega arith, omega arith), is_kind s.kind h)

pub ranges : (s : Step) → InRange s → IsMoment s.moment × Ranges s.kind
unfolding InRange
ranges s h = (omega (arith, h.0.1), of_kind s.kind h.1)
