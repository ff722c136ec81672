-- The one written form of each step, and the ranges of its fields.
use Rattle.std.specs.Prelude.{◌≡◌, ℕ, zero, suc, ◌-◌, ◌^◌, Bool, true, false, List, [], ◌∷◌, ◌++◌}
use Rattle.std.specs.Int.{w32, w64}
use Rattle.base.specs.declared.limits.TheConstants.{END_OF_TIME, INODE_MAX, MEMBER_COUNT_MAX, SECTION_COUNT_MAX}
use Rattle.site_types.specs.declared.file.Run.{Run}
use Rattle.site_types.specs.declared.file.Section.{Section}
use Rattle.site_types.specs.declared.file.SiteTexts.{SiteTexts}
use Rattle.site_types.specs.declared.file.ReleaseKind.{ReleaseKind}
use Rattle.site_types.specs.declared.file.ReleaseKind.TheVariants as release
use Rattle.site_types.specs.declared.file.StageKind.{StageKind}
use Rattle.site_types.specs.declared.file.StageKind.TheVariants as stage
use Rattle.site_types.specs.declared.file.Flag.{Flag}
use Rattle.site_types.specs.declared.file.Flag.TheVariants as flags
use Rattle.site_types.specs.declared.step.AttributedStep.{AttributedStep}
use Rattle.site_types.specs.declared.step.CopyMadeStep.{CopyMadeStep}
use Rattle.site_types.specs.declared.step.DamagedStep.{DamagedStep}
use Rattle.site_types.specs.declared.step.FileCopy.{FileCopy}
use Rattle.site_types.specs.declared.step.FlaggedStep.{FlaggedStep}
use Rattle.site_types.specs.declared.step.Member.{Member}
use Rattle.site_types.specs.declared.step.PutStep.{PutStep}
use Rattle.site_types.specs.declared.step.ReleasedStep.{ReleasedStep}
use Rattle.site_types.specs.declared.step.RelabelledStep.{RelabelledStep}
use Rattle.site_types.specs.declared.step.RenamedStep.{RenamedStep}
use Rattle.site_types.specs.declared.step.StagedStep.{StagedStep}
use Rattle.site_types.specs.declared.step.VolumeEnd.{VolumeEnd}
use Rattle.site_types.specs.declared.step.Step.{Step}
use Rattle.site_types.specs.declared.step.StepKind.{StepKind}
use Rattle.site_types.specs.declared.step.StepKind.TheVariants.{Configured, Put, Accessed, Removed, Renamed, Attributed, CopyMade, Rearchive, Unarchived, Released, Wanted, Staged, StageFailed, Damaged, Recycling, Relabelled, Flagged}
use Rattle.step_codec.specs.declared.refusal.StepRefusal.{StepRefusal}
use Rattle.step_codec.specs.declared.refusal.StepRefusal.TheVariants.{Truncated, BadKind, BadField}
use Rattle.step_codec.specs.Forms.{Form, number_of, choice_of, text, ◌&◌, made, list_of}

-- Numbers are eight bytes.

abbrev pub number : Form ℕ
number = number_of w64 0 (2 ^ 64 - 1)

abbrev pub moment : Form ℕ
moment = number_of w64 0 (END_OF_TIME - 1)

abbrev pub inode : Form ℕ
inode = number_of w64 1 INODE_MAX

abbrev pub copy : Form ℕ
copy = number_of w64 1 4

-- the number of a set or of a volume
abbrev pub index : Form ℕ
index = number_of w64 0 (2 ^ 32 - 1)

-- One byte each have the kinds of release and stage, the flags and the truth values.

abbrev pub release_code : ReleaseKind → ℕ
release_code release.Default = 0
release_code release.Never = 1
release_code release.AtOnce = 2
release_code release.Partial = 3

abbrev pub release_of : ℕ → ReleaseKind
release_of zero = release.Default
release_of (suc zero) = release.Never
release_of (suc (suc zero)) = release.AtOnce
release_of (suc (suc (suc n))) = release.Partial

abbrev pub release_kind : Form ReleaseKind
release_kind = choice_of 4 release_code release_of

abbrev pub stage_code : StageKind → ℕ
stage_code stage.Default = 0
stage_code stage.Never = 1
stage_code stage.Associative = 2

abbrev pub stage_of : ℕ → StageKind
stage_of zero = stage.Default
stage_of (suc zero) = stage.Never
stage_of (suc (suc n)) = stage.Associative

abbrev pub stage_kind : Form StageKind
stage_kind = choice_of 3 stage_code stage_of

abbrev pub flag_code : Flag → ℕ
flag_code flags.Readonly = 0
flag_code flags.Unavailable = 1

abbrev pub flag_of : ℕ → Flag
flag_of zero = flags.Readonly
flag_of (suc n) = flags.Unavailable

abbrev pub flag : Form Flag
flag = choice_of 2 flag_code flag_of

abbrev pub truth_code : Bool → ℕ
truth_code false = 0
truth_code true = 1

abbrev pub truth_of : ℕ → Bool
truth_of zero = false
truth_of (suc n) = true

abbrev pub truth : Form Bool
truth = choice_of 2 truth_code truth_of

-- A run is two numbers of four bytes.

abbrev pub block : Form ℕ
block = number_of w32 0 (2 ^ 32 - 1)

abbrev pub run_of : ℕ × ℕ → Run
run_of (first, count) = record { first = first; count = count }

abbrev pub run : Form Run
run = made run_of (λ r. (r.first, r.count)) (block & block)

abbrev pub runs : Form (List Run)
runs = list_of 0 (2 ^ 32 - 1) run

abbrev pub section_of : ℕ × (ℕ × (ℕ × ℕ)) → Section
section_of (volume, (label, (place, length))) = record { volume = volume; label = label; place = place; length = length }

abbrev pub section : Form Section
section = made section_of (λ s. (s.volume, (s.label, (s.place, s.length)))) (index & number & number & number)

abbrev pub sections : Form (List Section)
sections = list_of 1 SECTION_COUNT_MAX section

abbrev pub member_of : ℕ × (ℕ × List Section) → Member
member_of (i, (generation, places)) = record { inode = i; generation = generation; sections = places }

abbrev pub member : Form Member
member = made member_of (λ m. (m.inode, (m.generation, m.sections))) (inode & number & sections)

abbrev pub members : Form (List Member)
members = list_of 0 MEMBER_COUNT_MAX member

abbrev pub end_of : ℕ × ℕ → VolumeEnd
end_of (volume, used) = record { volume = volume; used = used }

abbrev pub volume_end : Form VolumeEnd
volume_end = made end_of (λ e. (e.volume, e.used)) (index & number)

abbrev pub ends : Form (List VolumeEnd)
ends = list_of 0 (2 ^ 32 - 1) volume_end

abbrev pub inodes : Form (List ℕ)
inodes = list_of 0 (2 ^ 32 - 1) inode

-- The fields of each kind, in order, after the kind's byte and the moment.

abbrev pub texts_of : List ℕ × (List ℕ × (List ℕ × (List ℕ × List ℕ))) → SiteTexts
texts_of (site, (archiver, (stager, (releaser, recycler)))) = record { site = site; archiver = archiver; stager = stager; releaser = releaser; recycler = recycler }

abbrev pub texts_parts : SiteTexts → List ℕ × (List ℕ × (List ℕ × (List ℕ × List ℕ)))
texts_parts t = (t.site, (t.archiver, (t.stager, (t.releaser, t.recycler))))

unfoldable pub texts : Form SiteTexts
texts = made texts_of texts_parts (text & text & text & text & text)

abbrev pub put_of : ℕ × (List ℕ × (List ℕ × (List ℕ × (ℕ × List Run)))) → PutStep
put_of (inode, (path, (owner, (group, (length, runs))))) = record { inode = inode; path = path; owner = owner; group = group; length = length; runs = runs }

abbrev pub put_parts : PutStep → ℕ × (List ℕ × (List ℕ × (List ℕ × (ℕ × List Run))))
put_parts p = (p.inode, (p.path, (p.owner, (p.group, (p.length, p.runs)))))

unfoldable pub put : Form PutStep
put = made put_of put_parts (inode & text & text & text & number & runs)

abbrev pub renamed_of : ℕ × List ℕ → RenamedStep
renamed_of (inode, path) = record { inode = inode; path = path }

abbrev pub renamed_parts : RenamedStep → ℕ × List ℕ
renamed_parts r = (r.inode, r.path)

unfoldable pub renamed : Form RenamedStep
renamed = made renamed_of renamed_parts (inode & text)

abbrev pub attributed_of : ℕ × (ReleaseKind × (ℕ × StageKind)) → AttributedStep
attributed_of (inode, (release, (partial, stage))) = record { inode = inode; release = release; partial = partial; stage = stage }

abbrev pub attributed_parts : AttributedStep → ℕ × (ReleaseKind × (ℕ × StageKind))
attributed_parts a = (a.inode, (a.release, (a.partial, a.stage)))

unfoldable pub attributed : Form AttributedStep
attributed = made attributed_of attributed_parts (inode & release_kind & number & stage_kind)

abbrev pub copy_made_of : ℕ × (ℕ × (List ℕ × (List Member × List VolumeEnd))) → CopyMadeStep
copy_made_of (set, (copy, (key, (members, ends)))) = record { set = set; copy = copy; key = key; members = members; ends = ends }

abbrev pub copy_made_parts : CopyMadeStep → ℕ × (ℕ × (List ℕ × (List Member × List VolumeEnd)))
copy_made_parts m = (m.set, (m.copy, (m.key, (m.members, m.ends))))

unfoldable pub copy_made : Form CopyMadeStep
copy_made = made copy_made_of copy_made_parts (index & copy & text & members & ends)

abbrev pub file_copy_of : ℕ × ℕ → FileCopy
file_copy_of (inode, copy) = record { inode = inode; copy = copy }

abbrev pub file_copy_parts : FileCopy → ℕ × ℕ
file_copy_parts c = (c.inode, c.copy)

unfoldable pub file_copy : Form FileCopy
file_copy = made file_copy_of file_copy_parts (inode & copy)

abbrev pub released_of : ℕ × ℕ → ReleasedStep
released_of (inode, cached) = record { inode = inode; cached = cached }

abbrev pub released_parts : ReleasedStep → ℕ × ℕ
released_parts r = (r.inode, r.cached)

unfoldable pub released : Form ReleasedStep
released = made released_of released_parts (inode & number)

abbrev pub staged_of : ℕ × (ℕ × List Run) → StagedStep
staged_of (inode, (copy, runs)) = record { inode = inode; copy = copy; runs = runs }

abbrev pub staged_parts : StagedStep → ℕ × (ℕ × List Run)
staged_parts s = (s.inode, (s.copy, s.runs))

unfoldable pub staged : Form StagedStep
staged = made staged_of staged_parts (inode & copy & runs)

abbrev pub damaged_of : ℕ × (ℕ × Bool) → DamagedStep
damaged_of (inode, (copy, on)) = record { inode = inode; copy = copy; on = on }

abbrev pub damaged_parts : DamagedStep → ℕ × (ℕ × Bool)
damaged_parts d = (d.inode, (d.copy, d.on))

unfoldable pub damaged : Form DamagedStep
damaged = made damaged_of damaged_parts (inode & copy & truth)

abbrev pub relabelled_of : ℕ × ℕ → RelabelledStep
relabelled_of (volume, label) = record { volume = volume; label = label }

abbrev pub relabelled_parts : RelabelledStep → ℕ × ℕ
relabelled_parts r = (r.volume, r.label)

unfoldable pub relabelled : Form RelabelledStep
relabelled = made relabelled_of relabelled_parts (index & number)

abbrev pub flagged_of : ℕ × (Flag × Bool) → FlaggedStep
flagged_of (volume, (flag, on)) = record { volume = volume; flag = flag; on = on }

abbrev pub flagged_parts : FlaggedStep → ℕ × (Flag × Bool)
flagged_parts f = (f.volume, (f.flag, f.on))

unfoldable pub flagged : Form FlaggedStep
flagged = made flagged_of flagged_parts (index & flag & truth)

-- The number of a kind, the form of its fields, and the fields of a step.
pub record Row : Type 1 where
  pub Fields : Type 0
  pub number : ℕ
  pub form : Form Fields
  pub fields : Fields

abbrev pub of_kind : {A : Type 0} → ℕ → Form A → A → Row
of_kind {A} number form fields = record { Fields = A; number = number; form = form; fields = fields }

-- the table of the kinds
abbrev pub row : StepKind → Row
row (Configured t) = of_kind 1 texts t
row (Put p) = of_kind 2 put p
row (Accessed i) = of_kind 3 inode i
row (Removed i) = of_kind 4 inode i
row (Renamed r) = of_kind 5 renamed r
row (Attributed a) = of_kind 6 attributed a
row (CopyMade m) = of_kind 7 copy_made m
row (Rearchive c) = of_kind 8 file_copy c
row (Unarchived c) = of_kind 9 file_copy c
row (Released r) = of_kind 10 released r
row (Wanted is) = of_kind 11 inodes is
row (Staged s) = of_kind 12 staged s
row (StageFailed i) = of_kind 13 inode i
row (Damaged d) = of_kind 14 damaged d
row (Recycling v) = of_kind 15 index v
row (Relabelled r) = of_kind 16 relabelled r
row (Flagged f) = of_kind 17 flagged f

abbrev pub kind_written : Row → List ℕ
kind_written r = r.form.written r.fields

abbrev pub IsRowInRange : Row → Type 0
IsRowInRange r = r.form.InRange r.fields

-- the one written form of a step: the number of its kind, the moment, the fields
unfoldable pub written : Step → List ℕ
written s = (row s.kind).number ∷ moment.written s.moment ++ kind_written (row s.kind)

-- each field of the step is in its range
unfoldable pub InRange : Step → Type 0
InRange s = moment.InRange s.moment × IsRowInRange (row s.kind)

-- The first field without a reading, in bytes that are no written form of a step in range.
pub data IsRefused (bytes : List ℕ) (e : StepRefusal) : Type 0 where
  -- the bytes end before the kind
  empty : bytes ≡ [] → e ≡ Truncated → IsRefused bytes e
  -- no step has this kind
  no_kind : (number : ℕ) (rest : List ℕ) → bytes ≡ number ∷ rest → ((s : StepKind) → ¬ ((row s).number ≡ number)) → e ≡ BadKind → IsRefused bytes e
  -- the moment or a field of the kind has no reading
  bad_field : (s : StepKind) (rest : List ℕ) → bytes ≡ (row s).number ∷ rest → (moment & (row s).form).Refuses rest e → IsRefused bytes e
  -- more follows a step
  follows : (s : Step) (b : ℕ) (more : List ℕ) → InRange s → bytes ≡ written s ++ b ∷ more → e ≡ BadField → IsRefused bytes e
