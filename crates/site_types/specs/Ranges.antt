-- The ranges of a step's fields, kind by kind. All else about a step is whether it is legal in a state.
use Rattle.std.specs.Prelude.{ℕ, ◌<◌, ◌≤◌, ◌^◌, List, length}
use Rattle.std.specs.List.{AllByRecursion}
use Rattle.base.specs.declared.limits.TheConstants.{END_OF_TIME, INODE_MAX, MEMBER_COUNT_MAX, SECTION_COUNT_MAX}
use Rattle.site_types.specs.declared.file.Run.{Run}
use Rattle.site_types.specs.declared.file.Section.{Section}
use Rattle.site_types.specs.declared.step.FileCopy.{FileCopy}
use Rattle.site_types.specs.declared.step.Member.{Member}
use Rattle.site_types.specs.declared.step.VolumeEnd.{VolumeEnd}
use Rattle.site_types.specs.declared.step.StepKind.{StepKind}
use Rattle.site_types.specs.declared.step.StepKind.TheVariants.{Configured, Put, Accessed, Removed, Renamed, Attributed, CopyMade, Rearchive, Unarchived, Released, Wanted, Staged, StageFailed, Damaged, Recycling, Relabelled, Flagged}

abbrev pub IsMoment : ℕ → Type 0
IsMoment n = n < END_OF_TIME

abbrev pub IsInode : ℕ → Type 0
IsInode n = (1 ≤ n) × (n ≤ INODE_MAX)

abbrev pub IsCopy : ℕ → Type 0
IsCopy n = (1 ≤ n) × (n ≤ 4)

-- the number of a set or of a volume
abbrev pub IsIndex : ℕ → Type 0
IsIndex n = n < 2 ^ 32

abbrev pub IsNumber : ℕ → Type 0
IsNumber n = n < 2 ^ 64

abbrev pub IsText : List ℕ → Type 0
IsText bytes = length bytes < 2 ^ 32

abbrev pub IsRun : Run → Type 0
IsRun r = (r.first < 2 ^ 32) × (r.count < 2 ^ 32)

abbrev pub IsSection : Section → Type 0
IsSection s = IsIndex s.volume × IsNumber s.label × IsNumber s.place × IsNumber s.length

-- with 1 to 8 sections
abbrev pub IsMember : Member → Type 0
IsMember m = IsInode m.inode × IsNumber m.generation × (1 ≤ length m.sections) × (length m.sections ≤ SECTION_COUNT_MAX) × AllByRecursion IsSection m.sections

abbrev pub IsEnd : VolumeEnd → Type 0
IsEnd e = IsIndex e.volume × IsNumber e.used

-- a list whose count fits in four bytes
abbrev pub IsListOf : {A : Type 0} → (A → Type 0) → List A → Type 0
IsListOf P xs = (length xs < 2 ^ 32) × AllByRecursion P xs

-- one of the copies of a file
abbrev pub IsFileCopy : FileCopy → Type 0
IsFileCopy c = IsInode c.inode × IsCopy c.copy

abbrev pub Ranges : StepKind → Type 0
Ranges (Configured t) = IsText t.site × IsText t.archiver × IsText t.stager × IsText t.releaser × IsText t.recycler
Ranges (Put p) = IsInode p.inode × IsText p.path × IsText p.owner × IsText p.group × IsNumber p.length × IsListOf IsRun p.runs
Ranges (Accessed inode) = IsInode inode
Ranges (Removed inode) = IsInode inode
Ranges (Renamed r) = IsInode r.inode × IsText r.path
Ranges (Attributed a) = IsInode a.inode × IsNumber a.partial
Ranges (CopyMade m) = IsIndex m.set × IsCopy m.copy × IsText m.key × (length m.members ≤ MEMBER_COUNT_MAX) × AllByRecursion IsMember m.members × IsListOf IsEnd m.ends
Ranges (Rearchive c) = IsFileCopy c
Ranges (Unarchived c) = IsFileCopy c
Ranges (Released r) = IsInode r.inode × IsNumber r.cached
Ranges (Wanted inodes) = IsListOf IsInode inodes
Ranges (Staged s) = IsInode s.inode × IsCopy s.copy × IsListOf IsRun s.runs
Ranges (StageFailed inode) = IsInode inode
Ranges (Damaged d) = IsInode d.inode × IsCopy d.copy
Ranges (Recycling volume) = IsIndex volume
Ranges (Relabelled r) = IsIndex r.volume × IsNumber r.label
Ranges (Flagged f) = IsIndex f.volume
