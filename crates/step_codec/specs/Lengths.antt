-- How long the written form of a step is.
use Rattle.std.specs.Prelude.{ℕ, ◌+◌, ◌*◌, ◌≤◌, List, length}
use Rattle.std.specs.List.{sum_by, AllByRecursion}
use Rattle.base.specs.declared.limits.TheConstants.{COMMAND_FILE_MAX, FILE_COUNT_MAX, MEMBER_COUNT_MAX, NAME_MAX, PATH_MAX, SECTION_COUNT_MAX, VOLUME_COUNT_MAX}
use Rattle.site_types.specs.declared.file.SiteTexts.{SiteTexts}
use Rattle.site_types.specs.declared.step.Member.{Member}
use Rattle.site_types.specs.declared.step.Step.{Step}
use Rattle.site_types.specs.declared.step.StepKind.{StepKind}
use Rattle.site_types.specs.declared.step.StepKind.TheVariants.{Configured, Put, Accessed, Removed, Renamed, Attributed, CopyMade, Rearchive, Unarchived, Released, Wanted, Staged, StageFailed, Damaged, Recycling, Relabelled, Flagged}

abbrev pub text_length : List ℕ → ℕ
text_length bytes = 4 + length bytes

abbrev pub texts_length : SiteTexts → ℕ
texts_length t = text_length t.site + (text_length t.archiver + (text_length t.stager + (text_length t.releaser + text_length t.recycler)))

-- a list of items of one length
abbrev pub items_length : {A : Type 0} → ℕ → List A → ℕ
items_length each xs = 4 + each * length xs

abbrev pub member_length : Member → ℕ
member_length m = 16 + items_length 32 m.sections

-- the bytes of the fields of each kind
abbrev pub fields_length : StepKind → ℕ
fields_length (Configured t) = texts_length t
fields_length (Put p) = 28 + (length p.path + (length p.owner + (length p.group + items_length 8 p.runs)))
fields_length (Accessed i) = 8
fields_length (Removed i) = 8
fields_length (Renamed r) = 8 + text_length r.path
fields_length (Attributed a) = 18
fields_length (CopyMade m) = 16 + (text_length m.key + (4 + sum_by member_length m.members + items_length 16 m.ends))
fields_length (Rearchive c) = 16
fields_length (Unarchived c) = 16
fields_length (Released r) = 16
fields_length (Wanted inodes) = items_length 8 inodes
fields_length (Staged s) = 16 + items_length 8 s.runs
fields_length (StageFailed i) = 8
fields_length (Damaged d) = 17
fields_length (Recycling volume) = 8
fields_length (Relabelled r) = 16
fields_length (Flagged f) = 10

-- a byte for the number of the kind, eight of the moment, and the fields
abbrev pub step_length : Step → ℕ
step_length s = 9 + fields_length s.kind

-- The limits of a site: 65,536 bytes of a command file, 1,024 of a path, 32 of a name, 2,048 of a key;
-- 4,096 blocks of a file, 1,024 volumes, 512 members of 8 sections, 65,536 files.
abbrev pub IsWithinLimits : StepKind → Type 0
IsWithinLimits (Configured t) = (length t.site ≤ COMMAND_FILE_MAX) × (length t.archiver ≤ COMMAND_FILE_MAX) × (length t.stager ≤ COMMAND_FILE_MAX) × (length t.releaser ≤ COMMAND_FILE_MAX) × (length t.recycler ≤ COMMAND_FILE_MAX)
IsWithinLimits (Put p) = (length p.path ≤ PATH_MAX) × (length p.owner ≤ NAME_MAX) × (length p.group ≤ NAME_MAX) × (length p.runs ≤ 4096)
IsWithinLimits (Renamed r) = length r.path ≤ PATH_MAX
IsWithinLimits (CopyMade m) = (length m.key ≤ 2048) × (length m.members ≤ MEMBER_COUNT_MAX) × AllByRecursion (λ m. length m.sections ≤ SECTION_COUNT_MAX) m.members × (length m.ends ≤ VOLUME_COUNT_MAX)
IsWithinLimits (Wanted inodes) = length inodes ≤ FILE_COUNT_MAX
IsWithinLimits (Staged s) = length s.runs ≤ 4096
IsWithinLimits _ = Unit {0}
