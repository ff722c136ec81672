-- Reading a step field by field, as far as the first one without a reading.
use Rattle.std.specs.Prelude.{◌≡◌, ℕ, List, [], ◌∷◌, length, Result, Ok, Err, ◌==◌, if◌then◌else◌}
use Rattle.site_types.specs.declared.step.Step.{Step}
use Rattle.site_types.specs.declared.step.StepKind.{StepKind}
use Rattle.site_types.specs.declared.step.StepKind.TheVariants.{Configured, Put, Accessed, Removed, Renamed, Attributed, CopyMade, Rearchive, Unarchived, Released, Wanted, Staged, StageFailed, Damaged, Recycling, Relabelled, Flagged}
use Rattle.step_codec.specs.declared.refusal.StepRefusal.{StepRefusal}
use Rattle.step_codec.specs.declared.refusal.StepRefusal.TheVariants.{Truncated, BadKind, BadField, NoMemory}
use Rattle.step_codec.specs.Forms.{Form, ◌>>=◌, is_within}
use Rattle.step_codec.specs.Written.{moment, inode, inodes, index, texts, put, renamed, attributed, copy_made, file_copy, released, staged, damaged, relabelled, flagged}

-- It is what the reading gives, unless memory ran out.
abbrev pub Fails : {Y : Type 0} → StepRefusal → Result Y StepRefusal → Type 0
Fails NoMemory read = Unit {0}
Fails Truncated read = read ≡ Err Truncated
Fails BadKind read = read ≡ Err BadKind
Fails BadField read = read ≡ Err BadField

abbrev pub Gives : {X Y : Type 0} → (X → Y) → Result X StepRefusal → Result Y StepRefusal → Type 0
Gives view (Ok x) read = read ≡ Ok (view x)
Gives view (Err e) read = Fails e read

-- A reader of what follows the number of a kind and the moment.
abbrev pub Reader : Type 0
Reader = List ℕ → Result (StepKind × List ℕ) StepRefusal

-- the fields that a form reads, made to a kind
abbrev pub read_as : {A : Type 0} → (A → StepKind) → Form A → Reader
read_as make form bytes = form.read bytes >>= λ x. Ok (make x.0, x.1)

-- the table of the kinds again, by their numbers, which are counted from 1
unfoldable pub kinds : List (ℕ × Reader)
kinds =
    (1, read_as Configured texts)
    ∷ (2, read_as Put put)
    ∷ (3, read_as Accessed inode)
    ∷ (4, read_as Removed inode)
    ∷ (5, read_as Renamed renamed)
    ∷ (6, read_as Attributed attributed)
    ∷ (7, read_as CopyMade copy_made)
    ∷ (8, read_as Rearchive file_copy)
    ∷ (9, read_as Unarchived file_copy)
    ∷ (10, read_as Released released)
    ∷ (11, read_as Wanted inodes)
    ∷ (12, read_as Staged staged)
    ∷ (13, read_as StageFailed inode)
    ∷ (14, read_as Damaged damaged)
    ∷ (15, read_as Recycling index)
    ∷ (16, read_as Relabelled relabelled)
    ∷ (17, read_as Flagged flagged)
    ∷ []

-- the highest number in it; they are counted from 1
abbrev pub last_kind : ℕ
last_kind = length kinds

abbrev pub read_by : List (ℕ × Reader) → ℕ → Reader
read_by [] number bytes = Err BadKind
read_by (k ∷ more) number bytes = if number == k.0 then k.1 bytes else read_by more number bytes

-- the fields of the kind of a number
abbrev pub kind_at : ℕ → Reader
kind_at number bytes = read_by kinds number bytes

-- the moment and the fields of a kind, and nothing after them
unfoldable pub fields_at : ℕ → List ℕ → Result Step StepRefusal
fields_at number bytes =
    moment.read bytes >>= λ m. kind_at number m.1 >>= λ k.
    if length k.1 == 0 then Ok (record { moment = m.0; kind = k.0 }) else Err BadField

-- a whole step
unfoldable pub step_at : List ℕ → Result Step StepRefusal
step_at [] = Err Truncated
step_at (number ∷ bytes) = if is_within 1 last_kind number then fields_at number bytes else Err BadKind
