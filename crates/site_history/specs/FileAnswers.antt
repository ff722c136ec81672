-- Puts, reads and removals: what each is answered, and the step that it makes.
use Rattle.std.specs.Prelude.{ℕ, ◌&&◌, ◌||◌, nat_le, nat_lt, Bool, not, if◌then◌else◌, Option, Some, None, is_none, List, length, take}
use Rattle.base.specs.declared.limits.TheConstants.{FILE_COUNT_MAX, FILE_SIZE_MAX, INODE_MAX}
use Rattle.site_events.specs.declared.reply.Reply.TheVariants.{Stored, Done, Bytes}
use Rattle.site_events.specs.declared.reply.Rule.{Rule}
use Rattle.site_events.specs.declared.reply.Rule.TheVariants.{NoFile, BadPath, BadAttribute, TooLarge, TooMany, NoSpace}
use Rattle.site_types.specs.declared.file.FileRec.{FileRec}
use Rattle.site_types.specs.declared.step.PutStep.{PutStep}
use Rattle.site_types.specs.declared.step.Step.{Step}
use Rattle.site_types.specs.declared.step.StepKind.TheVariants.{Put, Accessed, Removed}
use Rattle.base.specs.Paths.{is_legal_path, is_legal_name}
use Rattle.cache_space.specs.Blocks.{blocks_for, free_blocks, lowest_runs}
use Rattle.site_history.specs.Site.{Fields, FileBytes, file_at, held_runs, bytes_of, cache_blocks}
use Rattle.site_history.specs.PutSteps.{inode_for}
use Rattle.site_history.specs.Steps.{HistoryStep}
use Rattle.site_history.specs.Running.{Running}
use Rattle.site_history.specs.Replies.{Answer, refused, makes, bare_step}

-- what a put stores: it takes the lowest free blocks
abbrev pub put_for : Fields → List ℕ → List ℕ → List ℕ → ℕ → PutStep
put_for fields path owner group size = record {
  inode = inode_for fields path;
  path = path;
  owner = owner;
  group = group;
  length = size;
  runs = lowest_runs (cache_blocks fields) (held_runs fields.files) (blocks_for size);
}

-- its step
abbrev pub put_made : Fields → ℕ → List ℕ → List ℕ → List ℕ → ℕ → Step
put_made fields moment path owner group size = record { moment = moment; kind = Put (put_for fields path owner group size) }

abbrev pub put_step : Fields → ℕ → List ℕ → List ℕ → List ℕ → List ℕ → HistoryStep
put_step fields moment path owner group bytes = record { step = put_made fields moment path owner group (length bytes); bytes = bytes }

-- a further file does not fit: 65,536 files are there, or the inode numbers are used up
abbrev pub is_full : Fields → Bool
is_full fields = nat_le FILE_COUNT_MAX (length fields.files) || nat_lt INODE_MAX fields.next_inode

-- fewer blocks are free than so many bytes need
abbrev pub lacks_space : Fields → ℕ → Bool
lacks_space fields size = nat_lt (length (free_blocks (cache_blocks fields) (held_runs fields.files))) (blocks_for size)

-- The first rule that refuses a put of so many bytes. The blocks of a file that is replaced are not free yet.
abbrev pub put_rule : Fields → List ℕ → List ℕ → List ℕ → ℕ → Option Rule
put_rule fields path owner group size =
    if not (is_legal_path path) then Some BadPath else
    if not (is_legal_name owner && is_legal_name group) then Some BadAttribute else
    if nat_lt FILE_SIZE_MAX size then Some TooLarge else
    if is_none (file_at path fields.files) && is_full fields then Some TooMany else
    if lacks_space fields size then Some NoSpace else None

abbrev pub put_answer_by : Option Rule → Fields → Running → ℕ → List ℕ → List ℕ → List ℕ → List ℕ → Answer
put_answer_by (Some rule) fields running moment path owner group bytes = refused running rule
put_answer_by None fields running moment path owner group bytes =
    makes running (Stored (inode_for fields path) (is_none (file_at path fields.files))) (put_step fields moment path owner group bytes)

abbrev pub put_answer : Fields → Running → ℕ → List ℕ → List ℕ → List ℕ → List ℕ → Answer
put_answer fields running moment path owner group bytes = put_answer_by (put_rule fields path owner group (length bytes)) fields running moment path owner group bytes

-- the first bytes of a file, which is whole; it is accessed
abbrev pub read_answer_of : Option FileRec → List FileBytes → Running → ℕ → ℕ → Answer
read_answer_of None contents running moment upto = refused running NoFile
read_answer_of (Some file) contents running moment upto =
    makes running (Bytes (take upto (bytes_of contents file.inode))) (bare_step moment (Accessed file.inode))

abbrev pub remove_answer_of : Option FileRec → Running → ℕ → Answer
remove_answer_of None running moment = refused running NoFile
remove_answer_of (Some file) running moment = makes running (Done file.inode) (bare_step moment (Removed file.inode))
