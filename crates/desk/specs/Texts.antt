-- The text of each answer: its lines, each a row of words.
use Rattle.std.specs.Prelude.{ℕ, List, [], ◌∷◌, ◌++◌, codes, decimal, map, length, take, Bool, if◌then◌else◌}
use Rattle.std.specs.List.{join_with_byte, flat_map}
use Rattle.site_text.specs.Faults.{fault_text}
use Rattle.site_events.specs.declared.event.Daemon.{Daemon}
use Rattle.site_events.specs.declared.event.Daemon.TheVariants.{Archiver as ArchiverDaemon, Stager as StagerDaemon, Releaser as ReleaserDaemon, Recycler as RecyclerDaemon}
use Rattle.site_events.specs.declared.reply.Vsn.{Vsn}
use Rattle.site_events.specs.declared.reply.CommandFile.{CommandFile}
use Rattle.site_events.specs.declared.reply.CommandFile.TheVariants.{Site, Archiver, Stager, Releaser, Recycler}
use Rattle.site_events.specs.declared.reply.LineRefusal.{LineRefusal}
use Rattle.site_events.specs.declared.reply.LineRefusal.TheVariants.{NotACommand, BadWord, LineTooLong, NoMemory as WantOfMemory}
use Rattle.site_events.specs.declared.reply.Rule.{Rule}
use Rattle.site_events.specs.declared.reply.Rule.TheVariants.{NoFile, Exists, BadPath, NoSpace, VolumeNotAllowed, LastData, StillCurrent, NotOffline, Never, QueueFull, TooLarge, TooMany, BadAttribute, NoCopy, NoVolume, Unreachable, Running}
use Rattle.site_events.specs.declared.reply.IdleCause.{IdleCause}
use Rattle.site_events.specs.declared.reply.IdleCause.TheVariants.{NothingDue, NotStarted, Waiting, NoDrive, NoVolume as NoVolumeFree, NothingWanted, NoSpace as NoBlocks, NoRelease, BelowMark, NoCandidate, Draining}
use Rattle.site_events.specs.declared.reply.FileState.{FileState}
use Rattle.site_events.specs.declared.reply.FileState.TheVariants.{Online, Offline, Partial}
use Rattle.site_events.specs.declared.reply.FileRow.{FileRow}
use Rattle.site_events.specs.declared.reply.VolumeRow.{VolumeRow}
use Rattle.site_events.specs.declared.reply.SetRow.{SetRow}
use Rattle.site_events.specs.declared.reply.QueueRow.{QueueRow}
use Rattle.site_events.specs.declared.reply.SummaryRow.{SummaryRow}
use Rattle.site_events.specs.declared.reply.Reply.{Reply}
use Rattle.site_events.specs.declared.reply.Reply.TheVariants.{Stored, Done, At, Bytes, Staging, Started, Moved, Made, Dropped, Unarchived, Wanted, Released, Staged, StageFailed, Damaged, Marked, Relabelled, Settled, Idle, Files, Volumes, Sets, Queue, Summary, Refused, Claimed, ConfRefused, PatternRefused, JournalFull, Line, BankFault, FolderFault, BadJournal, NoMemory}

-- words in a row, a blank between each two
unfoldable pub words : List (List ℕ) → List ℕ
words ws = join_with_byte 32 ws

-- lines, each with its end
unfoldable pub ended : List (List ℕ) → List ℕ
ended lines = flat_map (λ line. line ++ codes "\n") lines

-- ---- words for names

abbrev pub vsn_text : Vsn → List ℕ
vsn_text vsn = take vsn.length vsn.bytes

abbrev pub daemon_text : Daemon → List ℕ
daemon_text ArchiverDaemon = codes "archiver"
daemon_text StagerDaemon = codes "stager"
daemon_text ReleaserDaemon = codes "releaser"
daemon_text RecyclerDaemon = codes "recycler"

abbrev pub file_text : CommandFile → List ℕ
file_text Site = codes "site.conf"
file_text Archiver = codes "archiver.cmd"
file_text Stager = codes "stager.cmd"
file_text Releaser = codes "releaser.cmd"
file_text Recycler = codes "recycler.cmd"

abbrev pub rule_text : Rule → List ℕ
rule_text NoFile = codes "no file"
rule_text Exists = codes "exists"
rule_text BadPath = codes "bad path"
rule_text NoSpace = codes "no space"
rule_text VolumeNotAllowed = codes "volume not allowed"
rule_text LastData = codes "last data"
rule_text StillCurrent = codes "still current"
rule_text NotOffline = codes "not offline"
rule_text Never = codes "never"
rule_text QueueFull = codes "queue full"
rule_text TooLarge = codes "too large"
rule_text TooMany = codes "too many"
rule_text BadAttribute = codes "bad attribute"
rule_text NoCopy = codes "no copy"
rule_text NoVolume = codes "no volume"
rule_text Unreachable = codes "unreachable"
rule_text Running = codes "running"

abbrev pub cause_text : IdleCause → List ℕ
cause_text NothingDue = codes "nothing due"
cause_text NotStarted = codes "not started"
cause_text Waiting = codes "waiting"
cause_text NoDrive = codes "no drive"
cause_text NoVolumeFree = codes "no volume"
cause_text NothingWanted = codes "nothing wanted"
cause_text NoBlocks = codes "no space"
cause_text NoRelease = codes "no release"
cause_text BelowMark = codes "below the mark"
cause_text NoCandidate = codes "no candidate"
cause_text Draining = codes "draining"

abbrev pub state_text : FileState → List ℕ
state_text Online = codes "online"
state_text Offline = codes "offline"
state_text Partial = codes "partial"

abbrev pub truth_text : Bool → List ℕ
truth_text truth = if truth then codes "yes" else codes "no"

-- a character where it is true, else `-`
abbrev pub mark : ℕ → Bool → ℕ
mark character truth = if truth then character else 45

-- `R`, `U` and `c`
abbrev pub flags_text : Bool → Bool → Bool → List ℕ
flags_text readonly unavailable recycling = mark 82 readonly ∷ mark 85 unavailable ∷ mark 99 recycling ∷ []

-- a key, or `-` where there is none
abbrev pub key_text : List ℕ → List ℕ
key_text [] = codes "-"
key_text (b ∷ bs) = b ∷ bs

-- ---- rows of the reports

abbrev pub file_line : FileRow → List ℕ
file_line r = words (decimal r.inode ∷ decimal r.length ∷ state_text r.state ∷ r.copies ∷ r.owner ∷ r.group ∷ r.path ∷ [])

abbrev pub volume_line : VolumeRow → List ℕ
volume_line r = words (r.library ∷ r.media ∷ r.vsn ∷ decimal r.label ∷ decimal r.capacity ∷ decimal r.used ∷ decimal r.current ∷ flags_text r.readonly r.unavailable r.recycling ∷ key_text r.key ∷ [])

abbrev pub set_line : SetRow → List ℕ
set_line r = words ((r.set ++ codes "." ++ decimal r.copy) ∷ codes "due" ∷ decimal r.due ∷ codes "started" ∷ truth_text r.started ∷ [])

abbrev pub queue_line : QueueRow → List ℕ
queue_line r = words (decimal r.inode ∷ r.path ∷ [])

abbrev pub summary_lines : SummaryRow → List (List ℕ)
summary_lines s =
    words (codes "files" ∷ decimal s.files ∷ codes "bytes" ∷ decimal s.bytes ∷ codes "online" ∷ decimal s.online ∷ [])
    ∷ words (codes "copies" ∷ decimal s.copies ∷ codes "stale" ∷ decimal s.stale ∷ codes "damaged" ∷ decimal s.damaged ∷ [])
    ∷ words (codes "cache used" ∷ decimal s.cache_used ∷ codes "of" ∷ decimal s.cache_blocks ∷ codes "blocks" ∷ [])
    ∷ words (codes "volumes" ∷ decimal s.volumes ∷ codes "used" ∷ decimal s.used ∷ codes "current" ∷ decimal s.current ∷ [])
    ∷ words (codes "queue" ∷ decimal s.queue ∷ codes "jobs" ∷ decimal s.jobs ∷ [])
    ∷ words (codes "moment" ∷ decimal s.moment ∷ [])
    ∷ []

-- how many rows, and each row
abbrev pub report_lines : {R : Type 0} → List ℕ → (R → List ℕ) → List R → List (List ℕ)
report_lines name line rows = words (name ∷ decimal (length rows) ∷ []) ∷ map line rows

-- ---- answers

abbrev pub refusal_line : LineRefusal → List ℕ
refusal_line NotACommand = codes "refused: not a command"
refusal_line (BadWord number) = words (codes "refused: bad word" ∷ decimal number ∷ [])
refusal_line LineTooLong = codes "refused: line too long"
refusal_line WantOfMemory = codes "no memory"

-- what is wrong at a line of a command file
abbrev pub at_line : CommandFile → ℕ → List ℕ → List (List ℕ)
at_line file line fault = codes "refused:" ∷ file_text file ∷ codes "line" ∷ (decimal line ++ codes ":") ∷ fault ∷ []

unfoldable pub lines_of : Reply → List (List ℕ)
lines_of (Stored inode created) = words (codes "ok" ∷ decimal inode ∷ []) ∷ []
lines_of (Done inode) = words (codes "ok" ∷ decimal inode ∷ []) ∷ []
lines_of (At moment) = words (codes "at" ∷ decimal moment ∷ []) ∷ []
lines_of (Bytes bytes) = words (codes "bytes" ∷ decimal (length bytes) ∷ []) ∷ bytes ∷ []
lines_of (Staging files) = words (codes "staging" ∷ decimal files ∷ []) ∷ []
lines_of (Started job) = words (codes "started" ∷ decimal job ∷ []) ∷ []
lines_of (Moved bytes) = words (codes "moved" ∷ decimal bytes ∷ []) ∷ []
lines_of (Made members) = words (codes "made" ∷ decimal members ∷ []) ∷ []
lines_of Dropped = codes "dropped" ∷ []
lines_of (Unarchived inode copy) = words (codes "unarchived" ∷ decimal inode ∷ decimal copy ∷ []) ∷ []
lines_of (Wanted inode) = words (codes "wanted" ∷ decimal inode ∷ []) ∷ []
lines_of (Released inode) = words (codes "released" ∷ decimal inode ∷ []) ∷ []
lines_of (Staged inode) = words (codes "staged" ∷ decimal inode ∷ []) ∷ []
lines_of (StageFailed inode) = words (codes "stage failed" ∷ decimal inode ∷ []) ∷ []
lines_of (Damaged inode copy) = words (codes "damaged" ∷ decimal inode ∷ decimal copy ∷ []) ∷ []
lines_of (Marked vsn) = words (codes "marked" ∷ vsn_text vsn ∷ []) ∷ []
lines_of (Relabelled vsn label) = words (codes "relabelled" ∷ vsn_text vsn ∷ decimal label ∷ []) ∷ []
lines_of (Settled rounds) = words (codes "settled" ∷ decimal rounds ∷ []) ∷ []
lines_of (Idle cause) = words (codes "idle:" ∷ cause_text cause ∷ []) ∷ []
lines_of (Files rows) = report_lines (codes "files") file_line rows
lines_of (Volumes rows) = report_lines (codes "volumes") volume_line rows
lines_of (Sets rows) = report_lines (codes "sets") set_line rows
lines_of (Queue rows) = report_lines (codes "queue") queue_line rows
lines_of (Summary row) = summary_lines row
lines_of (Refused rule) = words (codes "refused:" ∷ rule_text rule ∷ []) ∷ []
lines_of (Claimed daemon job) = words (codes "refused: claimed by" ∷ daemon_text daemon ∷ codes "job" ∷ decimal job ∷ []) ∷ []
lines_of (ConfRefused file line fault) = words (at_line file line (fault_text fault)) ∷ []
lines_of (PatternRefused file line) = words (at_line file line (codes "pattern refused")) ∷ []
lines_of JournalFull = codes "refused: journal full" ∷ []
lines_of (Line refusal) = refusal_line refusal ∷ []
lines_of BankFault = codes "fault: bank" ∷ []
lines_of FolderFault = codes "fault: folder" ∷ []
lines_of (BadJournal place) = words (codes "bad journal at" ∷ decimal place ∷ []) ∷ []
lines_of NoMemory = codes "no memory" ∷ []

-- the lines of an answer, each with its end
unfoldable pub text_of : Reply → List ℕ
text_of reply = ended (lines_of reply)
