-- What a line asks: a table of the commands, each with the forms of its words and what it asks by their values.
use Rattle.std.specs.Prelude.{◌≡◌, ℕ, ◌+◌, ◌-◌, ◌%◌, List, [], ◌∷◌, codes, length, map, min, Option, Some, None, Ok, Err, Bool, nat_lt, nat_le, ◌==◌, ◌&&◌, ◌||◌, slice_index, if◌then◌else◌}
use Rattle.std.specs.List.{list_all, range_with_len}
use Rattle.base.specs.declared.limits.TheConstants.{END_OF_TIME, FILE_SIZE_MAX, LINE_MAX}
use Rattle.site_text.specs.Words.{named}
use Rattle.site_events.specs.declared.event.Event.TheVariants.{Put as PutEvent, Read as ReadEvent, Remove as RemoveEvent}
use Rattle.site_events.specs.declared.event.Asked.{Asked}
use Rattle.site_events.specs.declared.event.Asked.TheVariants.{One, At as AtMoment, Configure as AskedConfigure}
use Rattle.site_events.specs.declared.reply.LineRefusal.TheVariants.{NotACommand, BadWord, LineTooLong, NoMemory}
use Rattle.desk.specs.declared.commands.Command.{Command}
use Rattle.desk.specs.declared.commands.Command.TheVariants.{At, Put, Make, Cat, Head, Remove, Configure}
use Rattle.desk.specs.Forms.{is_blank, first_word, after_word, Read, ◌>>=◌, Form, Word, NumberWord, Size, Seed, Rest, Values, values_at}

-- ---- the table

abbrev pub commands : List (List ℕ × Command)
commands =
    (codes "at", At) ∷ (codes "put", Put) ∷ (codes "make", Make) ∷ (codes "cat", Cat) ∷ (codes "head", Head) ∷ (codes "rm", Remove)
    ∷ (codes "configure", Configure) ∷ []

abbrev pub forms_of : Command → List Form
forms_of At = NumberWord 0 (END_OF_TIME - 1) ∷ []
forms_of Put = Word ∷ Word ∷ Word ∷ Rest ∷ []
forms_of Make = Word ∷ Word ∷ Word ∷ Size ∷ Seed ∷ []
forms_of Cat = Word ∷ []
forms_of Head = Word ∷ NumberWord 0 FILE_SIZE_MAX ∷ []
forms_of Remove = Word ∷ []
forms_of Configure = []

-- Byte i is (i + seed) mod 256. Of a size over the longest file's 16,777,216 there is one byte more than that.
unfoldable pub made_bytes : ℕ → ℕ → List ℕ
made_bytes size seed = map (λ i. (i + seed) % 256) (range_with_len 0 (min size (FILE_SIZE_MAX + 1)))

abbrev pub asked_with : (command : Command) → Values (forms_of command) → Asked
asked_with At (moment, end) = AtMoment moment
asked_with Put (path, (owner, (group, (text, end)))) = One (PutEvent path owner group text)
asked_with Make (path, (owner, (group, (size, (seed, end))))) = One (PutEvent path owner group (made_bytes size seed))
asked_with Cat (path, end) = One (ReadEvent path FILE_SIZE_MAX)
asked_with Head (path, (upto, end)) = One (ReadEvent path upto)
asked_with Remove (path, end) = One (RemoveEvent path)
asked_with Configure end = AskedConfigure

-- ---- lines

-- what a command asks, by the words behind it
unfoldable pub asked_by : Command → List ℕ → Read Asked
asked_by command text = values_at (forms_of command) 2 text >>= λ values. Ok (asked_with command values)

-- what a line asks by its words
unfoldable pub command_of : List ℕ → Read Asked
command_of line = by_name (named commands (first_word line))
  where
    by_name : Option Command → Read Asked
    by_name None = Err NotACommand
    by_name (Some command) = asked_by command (after_word line)

-- What a line asks, its end left out. A line of over 4,096 bytes is too long.
unfoldable pub asked_of : List ℕ → Read Asked
asked_of line = if nat_lt LINE_MAX (length line) then Err LineTooLong else command_of line

-- A line of only blanks, or that begins with `#`, is passed over without an answer, unless it has over 4,096 bytes.
unfoldable pub is_skipped : List ℕ → Bool
is_skipped line = nat_le (length line) LINE_MAX && (slice_index line 0 == 35 || list_all is_blank line)

-- the meaning, unless memory was wanting
abbrev pub unless_memory : Read Asked → Read Asked → Read Asked
unless_memory (Ok asked) meaning = meaning
unless_memory (Err NotACommand) meaning = meaning
unless_memory (Err (BadWord number)) meaning = meaning
unless_memory (Err LineTooLong) meaning = meaning
unless_memory (Err NoMemory) meaning = Err NoMemory

-- a reader's answer is the line's meaning, want of memory aside
abbrev pub Answers : Read Asked → Read Asked → Type 0
Answers answer meaning = answer ≡ unless_memory answer meaning
