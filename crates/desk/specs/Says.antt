-- What a line looks like that asks something, and which of its words is the first wrong one.
use Rattle.std.specs.Prelude.{◌≡◌, ℕ, ◌+◌, ◌<◌, ◌≤◌, List, [], ◌∷◌, ◌++◌, length, take, drop, Option, Some, None, true, ◌⊎◌}
use Rattle.std.specs.List.{list_all}
use Rattle.base.specs.declared.limits.TheConstants.{LINE_MAX}
use Rattle.site_text.specs.Numbers.{number_within}
use Rattle.site_text.specs.Words.{named}
use Rattle.site_events.specs.declared.event.Asked.{Asked}
use Rattle.site_events.specs.declared.reply.LineRefusal.{LineRefusal}
use Rattle.site_events.specs.declared.reply.LineRefusal.TheVariants.{NotACommand, BadWord, LineTooLong, NoMemory}
use Rattle.desk.specs.declared.commands.Command.{Command}
use Rattle.desk.specs.Forms.{is_blank, is_of_word, Form, Word, Number, Size, Rest, Value, Values, any_word, size_word}
use Rattle.desk.specs.Asks.{commands, forms_of, asked_with}

-- nothing, or blanks alone
abbrev pub IsBlank : List ℕ → Type 0
IsBlank text = list_all is_blank text ≡ true

abbrev pub BeginsBlank : List ℕ → Type 0
BeginsBlank [] = Unit {0}
BeginsBlank (b ∷ bs) = is_blank b ≡ true

-- A text is blanks, this word and this rest, which is empty or begins with a blank.
pub record WordStands (text word rest : List ℕ) : Type 0 where
  pub gap : List ℕ
  pub parts : text ≡ gap ++ (word ++ rest)
  pub gap_blank : IsBlank gap
  pub there : 0 < length word
  pub plain : list_all is_of_word word ≡ true
  pub apart : BeginsBlank rest

-- ---- a place of a line

-- what a word says by a form
abbrev pub word_value : (form : Form) → List ℕ → Option (Value form)
word_value Word word = any_word word
word_value (Number digits low high) word = number_within digits low high word
word_value Size word = size_word word
word_value Rest word = any_word word

-- a word stands there that says this, and then this rest
pub record WordSays (form : Form) (text : List ℕ) (value : Value form) (rest : List ℕ) : Type 0 where
  pub word : List ℕ
  pub stands : WordStands text word rest
  pub says : word_value form word ≡ Some value

-- a word stands there that is not of the form
pub record WordUnfit (form : Form) (text : List ℕ) : Type 0 where
  pub word : List ℕ
  pub rest : List ℕ
  pub stands : WordStands text word rest
  pub unfit : word_value form word ≡ None

-- behind one blank stands this, or there is nothing
abbrev pub StandsBehind : List ℕ → List ℕ → Type 0
StandsBehind [] value = value ≡ []
StandsBehind (b ∷ bs) value = value ≡ bs

abbrev pub Says : (form : Form) → List ℕ → Value form → List ℕ → Type 0
Says Word text value rest = WordSays Word text value rest
Says (Number digits low high) text value rest = WordSays (Number digits low high) text value rest
Says Size text value rest = WordSays Size text value rest
Says Rest text value rest = StandsBehind text value × (rest ≡ [])

-- the word is missing, or not of the form
abbrev pub IsWrong : Form → List ℕ → Type 0
IsWrong Word text = IsBlank text ⊎ WordUnfit Word text
IsWrong (Number digits low high) text = IsBlank text ⊎ WordUnfit (Number digits low high) text
IsWrong Size text = IsBlank text ⊎ WordUnfit Size text
IsWrong Rest text = ⊥

-- ---- the words of a command

-- a text begins with words of these forms that say these values, and then has this rest
abbrev pub BeginsWith : (forms : List Form) → List ℕ → Values forms → List ℕ → Type 0
BeginsWith [] text values rest = rest ≡ text
BeginsWith (form ∷ forms) text values rest = (next : List ℕ) × Says form text values.0 next × BeginsWith forms next values.1 rest

-- the words have these forms, say these values, and no word follows
pub record AllSay (forms : List Form) (text : List ℕ) (values : Values forms) : Type 0 where
  pub rest : List ℕ
  pub words : BeginsWith forms text values rest
  pub ends : IsBlank rest

-- a word too many
pub record WordFollows (text : List ℕ) : Type 0 where
  pub word : List ℕ
  pub rest : List ℕ
  pub stands : WordStands text word rest

abbrev pub WrongHere : List Form → List ℕ → Type 0
WrongHere [] text = WordFollows text
WrongHere (form ∷ forms) text = IsWrong form text

-- The words before a place say values, and the one there is missing, extra or not of its form; it has this number where the
-- first has that one.
pub record FirstWrong (forms : List Form) (first : ℕ) (text : List ℕ) (number : ℕ) : Type 0 where
  pub place : ℕ
  pub within : place ≤ length forms
  pub values : Values (take place forms)
  pub rest : List ℕ
  pub before : BeginsWith (take place forms) text values rest
  pub here : WrongHere (drop place forms) rest
  pub is : number ≡ first + place

-- ---- lines

-- the line begins with a command's name, and then has this rest
pub record Names (line : List ℕ) (command : Command) (rest : List ℕ) : Type 0 where
  pub name : List ℕ
  pub stands : WordStands line name rest
  pub named : named commands name ≡ Some command

pub record LineAsks (line : List ℕ) (asked : Asked) : Type 0 where
  pub short : length line ≤ LINE_MAX
  pub command : Command
  pub rest : List ℕ
  pub names : Names line command rest
  pub values : Values (forms_of command)
  pub says : AllSay (forms_of command) rest values
  pub is : asked ≡ asked_with command values

-- no command has the name of its first word
pub record NamesNone (line : List ℕ) : Type 0 where
  pub name : List ℕ
  pub rest : List ℕ
  pub stands : WordStands line name rest
  pub unknown : named commands name ≡ None

pub record HasBadWord (line : List ℕ) (number : ℕ) : Type 0 where
  pub command : Command
  pub rest : List ℕ
  pub names : Names line command rest
  pub wrong : FirstWrong (forms_of command) 2 rest number

abbrev pub LineWrong : List ℕ → LineRefusal → Type 0
LineWrong line LineTooLong = LINE_MAX < length line
LineWrong line NotACommand = (length line ≤ LINE_MAX) × (IsBlank line ⊎ NamesNone line)
LineWrong line (BadWord number) = (length line ≤ LINE_MAX) × HasBadWord line number
LineWrong line NoMemory = ⊥
