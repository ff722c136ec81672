-- The words of a line, and the forms that a command wants them to have.
use Rattle.std.specs.Prelude.{◌≡◌, ℕ, ◌+◌, ◌-◌, ◌^◌, List, [], ◌∷◌, drop, Option, Some, None, Result, Ok, Err, Bool, ◌==◌, ◌||◌, not}
use Rattle.std.specs.List.{position_or_len, before_first}
use Rattle.site_text.specs.Numbers.{number_within}
use Rattle.site_text.specs.Sizes.{size_of}
use Rattle.site_text.specs.declared.refusal.TextRefusal.{TextRefusal}
use Rattle.site_events.specs.declared.reply.LineRefusal.{LineRefusal}
use Rattle.site_events.specs.declared.reply.LineRefusal.TheVariants.{NotACommand, BadWord, LineTooLong, NoMemory}

-- blanks are space and tab
abbrev pub is_blank : ℕ → Bool
is_blank b = b == 32 || b == 9

abbrev pub is_of_word : ℕ → Bool
is_of_word b = not (is_blank b)

-- a text without the blanks before its first word
abbrev pub from_word : List ℕ → List ℕ
from_word text = drop (position_or_len is_of_word text) text

-- the first word of a text; nothing where it has no word
unfoldable pub first_word : List ℕ → List ℕ
first_word text = before_first is_blank (from_word text)

-- what stands behind the first word, from the blank after it on
unfoldable pub after_word : List ℕ → List ℕ
after_word text = drop (position_or_len is_blank (from_word text)) (from_word text)

-- ---- forms

-- what a place of a line may hold
pub data Form : Type 0 where
  -- any word
  Word : Form
  -- a number of 1 to so many digits, from the one number to the other
  Number : ℕ → ℕ → ℕ → Form
  -- a size below 2^50
  Size : Form
  -- the rest of the line after one blank, or nothing
  Rest : Form

-- a number word: 1 to 20 digits
abbrev pub NumberWord : ℕ → ℕ → Form
NumberWord low high = Number 20 low high

-- a seed: 1 to 9 digits
abbrev pub Seed : Form
Seed = Number 9 0 (10 ^ 9 - 1)

-- what is read of a form
abbrev pub Value : Form → Type 0
Value Word = List ℕ
Value (Number digits low high) = ℕ
Value Size = ℕ
Value Rest = List ℕ

abbrev pub Values : List Form → Type 0
Values [] = Unit {0}
Values (form ∷ forms) = Value form × Values forms

-- ---- what a word says

abbrev pub any_word : List ℕ → Option (List ℕ)
any_word [] = None
any_word (b ∷ bs) = Some (b ∷ bs)

abbrev pub size_word : List ℕ → Option ℕ
size_word word = if_size (size_of word)
  where
    if_size : Result ℕ TextRefusal → Option ℕ
    if_size (Ok size) = Some size
    if_size (Err refusal) = None

-- ---- reading a line from the left: what is read, or why the line is refused

abbrev pub Read : Type 0 → Type 0
Read A = Result A LineRefusal

infixl 10 ◌>>=◌
abbrev pub ◌>>=◌ : {A B : Type 0} → Read A → (A → Read B) → Read B
(Ok x) >>= f = f x
(Err e) >>= f = Err e

-- what the word with this number says, with what stands behind it, or that the word is not of its form
abbrev pub told : {A : Type 0} → ℕ → Option A → List ℕ → Read (A × List ℕ)
told number None rest = Err (BadWord number)
told number (Some value) rest = Ok (value, rest)

unfoldable pub word_at : ℕ → List ℕ → Read (List ℕ × List ℕ)
word_at number text = told number (any_word (first_word text)) (after_word text)

unfoldable pub number_at : ℕ → ℕ → ℕ → ℕ → List ℕ → Read (ℕ × List ℕ)
number_at digits low high number text = told number (number_within digits low high (first_word text)) (after_word text)

unfoldable pub size_at : ℕ → List ℕ → Read (ℕ × List ℕ)
size_at number text = told number (size_word (first_word text)) (after_word text)

-- all that stands after one blank, and nothing behind it
abbrev pub rest_of : List ℕ → Read (List ℕ × List ℕ)
rest_of text = Ok (drop 1 text, [])

-- no word has this number
unfoldable pub end_at : ℕ → List ℕ → Read (Unit {0})
end_at number text = if_any (any_word (first_word text))
  where
    if_any : Option (List ℕ) → Read (Unit {0})
    if_any None = Ok tt
    if_any (Some word) = Err (BadWord number)

-- the value of the word with this number, and what stands behind it
abbrev pub value_at : (form : Form) → ℕ → List ℕ → Read (Value form × List ℕ)
value_at Word number text = word_at number text
value_at (Number digits low high) number text = number_at digits low high number text
value_at Size number text = size_at number text
value_at Rest number text = rest_of text

-- the values of words of these forms, the first with this number, and no word behind them
abbrev pub values_at : (forms : List Form) → ℕ → List ℕ → Read (Values forms)
values_at [] number text = end_at number text
values_at (form ∷ forms) number text = value_at form number text >>= λ value. values_at forms (number + 1) value.1 >>= λ values. Ok (value.0, values)

-- what a reader read, with what it left, is what reading gives; want of memory aside
abbrev pub Reads : {X : Type 0} → Read X → List ℕ → Read (X × List ℕ) → Type 0
Reads (Ok x) left read = read ≡ Ok (x, left)
Reads (Err NotACommand) left read = read ≡ Err NotACommand
Reads (Err (BadWord number)) left read = read ≡ Err (BadWord number)
Reads (Err LineTooLong) left read = read ≡ Err LineTooLong
Reads (Err NoMemory) left read = Unit {0}
