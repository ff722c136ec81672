-- A line says one thing, or one thing is wrong with it.
use Rattle.std.proofs.Common.{◌≡◌, ℕ, ◌<◌, ◌≤◌, List, length, Option, Some, None, Ok, Err, refl, sym, ap, subst, ◌∙◌, ◌⊎◌, inl, inr}
use Rattle.std.proofs.lemmas.Bool.{cases_lt}
use Rattle.site_text.specs.Words.{named}
use Rattle.site_events.specs.declared.event.Asked.{Asked}
use Rattle.site_events.specs.declared.reply.LineRefusal.{LineRefusal}
use Rattle.site_events.specs.declared.reply.LineRefusal.TheVariants.{NotACommand, BadWord, LineTooLong, NoMemory}
use Rattle.desk.specs.declared.commands.Command.{Command}
use Rattle.desk.specs.Forms.{Read, ◌>>=◌, Values, first_word, after_word, values_at}
use Rattle.desk.specs.Asks.{commands, forms_of, asked_with, asked_by, command_of, asked_of}
use Rattle.desk.specs.Says.{WordStands, Names, LineAsks, LineWrong}
use Rattle.desk.proofs.Facts.{asked_of-short, asked_of-long}
use Rattle.desk.proofs.WordCuts.{Front, front_of, first_is, after_is, blank_has_none}
use Rattle.desk.proofs.WordLaws.{Refused, Judges, judged, reads, refuses}

abbrev JudgesLine : List ℕ → Read Asked → Type 0
JudgesLine line (Ok asked) = LineAsks line asked
JudgesLine line (Err e) = LineWrong line e

-- ---- from reading to meaning

bad_word : (line : List ℕ) (command : Command) (e : LineRefusal) → length line ≤ 4096 → Names line command (after_word line) → Refused (forms_of command) 2 (after_word line) e → LineWrong line e
bad_word line command e short names refused =
    subst (LineWrong line) (sym refused.is) (short, record { command = command; rest = after_word line; names = names; wrong = refused.wrong })

values_judged : (line : List ℕ) (command : Command) (read : Read (Values (forms_of command))) → length line ≤ 4096 → Names line command (after_word line) → Judges (forms_of command) 2 (after_word line) read
    → JudgesLine line (read >>= λ values. Ok (asked_with command values))
values_judged line command (Ok values) short names says = record {
  short = short;
  command = command;
  rest = after_word line;
  names = names;
  values = values;
  says = says;
  is = refl;
}
values_judged line command (Err e) short names refused = bad_word line command e short names refused

names_by : (line : List ℕ) (found : Option Command) → named commands (first_word line) ≡ found → length line ≤ 4096 → WordStands line (first_word line) (after_word line) → JudgesLine line (command_of line)
unfolding command_of asked_by
names_by line None is short stands = rw is (short, inr (record { name = first_word line; rest = after_word line; stands = stands; unknown = is }))
names_by line (Some command) is short stands = rw is (values_judged line command (values_at (forms_of command) 2 (after_word line)) short
    (record { name = first_word line; stands = stands; named = is }) (judged (forms_of command) 2 (after_word line)))

short_judged : (line : List ℕ) → length line ≤ 4096 → Front line → JudgesLine line (command_of line)
unfolding command_of
short_judged line short (inl blank) = rw (blank_has_none line blank) (short, inl blank)
short_judged line short (inr stands) = names_by line (named commands (first_word line)) refl short stands

line_by : (line : List ℕ) → (4096 < length line) ⊎ (length line ≤ 4096) → JudgesLine line (asked_of line)
line_by line (inl long) = rw (asked_of-long line long) long
line_by line (inr short) = rw (asked_of-short line short) (short_judged line short (front_of line))

line_judged : (line : List ℕ) → JudgesLine line (asked_of line)
line_judged line = line_by line (cases_lt 4096 (length line))

pub line_said : (line : List ℕ) (asked : Asked) → asked_of line ≡ Ok asked → LineAsks line asked
line_said line asked is = subst (JudgesLine line) is (line_judged line)

pub line_wrong : (line : List ℕ) (e : LineRefusal) → asked_of line ≡ Err e → LineWrong line e
line_wrong line e is = subst (JudgesLine line) is (line_judged line)

-- ---- from meaning to reading

command_reads : (line : List ℕ) (command : Command) (rest : List ℕ) → Names line command rest → command_of line ≡ asked_by command rest
unfolding command_of
command_reads line command rest names = rw (first_is line names.name rest names.stands, names.named, after_is line names.name rest names.stands) refl

pub line_reads : (line : List ℕ) (asked : Asked) → LineAsks line asked → asked_of line ≡ Ok asked
unfolding asked_by
line_reads line asked asks =
    asked_of-short line asks.short ∙ command_reads line asks.command asks.rest asks.names
    ∙ rw (reads (forms_of asks.command) 2 asks.rest asks.values asks.says) (ap (λ (a : Asked). Ok a) (sym asks.is))

pub line_refuses : (line : List ℕ) (e : LineRefusal) → LineWrong line e → asked_of line ≡ Err e
unfolding command_of asked_by
line_refuses line LineTooLong long = asked_of-long line long
line_refuses line NotACommand (short, inl blank) = asked_of-short line short ∙ rw (blank_has_none line blank) refl
line_refuses line NotACommand (short, inr none) = asked_of-short line short ∙ rw (first_is line none.name none.rest none.stands, none.unknown) refl
line_refuses line (BadWord number) (short, bad) =
    asked_of-short line short ∙ command_reads line bad.command bad.rest bad.names ∙ rw (refuses (forms_of bad.command) 2 bad.rest number bad.wrong) refl
line_refuses line NoMemory wrong = absurd wrong
