-- What the lines of a script ask.
use Rattle.std.specs.Prelude.{if◌then◌else◌, Bool, true, false, Result, Err, List, [], ◌∷◌, flat_map}
use Rattle.site_events.specs.declared.event.Asked.{Asked}
use Rattle.site_events.specs.declared.reply.LineRefusal.{LineRefusal}
use Rattle.site_events.specs.declared.reply.LineRefusal.TheVariants.{LineTooLong}
use Rattle.site_events.specs.declared.reply.Reply.{Reply}
use Rattle.site_events.specs.declared.reply.Reply.TheVariants.{BadJournal}
use Rattle.desk.specs.Asks.{is_skipped, asked_of}
use Rattle.desk.specs.Texts.{text_of}
use Rattle.input.specs.Lines.{RawLine, Kept, Long, raw_lines}
use Rattle.input.specs.Reading.{Items}
use Rattle.session.specs.Requests.{Request}

-- whether an answer ends a run of lines: a bad journal does
abbrev pub ends_run : Reply → Bool
ends_run (BadJournal place) = true
ends_run _ = false

-- the request of a line that asks this: its answer is the text of the reply
abbrev pub line_request : Result Asked LineRefusal → Request
line_request asked = record { asked = asked; text = text_of; closes = ends_run }

-- a line asks one thing, or it is skipped; one that is too long is refused
abbrev pub requests_of : RawLine → List Request
requests_of (Kept line) = if is_skipped line then [] else line_request (asked_of line) ∷ []
requests_of Long = line_request (Err LineTooLong) ∷ []

-- what a text asks, whose end was met or not
abbrev pub asks_of : Items Request
asks_of bytes ended = flat_map requests_of (raw_lines bytes ended)
