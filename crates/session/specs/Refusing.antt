-- What is answered where a store was not opened.
use Rattle.std.specs.Prelude.{ℕ, List, [], Option}
use Rattle.std.specs.Io.KnownBytes.{Appends}
use Rattle.outside.specs.Streams.{IsWritten}
use Rattle.site_events.specs.declared.reply.Reply.{Reply}
use Rattle.desk.specs.Texts.{text_of}
use Rattle.engine.specs.declared.events.ShutCause.{ShutCause}
use Rattle.engine.specs.declared.events.ShutCause.TheVariants.{BankFault, BadJournal, NoMemory}

abbrev pub status_of_shut : ShutCause → ℕ
status_of_shut BankFault = 3
status_of_shut NoMemory = 9
status_of_shut (BadJournal place) = 2

-- a bad journal is told by its line, which is cut off where the sink fails
abbrev pub WritesRefusal : Option (List ℕ) → Option (List ℕ) → ℕ → ℕ → ShutCause → Type 0
WritesRefusal written written' faults faults' BankFault = Appends written written' []
WritesRefusal written written' faults faults' NoMemory = Appends written written' []
WritesRefusal written written' faults faults' (BadJournal place) = IsWritten written written' faults faults' (text_of (Reply.BadJournal place))
