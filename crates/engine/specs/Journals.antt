-- What a refused reopening tells of the journal.
use Rattle.bank.specs.Content.{Content}
use Rattle.site_events.specs.declared.reply.Reply.{Reply}
use Rattle.site_events.specs.declared.reply.Reply.TheVariants.{BadJournal as BadJournalReply}
use Rattle.site_history.specs.Terms.{Terms}
use Rattle.site_history.specs.Journals.{IsBadJournal}
use Rattle.engine.specs.declared.events.ShutCause.{ShutCause}
use Rattle.engine.specs.declared.events.ShutCause.TheVariants.{BankFault, BadJournal, NoMemory}

-- a bad journal is told where one stands
abbrev pub TellsJournal : Terms → Content → ShutCause → Type 0
TellsJournal terms c BankFault = Unit {0}
TellsJournal terms c NoMemory = Unit {0}
TellsJournal terms c (BadJournal place) = IsBadJournal terms c place

abbrev pub RepliesJournal : Terms → Content → Reply → Type 0
RepliesJournal terms c (BadJournalReply place) = IsBadJournal terms c place
RepliesJournal terms c _ = Unit {0}
