-- What an event is answered with where nothing fails.
use Rattle.std.specs.Prelude.{ℕ, [], Option, Some, None}
use Rattle.site_events.specs.declared.reply.Reply.{Reply}
use Rattle.site_events.specs.declared.reply.Reply.TheVariants.{Refused, BankFault, FolderFault, BadJournal, NoMemory}
use Rattle.site_events.specs.declared.reply.Rule.{Rule}
use Rattle.site_types.specs.declared.step.StepKind.{StepKind}
use Rattle.site_history.specs.Steps.{HistoryStep}
use Rattle.site_history.specs.Running.{Running}

-- a reply, the step that it makes, if it makes one, and what runs then
pub record Answer : Type 0 where
  pub reply : Reply
  pub step : Option HistoryStep
  pub running : Running

-- nothing is done
abbrev pub tells : Running → Reply → Answer
tells running reply = record { reply = reply; step = None; running = running }

abbrev pub refused : Running → Rule → Answer
refused running rule = tells running (Refused rule)

-- a step is made
abbrev pub makes : Running → Reply → HistoryStep → Answer
makes running reply made = record { reply = reply; step = Some made; running = running }

-- the reply tells no fault of the store or of the folder, no bad journal and no want of memory
abbrev pub TellsNoFault : Reply → Type 0
TellsNoFault BankFault = ⊥
TellsNoFault FolderFault = ⊥
TellsNoFault (BadJournal place) = ⊥
TellsNoFault NoMemory = ⊥
TellsNoFault _ = Unit {0}

-- a step without bytes
abbrev pub bare_step : ℕ → StepKind → HistoryStep
bare_step moment kind = record { step = record { moment = moment; kind = kind }; bytes = [] }
