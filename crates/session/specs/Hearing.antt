-- What a call that reads the next request of an input hears, and what one that writes an answer does.
use Rattle.std.specs.Prelude.{◌≡◌, ◌⊎◌, ◌<◌, ℕ, List, [], ◌∷◌, ◌++◌, length, Option, Bool, true, false, Result, Ok, Err}
use Rattle.std.specs.Io.KnownBytes.{Appends}
use Rattle.base.specs.Causes.{Rose}
use Rattle.outside.specs.Streams.{IsCut}
use Rattle.site_events.specs.declared.event.Asked.{Asked}
use Rattle.site_events.specs.declared.reply.LineRefusal.{LineRefusal}
use Rattle.site_events.specs.declared.reply.LineRefusal.TheVariants.{NoMemory as WantOfMemory}
use Rattle.site_events.specs.declared.reply.Reply.{Reply}
use Rattle.input.specs.Reading.{Reading, Items, Moved, MeetsEnd, StopsAtFault, StopsOverBudget}
use Rattle.session.specs.Requests.{Request}
use Rattle.session.specs.declared.kept.Ending.{Ending}
use Rattle.session.specs.declared.kept.Ending.TheVariants.{Ended, Closed, SourceFault, SinkFault, OverBudget, NoMemory}
use Rattle.session.specs.declared.heard.Heard.{Heard}
use Rattle.session.specs.declared.heard.Heard.TheVariants.{Skipped, Asks, Stopped}
use Rattle.session.specs.declared.heard.WriteRefusal.{WriteRefusal}
use Rattle.session.specs.declared.heard.WriteRefusal.TheVariants.{SinkFault as SinkFailed, NoMemory as NoTextMemory}

-- bytes were used, up to the end of what they ask or up to the end of the source
pub record Takes (asks : Items Request) (before now : Option (List ℕ)) (old new : Reading) (requests : List Request) : Type 0 where
  pub used : List ℕ
  pub moved : Moved before now old new used []
  pub was_open : old.ended ≡ false
  pub some : 0 < length used
  pub whole : new.ended ≡ false → (more : List ℕ) (ended : Bool) → asks (used ++ more) ended ≡ requests ++ asks more ended
  pub last : new.ended ≡ true → asks used true ≡ requests
  pub drained : new.ended ≡ true → new.held ≡ []

-- what a request asks was read, or no memory was found for it
abbrev pub IsReadAs : Result Asked LineRefusal → Result Asked LineRefusal → Type 0
IsReadAs read asked = (read ≡ asked) ⊎ (read ≡ Err WantOfMemory)

-- A request was read: what it asks, and the form that its answer has. `text` and `closes` say of each form how a reply is
-- written, and which replies end the session.
pub record IsHeardAs {F : Type 0} (text : F → Reply → List ℕ) (closes : F → Reply → Bool) (read : Result Asked LineRefusal) (form : F) (request : Request) : Type 0 where
  pub asks : IsReadAs read request.asked
  pub writes : request.text ≡ text form
  pub ends : request.closes ≡ closes form

-- nothing more is asked, for this reason
abbrev pub Stops : Items Request → Option (List ℕ) → Option (List ℕ) → ℕ → ℕ → Reading → Reading → Ending → Type 0
Stops asks before now faults faults' old new Ended = MeetsEnd asks before now old new
Stops asks before now faults faults' old new SourceFault = StopsAtFault asks before now old new × Rose faults faults'
Stops asks before now faults faults' old new OverBudget = StopsOverBudget asks before now old new
Stops asks before now faults faults' old new Closed = ⊥
Stops asks before now faults faults' old new SinkFault = ⊥
Stops asks before now faults faults' old new NoMemory = ⊥

-- bytes were read that ask nothing or one thing, or none were read
abbrev pub Hears : {F : Type 0} → Items Request → (F → Reply → List ℕ) → (F → Reply → Bool) → Option (List ℕ) → Option (List ℕ) → ℕ → ℕ → Reading → Reading → Heard F → Type 0
Hears asks text closes before now faults faults' old new Skipped = Takes asks before now old new []
Hears asks text closes before now faults faults' old new (Asks read form) = (request : Request) × IsHeardAs text closes read form request × Takes asks before now old new (request ∷ [])
Hears asks text closes before now faults faults' old new (Stopped ending) = Stops asks before now faults faults' old new ending

-- an answer was written whole; or the sink failed, and a first part of it was written; or no memory was found for it, and nothing was
abbrev pub Writes : {T : Type 0} → Option (List ℕ) → Option (List ℕ) → ℕ → ℕ → List ℕ → Result T WriteRefusal → Type 0
Writes written written' faults faults' text (Ok done) = Appends written written' text
Writes written written' faults faults' text (Err SinkFailed) = IsCut written written' text × Rose faults faults'
Writes written written' faults faults' text (Err NoTextMemory) = Appends written written' []
