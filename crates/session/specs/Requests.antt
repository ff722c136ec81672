-- What a session is asked.
use Rattle.std.specs.Prelude.{ℕ, List, Bool, Result}
use Rattle.site_events.specs.declared.event.Asked.{Asked}
use Rattle.site_events.specs.declared.reply.LineRefusal.{LineRefusal}
use Rattle.site_events.specs.declared.reply.LineRefusal.TheVariants.{NotACommand, BadWord, LineTooLong, NoMemory as WantOfMemory}
use Rattle.site_events.specs.declared.reply.Reply.{Reply}
use Rattle.site_events.specs.declared.reply.Reply.TheVariants.{Line, NoMemory}

-- A request: what it asks of the machine, or why it asks nothing; how each reply to it is written; and which replies end the
-- session.
pub record Request : Type 0 where
  pub asked : Result Asked LineRefusal
  pub text : Reply → List ℕ
  pub closes : Reply → Bool

-- what is replied to a request that is refused, or whose reading found no memory
abbrev pub reply_to : LineRefusal → Reply
reply_to NotACommand = Line NotACommand
reply_to (BadWord number) = Line (BadWord number)
reply_to LineTooLong = Line LineTooLong
reply_to WantOfMemory = NoMemory
