-- What a site answers to each event where nothing fails, a row for each kind, and the step that the answer makes.
use Rattle.std.specs.Prelude.{ℕ}
use Rattle.site_events.specs.declared.event.Event.{Event}
use Rattle.site_events.specs.declared.event.Event.TheVariants.{Put as PutEvent, Read as ReadEvent, Remove as RemoveEvent, Configure as ConfigureEvent}
use Rattle.site_events.specs.declared.reply.Reply.TheVariants.{Line}
use Rattle.site_events.specs.declared.reply.LineRefusal.TheVariants.{NotACommand}
use Rattle.site_history.specs.Terms.{Terms}
use Rattle.site_history.specs.Site.{Site, file_at}
use Rattle.site_history.specs.Running.{Running}
use Rattle.site_history.specs.Replies.{Answer, tells}
use Rattle.site_history.specs.FileAnswers.{put_answer, read_answer_of, remove_answer_of}
use Rattle.site_history.specs.ConfigureAnswers.{configure_answer}

-- What is answered to an event at a moment, while this runs. An event of a kind that is not served is no command.
abbrev pub answer_to : Terms → Site → Running → ℕ → Event → Answer
answer_to terms site running moment (PutEvent path owner group bytes) = put_answer site.fields running moment path owner group bytes
answer_to terms site running moment (ReadEvent path upto) = read_answer_of (file_at path site.fields.files) site.contents running moment upto
answer_to terms site running moment (RemoveEvent path) = remove_answer_of (file_at path site.fields.files) running moment
answer_to terms site running moment (ConfigureEvent texts) = configure_answer site.fields running moment texts
answer_to terms site running moment _ = tells running (Line NotACommand)
