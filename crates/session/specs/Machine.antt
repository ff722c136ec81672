-- What is answered where nothing fails: a function of what is asked.
use Rattle.std.specs.Prelude.{◌≡◌, ℕ, max, List, [], ◌∷◌, ◌++◌, Bool, if◌then◌else◌, Option, Some, None, Result, Ok, Err}
use Rattle.outside.specs.declared.folder.NamedText.{NamedText}
use Rattle.outside.specs.Moments.{next_moment, moments_after}
use Rattle.site_events.specs.declared.event.Asked.{Asked}
use Rattle.site_events.specs.declared.event.Asked.TheVariants.{One, At as AskedAt, Configure}
use Rattle.site_events.specs.declared.event.Event.{Event}
use Rattle.site_events.specs.declared.event.Event.TheVariants.{Configure as ConfigureEvent}
use Rattle.site_types.specs.declared.file.SiteTexts.{SiteTexts}
use Rattle.site_events.specs.declared.reply.LineRefusal.{LineRefusal}
use Rattle.site_events.specs.declared.reply.LineRefusal.TheVariants.{NotACommand}
use Rattle.site_events.specs.declared.reply.Reply.{Reply}
use Rattle.site_events.specs.declared.reply.Reply.TheVariants.{Line, At}
use Rattle.configuration.specs.FolderTexts.{texts_in}
use Rattle.site_types.specs.Texts.{no_texts}
use Rattle.site_history.specs.Terms.{Terms}
use Rattle.site_history.specs.Replies.{Answer}
use Rattle.site_history.specs.Worlds.{World}
use Rattle.site_history.specs.Turns.{moment_of, answer_in, answered_in, IsReply}
use Rattle.session.specs.Requests.{Request}
use Rattle.session.specs.Rounds.{Phase, Round, own}

-- a reply, and where the session stands after it
pub record Response : Type 0 where
  pub reply : Reply
  pub after : Phase

-- the next moment of a clock that tells its moments; of one that tells nothing no moment is fixed
abbrev pub moment_told : Option (List ℕ) → ℕ
moment_told None = 0
moment_told (Some moments) = next_moment moments

-- the moments that are then to come
abbrev pub moments_then : Option (List ℕ) → Option (List ℕ)
moments_then None = None
moments_then (Some moments) = Some (moments_after moments)

abbrev pub event_responds_by : World → Option (List ℕ) → ℕ → Answer → Response
event_responds_by w moments moment answer = record { reply = answer.reply; after = record { world = answered_in answer moment w; moments = moments } }

-- what the machine tells to an event
abbrev pub event_responds : Terms → Phase → Event → Response
event_responds terms phase event = let moment = moment_of phase.world.clock (moment_told phase.moments) in
    event_responds_by phase.world (moments_then phase.moments) moment (answer_in terms phase.world moment event)

-- the session has a moment of its own from then on
abbrev pub moved_to : Phase → ℕ → Response
moved_to phase moment = record { reply = At moment; after = record { world = phase.world; moments = own moment } }

-- what the machine tells, where these texts are read of the folder
abbrev pub machine_responds : Terms → SiteTexts → Phase → Result Asked LineRefusal → Response
machine_responds terms texts phase (Err refusal) = record { reply = Line refusal; after = phase }
machine_responds terms texts phase (Ok (One event)) = event_responds terms phase event
machine_responds terms texts phase (Ok (AskedAt moment)) = moved_to phase (max moment (moment_told phase.moments))
machine_responds terms texts phase (Ok Configure) = event_responds terms phase (ConfigureEvent texts)
machine_responds terms texts phase (Ok _) = record { reply = Line NotACommand; after = phase }

abbrev pub machine_run : Terms → SiteTexts → Phase → List Request → List Response
machine_run terms texts phase [] = []
machine_run terms texts phase (request ∷ requests) =
    machine_responds terms texts phase request.asked ∷ machine_run terms texts (machine_responds terms texts phase request.asked).after requests

-- the texts that are read of a folder which tells them; of one that tells nothing no text is fixed
abbrev pub texts_told : Option (List NamedText) → SiteTexts
texts_told None = no_texts
texts_told (Some folder) = texts_in folder

-- each round went as the machine tells; where the store tells nothing, the bytes of a reply are right in their number alone
abbrev pub AreResponses : Bool → List Round → List Response → Type 0
AreResponses tells [] [] = Unit {0}
AreResponses tells (round ∷ rounds) (response ∷ more) = IsReply tells response.reply round.reply × (round.after ≡ response.after) × AreResponses tells rounds more
AreResponses tells [] (response ∷ more) = ⊥
AreResponses tells (round ∷ rounds) [] = ⊥

-- what the machine writes for these requests, up to the first reply that ends the session
abbrev pub output_of : Terms → SiteTexts → Phase → List Request → List ℕ
output_of terms texts phase [] = []
output_of terms texts phase (request ∷ requests) = let response = machine_responds terms texts phase request.asked in
    request.text response.reply ++ (if request.closes response.reply then [] else output_of terms texts response.after requests)
