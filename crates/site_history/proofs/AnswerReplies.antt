-- What is answered tells no fault: `answer_tells_no_fault`, a row for each kind of event.
use Rattle.std.proofs.Common.{ℕ, List, length, Bool, true, false, not, cond, Option, Some, None, IfSome}
use Rattle.std.specs.Prelude.{option_map}
use Rattle.site_events.specs.declared.event.Event.{Event}
use Rattle.site_events.specs.declared.event.Event.TheVariants.{Put as PutEvent, Read as ReadEvent, Remove as RemoveEvent, Configure as ConfigureEvent}
use Rattle.site_events.specs.declared.reply.Reply.{Reply}
use Rattle.site_events.specs.declared.reply.Rule.{Rule}
use Rattle.site_types.specs.declared.file.FileRec.{FileRec}
use Rattle.site_types.specs.declared.file.SiteTexts.{SiteTexts}
use Rattle.configuration.specs.declared.read.FileRefusal.{FileRefusal}
use Rattle.configuration.specs.ConfigurationSteps.{refusal_of, are_within}
use Rattle.site_history.specs.Terms.{Terms}
use Rattle.site_history.specs.Site.{Fields, Site, file_at}
use Rattle.site_history.specs.Running.{Running}
use Rattle.site_history.specs.Answers.{answer_to}
use Rattle.site_history.specs.ConfigureAnswers.{conf_refused, has_files, configure_refusal, configure_answer_by}
use Rattle.site_history.specs.FileAnswers.{put_rule, put_answer_by, read_answer_of, remove_answer_of}
use Rattle.site_history.specs.Replies.{TellsNoFault}

-- a refusal of a configuration, if there is one
abbrev NoneTellsFault : Option Reply → Type 0
NoneTellsFault refusal = IfSome refusal TellsNoFault

first_refusal : (t : Bool) (a b : Option Reply) → NoneTellsFault a → NoneTellsFault b → NoneTellsFault (cond t a b)
first_refusal true a b h k = h
first_refusal false a b h k = k

wrong_file : (refusal : Option FileRefusal) → NoneTellsFault (option_map conf_refused refusal)
wrong_file None = tt
wrong_file (Some refusal) = tt

configure_tells : (fields : Fields) (texts : SiteTexts) → NoneTellsFault (configure_refusal fields texts)
configure_tells fields texts = first_refusal (has_files fields) _ _ tt (first_refusal (not (are_within texts)) _ _ tt (wrong_file (refusal_of texts)))

module _ (terms : Terms) (site : Site) (running : Running) (moment : ℕ) where
  put_by : (path owner group bytes : List ℕ) (o : Option Rule) → TellsNoFault (put_answer_by o site.fields running moment path owner group bytes).reply
  put_by path owner group bytes None = tt
  put_by path owner group bytes (Some rule) = tt

  read_by : (upto : ℕ) (o : Option FileRec) → TellsNoFault (read_answer_of o site.contents running moment upto).reply
  read_by upto None = tt
  read_by upto (Some file) = tt

  remove_by : (o : Option FileRec) → TellsNoFault (remove_answer_of o running moment).reply
  remove_by None = tt
  remove_by (Some file) = tt

  configure_by : (texts : SiteTexts) (o : Option Reply) → NoneTellsFault o → TellsNoFault (configure_answer_by o running moment texts).reply
  configure_by texts None tells = tt
  configure_by texts (Some reply) tells = tells

  pub answer_tells_no_fault : (event : Event) → TellsNoFault (answer_to terms site running moment event).reply
  answer_tells_no_fault (PutEvent path owner group bytes) = put_by path owner group bytes (put_rule site.fields path owner group (length bytes))
  answer_tells_no_fault (ReadEvent path upto) = read_by upto (file_at path site.fields.files)
  answer_tells_no_fault (RemoveEvent path) = remove_by (file_at path site.fields.files)
  answer_tells_no_fault (ConfigureEvent texts) = configure_by texts (configure_refusal site.fields texts) (configure_tells site.fields texts)
  answer_tells_no_fault _ = tt
