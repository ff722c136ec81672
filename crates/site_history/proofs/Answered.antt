-- Each step that is answered may come: `answered`. It is of the answer's moment, and has the bytes that it says.
use Rattle.std.proofs.Common.{◌≡◌, ℕ, ◌≤◌, ◌<◌, ◌^◌, List, length, refl, Option, Some, None}
use Rattle.site_events.specs.declared.event.Event.{Event}
use Rattle.site_events.specs.declared.event.Event.TheVariants.{Put as PutEvent, Read as ReadEvent, Remove as RemoveEvent, Configure as ConfigureEvent}
use Rattle.site_types.specs.declared.file.FileRec.{FileRec}
use Rattle.site_types.specs.declared.file.SiteTexts.{SiteTexts}
use Rattle.site_types.specs.declared.step.StepKind.{StepKind}
use Rattle.site_types.specs.declared.step.StepKind.TheVariants.{Accessed, Removed}
use Rattle.site_types.specs.Ranges.{IsInode, Ranges}
use Rattle.site_events.specs.declared.reply.Reply.{Reply}
use Rattle.site_events.specs.declared.reply.Rule.{Rule}
use Rattle.site_history.specs.Terms.{Terms}
use Rattle.site_history.specs.Site.{Site, file_at}
use Rattle.site_history.specs.Steps.{HistoryStep, MayCome, IsLegal, HasBytes}
use Rattle.site_history.specs.Changes.{IsThere}
use Rattle.site_history.specs.Replies.{bare_step}
use Rattle.site_history.specs.Running.{Running}
use Rattle.site_history.specs.Answers.{answer_to}
use Rattle.site_history.specs.ConfigureAnswers.{configure_refusal, configure_answer_by}
use Rattle.site_history.specs.FileAnswers.{put_rule, put_answer_by, read_answer_of, remove_answer_of}
use Rattle.site_history.proofs.KeptLaws.{found-file}
use Rattle.site_history.specs.Kept.{IsKept}
use Rattle.site_history.proofs.Puts.{put_legal}
use Rattle.site_history.proofs.Accesses.{bare_legal}
use Rattle.site_history.proofs.Configuring.{configure-admitted, configure-legal}

-- a step that may come at a moment
pub record MayBeMade (terms : Terms) (site : Site) (moment : ℕ) (made : HistoryStep) : Type 0 where
  pub legal : IsLegal terms site.fields made.step
  pub bytes : HasBytes made
  pub moment_is : made.step.moment ≡ moment

abbrev pub StepMayBeMade : (terms : Terms) → Site → ℕ → Option HistoryStep → Type 0
StepMayBeMade terms site moment None = Unit {0}
StepMayBeMade terms site moment (Some made) = MayBeMade terms site moment made

module _ (terms : Terms) (count : ℕ) (site : Site) (kept : IsKept count site.fields) (running : Running) (moment : ℕ) (later : site.fields.moment ≤ moment) (range : moment < 2 ^ 40) where
  put_by : (path owner group bytes : List ℕ) (o : Option Rule) → put_rule site.fields path owner group (length bytes) ≡ o
      → StepMayBeMade terms site moment (put_answer_by o site.fields running moment path owner group bytes).step
  put_by path owner group bytes (Some rule) e = tt
  put_by path owner group bytes None e = record { legal = put_legal terms count site.fields kept path owner group (length bytes) e moment later range; bytes = refl; moment_is = refl }

  -- a step of the file of a path, which may come where a file of its inode is there
  of_file : (path : List ℕ) (file : FileRec) → file_at path site.fields.files ≡ Some file → (kind : ℕ → StepKind) → ((inode : ℕ) → IsInode inode → Ranges (kind inode))
      → ((inode : ℕ) → IsThere site.fields inode → MayCome terms site.fields moment (kind inode)) → ((inode : ℕ) → HasBytes (bare_step moment (kind inode)))
      → MayBeMade terms site moment (bare_step moment (kind file.inode))
  of_file path file e kind ranges rule bytes =
      let of = (found-file count site.fields kept path file e).0 in
      record { legal = bare_legal terms site.fields moment later range (kind file.inode) (ranges file.inode of.inode) (rule file.inode of.there); bytes = bytes file.inode; moment_is = refl }

  read_by : (path : List ℕ) (upto : ℕ) (o : Option FileRec) → file_at path site.fields.files ≡ o → StepMayBeMade terms site moment (read_answer_of o site.contents running moment upto).step
  read_by path upto None e = tt
  read_by path upto (Some file) e = of_file path file e (λ inode. Accessed inode) (λ inode is. is) (λ inode there. there) (λ inode. refl)

  remove_by : (path : List ℕ) (o : Option FileRec) → file_at path site.fields.files ≡ o → StepMayBeMade terms site moment (remove_answer_of o running moment).step
  remove_by path None e = tt
  remove_by path (Some file) e = of_file path file e (λ inode. Removed inode) (λ inode is. is) (λ inode there. there) (λ inode. refl)

  configure_by : (texts : SiteTexts) (o : Option Reply) → configure_refusal site.fields texts ≡ o → StepMayBeMade terms site moment (configure_answer_by o running moment texts).step
  configure_by texts (Some reply) e = tt
  configure_by texts None e =
      let admitted = configure-admitted site.fields texts e in
      record { legal = configure-legal terms site.fields moment texts admitted.no_file admitted.within admitted.read later range; bytes = refl; moment_is = refl }

  -- the step of an answer
  pub answered : (event : Event) → StepMayBeMade terms site moment (answer_to terms site running moment event).step
  answered (PutEvent path owner group bytes) = put_by path owner group bytes (put_rule site.fields path owner group (length bytes)) refl
  answered (ReadEvent path upto) = read_by path upto (file_at path site.fields.files) refl
  answered (RemoveEvent path) = remove_by path (file_at path site.fields.files) refl
  answered (ConfigureEvent texts) = configure_by texts (configure_refusal site.fields texts) refl
  answered _ = tt
