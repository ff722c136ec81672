-- A configuration: what it is answered, and the step that it makes.
use Rattle.std.specs.Prelude.{◌≡◌, ◌⊎◌, ℕ, nat_lt, Bool, not, if◌then◌else◌, Option, Some, None, option_map, [], length}
use Rattle.site_events.specs.declared.reply.Reply.{Reply}
use Rattle.site_events.specs.declared.reply.Reply.TheVariants.{Done, Refused, ConfRefused, BankFault, NoMemory}
use Rattle.site_events.specs.declared.reply.Rule.TheVariants.{TooLarge, Running as IsRunning}
use Rattle.site_types.specs.declared.file.SiteTexts.{SiteTexts}
use Rattle.site_types.specs.declared.step.StepKind.TheVariants.{Configured}
use Rattle.configuration.specs.declared.read.FileRefusal.{FileRefusal}
use Rattle.configuration.specs.ConfigurationRules.{AreWithin, IsFirstWrong}
use Rattle.configuration.specs.ConfigurationSteps.{are_within, refusal_of}
use Rattle.site_history.specs.Site.{Fields}
use Rattle.site_history.specs.Running.{Running}
use Rattle.site_history.specs.Replies.{Answer, tells, makes, bare_step}

-- a command file that is wrong is told by its first wrong line
abbrev pub conf_refused : FileRefusal → Reply
conf_refused refusal = ConfRefused refusal.file refusal.line refusal.fault

abbrev pub has_files : Fields → Bool
has_files fields = nat_lt 0 (length fields.files)

-- Why a site is not configured by these texts: a file is there, or a text is over its limit, or one is wrong at a line.
abbrev pub configure_refusal : Fields → SiteTexts → Option Reply
configure_refusal fields texts =
    if has_files fields then Some (Refused IsRunning) else
    if not (are_within texts) then Some (Refused TooLarge) else
    option_map conf_refused (refusal_of texts)

abbrev pub configure_answer_by : Option Reply → Running → ℕ → SiteTexts → Answer
configure_answer_by (Some reply) running moment texts = tells running reply
configure_answer_by None running moment texts = makes running (Done 0) (bare_step moment (Configured texts))

abbrev pub configure_answer : Fields → Running → ℕ → SiteTexts → Answer
configure_answer fields running moment texts = configure_answer_by (configure_refusal fields texts) running moment texts

-- A reply to a configuration by these texts tells that a command file is wrong where that file, at that line and with that fault, is
-- the first that is wrong, the site has no file and each text is within its limit, and nowhere else. A fault of the store or want
-- of memory may come before it.
pub record TellsFirstWrong (fields : Fields) (texts : SiteTexts) (reply : Reply) : Type 0 where
  pub nowhere_else : (refusal : FileRefusal) → reply ≡ conf_refused refusal → (fields.files ≡ []) × AreWithin texts × IsFirstWrong texts refusal
  pub there : (refusal : FileRefusal) → fields.files ≡ [] → AreWithin texts → IsFirstWrong texts refusal
      → (reply ≡ conf_refused refusal) ⊎ (reply ≡ BankFault) ⊎ (reply ≡ NoMemory)
