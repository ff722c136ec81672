-- What is known of each event, whatever the engine stands for.
use Rattle.std.specs.Prelude.{◌≡◌, ◌≢◌, ◌≤◌, ℕ, Bool, false, IsTrue}
use Rattle.bank.specs.Content.{Content}
use Rattle.bank.specs.View.{View}
use Rattle.site_events.specs.declared.reply.Reply.{Reply}
use Rattle.site_events.specs.declared.reply.Reply.TheVariants.{BankFault}
use Rattle.engine.specs.declared.engine.Engine.{Engine}
use Rattle.engine.specs.Counts.{IsRepliedFor}
use Rattle.engine.specs.Journals.{RepliesJournal}
use Rattle.site_history.specs.Terms.{Terms}

-- A fault that is told was counted, and a reopening is due only after one; no journal is called bad. The journal's size and the
-- patterns stay, and the store's instant is not earlier.
pub record IsServed {B P : Type 0} (tells : Bool) (view : B → View) (faults journal_faults last_fault : B → ℕ) (old new : Engine B P) (reply : Reply) : Type 0 where
  pub causes : IsRepliedFor faults journal_faults last_fault old.bank new.bank reply
  pub ready : reply ≢ BankFault → new.due ≡ false
  pub journal : (terms : Terms) (c : Content) → RepliesJournal terms c reply
  pub size : new.journal.size ≡ old.journal.size
  pub patterns : new.patterns ≡ old.patterns
  pub instant : IsTrue tells → (view old.bank).instant ≤ (view new.bank).instant
