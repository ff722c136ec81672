-- What a store counted of the faults that are told.
use Rattle.std.specs.Prelude.{◌≡◌, ℕ, ◌≤◌, Result, IfErr, OnOk, OnErr}
use Rattle.base.specs.Causes.{Rose}
use Rattle.site_events.specs.declared.reply.Reply.{Reply}
use Rattle.site_events.specs.declared.reply.Reply.TheVariants as replies
use Rattle.engine.specs.declared.events.ShutCause.{ShutCause}
use Rattle.engine.specs.declared.events.ShutCause.TheVariants as causes

-- Calls on the cache leave the count of the journal's area, and that of all faults never falls. Where one of them failed it rose, and
-- the last fault was in area 1; where none did the last fault is the one from before.
pub record AreCountedInCache {B T E : Type 0} (faults journal_faults last_fault : B → ℕ) (old new : B) (result : Result T E) : Type 0 where
  pub later : faults old ≤ faults new
  pub journal : journal_faults new ≡ journal_faults old
  pub fault : OnErr result (Rose (faults old) (faults new))
  pub area : OnErr result (last_fault new ≡ 1)
  pub last : OnOk result (last_fault new ≡ last_fault old)

-- No count falls. Where a reading of the journal is refused for a fault, that of all faults and that of the journal's area rose.
pub record IsShutFor {B T : Type 0} (faults journal_faults : B → ℕ) (old new : B) (result : Result T ShutCause) : Type 0 where
  pub later : faults old ≤ faults new
  pub journal_later : journal_faults old ≤ journal_faults new
  pub fault : IfErr result (λ cause. cause ≡ causes.BankFault → Rose (faults old) (faults new))
  pub journal_fault : IfErr result (λ cause. cause ≡ causes.BankFault → Rose (journal_faults old) (journal_faults new))

-- No count falls. A reply tells a fault of the store only where that of all faults rose; and where the last fault was in area 0, that
-- of the journal's area did.
pub record IsRepliedFor {B : Type 0} (faults journal_faults last_fault : B → ℕ) (old new : B) (reply : Reply) : Type 0 where
  pub later : faults old ≤ faults new
  pub journal_later : journal_faults old ≤ journal_faults new
  pub fault : reply ≡ replies.BankFault → Rose (faults old) (faults new)
  pub journal_fault : reply ≡ replies.BankFault → last_fault new ≡ 0 → Rose (journal_faults old) (journal_faults new)
