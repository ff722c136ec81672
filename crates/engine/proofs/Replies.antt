-- A reply that tells no fault.
use Rattle.std.proofs.Common.{◌≡◌, ℕ, refl, subst}
use Rattle.bank.specs.Content.{Content}
use Rattle.site_events.specs.declared.reply.Reply.{Reply}
use Rattle.site_events.specs.declared.reply.Reply.TheVariants.{BankFault, BadJournal, NoMemory}
use Rattle.site_history.specs.Terms.{Terms}
use Rattle.site_history.specs.Replies.{TellsNoFault}
use Rattle.site_history.specs.Turns.{Goes, course_of}
use Rattle.engine.specs.Journals.{RepliesJournal}

-- is given as it is defined
pub course_goes : (reply : Reply) (area : ℕ) → TellsNoFault reply → course_of reply area ≡ Goes
course_goes BankFault area h = absurd h
course_goes NoMemory area h = absurd h
course_goes _ area h = refl

-- calls no journal bad
pub no_bad_journal : (terms : Terms) (c : Content) (reply : Reply) → TellsNoFault reply → RepliesJournal terms c reply
no_bad_journal terms c (BadJournal place) h = absurd h
no_bad_journal terms c _ h = tt

-- and is not that of a fault
pub no_fault : (reply : Reply) → TellsNoFault reply → reply ≡ BankFault → ⊥
no_fault reply h e = subst (λ (r : Reply). TellsNoFault r) e h
