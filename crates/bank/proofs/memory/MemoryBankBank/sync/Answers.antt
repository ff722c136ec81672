use Rattle.std.proofs.Common.{[], refl}
use Rattle.bank.specs.declared.call.BankCall.TheVariants.{Sync}
use Rattle.bank.proofs.Calls.{kept, durable}
use Rattle.bank.proofs.memory.MemoryBankBank.sync.Goals as goal

pub returns-clause-durable : goal.returns-clause-durable
returns-clause-durable c = durable c.args.self.now c.note.new.self c.note.ensures.recorded.began c.args.area 0 [] c.note.result c.note.ensures.recorded.ok

pub returns-clause-unchanged : goal.returns-clause-unchanged
returns-clause-unchanged c = kept c.args.self.now c.note.new.self c.note.ensures.recorded.began c.args.area 0 [] Sync c.note.result refl c.note.ensures.recorded.ok c.note.ensures.recorded.err
