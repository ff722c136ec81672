use Rattle.bank.proofs.Calls.{written}
use Rattle.bank.proofs.memory.MemoryBankBank.write.Goals as goal

pub returns-clause-written : goal.returns-clause-written
returns-clause-written c = written c.args.self.now c.note.new.self c.note.ensures.recorded.began c.args.area c.args.place c.args.bytes.now c.note.result c.note.ensures.recorded.ok
