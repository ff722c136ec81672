use Rattle.std.proofs.Common.{[], refl}
use Rattle.bank.specs.declared.call.BankCall.TheVariants.{Read}
use Rattle.bank.proofs.Calls.{kept, read_back}
use Rattle.bank.proofs.memory.MemoryBankBank.read.Goals as goal

pub returns-clause-bytes : goal.returns-clause-bytes
returns-clause-bytes c =
    read_back c.args.self.now c.note.new.self c.args.area c.args.place c.as_slice.result.now c.as_slice-2.result.now c.fill.new.piece c.as_slice.ensures c.as_slice-2.ensures
    (kept c.args.self.now c.note.new.self c.note.ensures.recorded.began c.args.area c.args.place [] Read c.note.result refl c.note.ensures.recorded.ok c.note.ensures.recorded.err)
    c.fill.ensures
