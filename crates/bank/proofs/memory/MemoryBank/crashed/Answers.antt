use Rattle.bank.proofs.Anew.{reads_as_began, leaves_what_it_reads}
use Rattle.bank.proofs.Crashes.{left_as_picked, left_is_image, left_since}
use Rattle.bank.proofs.memory.MemoryBank.crashed.Goals as goal

pub returns-clause-image : goal.returns-clause-image
returns-clause-image c =
    left_is_image c.args.self.now c.args.pick c.args.instant c.min-count.result c.loop-call.call-index c.as_slice-call-items.result.now c.loop-call.before.items c.as_slice.result.now
    c.in_ok-before-2.before.items c.from_vec.result c.as_slice-call-items.ensures c.loop-call.invariant c.loop-call-test.false c.as_slice.ensures (cc) c.in_ok-before-2.ensures c.from_vec.ensures

pub returns-clause-picked : goal.returns-clause-picked
returns-clause-picked c =
    left_as_picked c.args.self.now c.args.pick c.args.instant c.min-count.result c.loop-call.call-index c.as_slice-call-items.result.now c.loop-call.before.items c.as_slice.result.now
    c.in_ok-before-2.before.items c.from_vec.result c.as_slice-call-items.ensures c.loop-call.invariant c.loop-call-test.false c.as_slice.ensures (cc) c.in_ok-before-2.ensures c.from_vec.ensures

pub returns-clause-left : goal.returns-clause-left
returns-clause-left c = λ t le. left_since c.args.self.now c.args.instant t _ le (returns-clause-image c)

pub returns-clause-content : goal.returns-clause-content
returns-clause-content c = reads_as_began _ _ c.new.ensures

pub returns-clause-only : goal.returns-clause-only
returns-clause-only c = leaves_what_it_reads _ _ c.new.ensures
