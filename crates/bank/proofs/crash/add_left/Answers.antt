use Rattle.std.proofs.Common.{◌==◌, reverse, sym}
use Rattle.bank.specs.Past.{content_of}
use Rattle.bank.proofs.Crashes.{left_step}
use Rattle.bank.proofs.crash.add_left.Goals as goal

pub loop-i-preserved : goal.loop-i-preserved
loop-i-preserved c = λ start a k.
    left_step (content_of start (reverse c.args.before.items)) (c.args.pick == 0) (c.args.pick == 1) 165 c.args.calls.now c.loop-i.i c.index-calls-i.result c.is_synced-synced.result a k
    (content_of start (reverse c.loop-i.left.items) a k) (content_of start (reverse c.add_one.new.left.items) a k)
    c.loop-i-test.true (sym c.index-calls-i.is) c.is_synced-synced.ensures (c.loop-i.invariant start a k) (c.in_ok-add_one.ensures start a k)
