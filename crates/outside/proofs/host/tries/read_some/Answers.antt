use Rattle.std.proofs.KnownBytes.{Keeps-refl, Keeps-trans}
use Rattle.outside.proofs.Tries.{read_after}
use Rattle.outside.proofs.host.tries.read_some.Goals as goal

-- src/host/tries.rt:15:5
pub loop-init : goal.loop-init
loop-init g c = Keeps-refl (g.R.Read.remaining c.args.reader.now)

-- src/host/tries.rt:18:23
pub returns-in_default-clause-bytes : goal.returns-in_default-clause-bytes
returns-in_default-clause-bytes g c =
    Keeps-trans (g.R.Read.remaining c.args.reader.now) (g.R.Read.remaining c.loop.reader) (g.R.Read.remaining c.read.new.self) c.loop.invariant c.in-Err.ensures.bytes

-- src/host/tries.rt:18:23
pub returns-in_default-2-clause-bytes : goal.returns-in_default-2-clause-bytes
returns-in_default-2-clause-bytes g c =
    read_after (g.R.Read.remaining c.args.reader.now) (g.R.Read.remaining c.loop.reader) (g.R.Read.remaining c.read.new.self) c.read.result c.read.new.buf c.loop.invariant c.read.ensures.bytes

-- src/host/tries.rt:15:5
pub loop-preserved : goal.loop-preserved
loop-preserved g c =
    Keeps-trans (g.R.Read.remaining c.args.reader.now) (g.R.Read.remaining c.loop.reader) (g.R.Read.remaining c.read.new.self) c.loop.invariant c.in-Err.ensures.bytes

-- src/host/tries.rt:11:1
pub returns-clause-bytes : goal.returns-clause-bytes
returns-clause-bytes g c = c.loop.invariant
