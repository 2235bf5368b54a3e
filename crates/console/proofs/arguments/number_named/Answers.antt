-- One digit more.
use Rattle.exact.proofs.Ground.{arith}
use Rattle.console.proofs.Named.{one-read}
use Rattle.console.proofs.arguments.number_named.Goals as goal

pub loop-byte-preserved : goal.loop-byte-preserved
loop-byte-preserved c =
    let l = c.loop-byte in
    rw c.from.ensures (one-read c.args.bytes.now l.byte-index l.invariant (omega arith) (omega arith) (omega arith))
