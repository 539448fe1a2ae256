use Rattle.std.proofs.Common.{◌<◌, length, ap, arith}
use Rattle.std.proofs.lemmas.List.{take_all}
use Rattle.packet.specs.Bytes.{sum}
use Rattle.packet.proofs.Sums.{sum_more}
use Rattle.packet.proofs.checksum.checksum.Goals as goal

pub loop-b-preserved : goal.loop-b-preserved
loop-b-preserved c =
    let lt : c.loop-b.b-index < length c.args.data.now = omega arith in
    omega (arith, sum_more c.args.data.now c.loop-b.b-index lt, c.loop-b.invariant)

pub returns : goal.returns
returns c = omega (arith, c.loop-b.invariant, ap sum (take_all c.loop-b.b-index c.args.data.now (omega arith)))
