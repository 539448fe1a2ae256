use Rattle.std.proofs.Common.{arith, rules}
use Rattle.packet.proofs.Writes.{all_written}
use Rattle.packet.proofs.write.write.Goals as goal

pub returns : goal.returns
returns c =
    let wrote : _ = all_written c.args.status c.args.kind c.checksum-sum.result c.args.data.now c.args.out.now c.copy_from_slice.new.self (omega arith) c.copy_from_slice.ensures.after in
    record { answer = search rules; bytes = search rules }
