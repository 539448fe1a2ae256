use Rattle.std.proofs.Common.{◌≡◌, ◌+◌, ◌%◌, length, take}
use Rattle.packet.specs.Bytes.{sum}
use Rattle.packet.proofs.checksum.checksum.Given as goal

abbrev pub invariant-loop-b : goal.invariant-loop-b
invariant-loop-b l = l.sum ≡ (l.status + l.kind + length l.data + sum (take l.b-index l.data)) % 256
