-- What the checks of a packet answer.
use Rattle.std.specs.Prelude.{◌≡◌, ℕ, ◌+◌, ◌≤◌, List, length, take, drop, Some, None, Ok, Err, Option, Result, slice_index}
use Rattle.refusal.specs.declared.Refusal.{Refusal}
use Rattle.packet.specs.Packets.{short, no_end, bad_sum, lawful, front, parsed}
use Rattle.packet.specs.declared.read.PacketFault.{PacketFault}
use Rattle.packet.specs.declared.read.PacketFault.TheVariants.{NoEnd, WrongSum}
use Rattle.packet.specs.declared.read.Packet.{Packet}

-- each fault of a packet with its number, its layer and its place
abbrev pub packet_refusal : PacketFault → Refusal
packet_refusal (NoEnd p) = record { number = 4; layer = 1; place = p }
packet_refusal (WrongSum p) = record { number = 5; layer = 1; place = p }

-- each answer by what stands at the front of the bytes
abbrev pub Reads : List ℕ → Option (Result Packet PacketFault) → Type 0
Reads w None = front w ≡ short
Reads w (Some (Err (NoEnd p))) = (front w ≡ no_end) × (p ≡ slice_index w 3 + 5)
Reads w (Some (Err (WrongSum p))) = (front w ≡ bad_sum) × (p ≡ slice_index w 3 + 4)
Reads w (Some (Ok q)) = (front w ≡ lawful (parsed w)) × (q.status ≡ slice_index w 1) × (q.kind ≡ slice_index w 2) × (q.data.now ≡ take (slice_index w 3) (drop 4 w)) × (length q.data.now ≤ 255)
