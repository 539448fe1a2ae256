-- What is written reads back, and what was read is written as it was.
use Rattle.std.specs.Prelude.{◌≡◌, ℕ, ◌<◌, ◌≤◌, List, ◌++◌, length, slice_index}
use Rattle.packet.specs.Bytes.{AreBytes}
use Rattle.packet.specs.Packets.{Packet, frame, claimed, lawful, front}

-- bytes that begin with 02h and are one lawful packet, no byte more: written again, the packet is these bytes
abbrev pub LawfulPacketRewritesItself : Type 0
LawfulPacketRewritesItself = (w : List ℕ) (p : Packet) → AreBytes w → slice_index w 0 ≡ 2 → front w ≡ lawful p → length w ≡ claimed w → frame p ≡ w

-- status and type are bytes, and the data is at most 255 bytes
abbrev pub IsPacket : Packet → Type 0
IsPacket p = (p.status < 256) × (p.type < 256) × AreBytes p.content × (length p.content ≤ 255)

-- a written packet is bytes, and reads back as the same packet, whatever follows it
abbrev pub WrittenPacketReadsBack : Type 0
WrittenPacketReadsBack = (p : Packet) (rest : List ℕ) → IsPacket p → AreBytes (frame p) × (front (frame p ++ rest) ≡ lawful p)
