-- The packet layout, and the two checks of a packet.
use Rattle.std.specs.Prelude.{ℕ, ◌+◌, ◌%◌, cond, List, [], ◌∷◌, ◌++◌, length, take, drop, ◌==◌, nat_lt, slice_index}
use Rattle.packet.specs.Bytes.{sum}

-- a packet: its status, its type and its data
pub record Packet : Type 0 where
  pub status : ℕ
  pub type : ℕ
  pub content : List ℕ

-- the sum of status, type, length and all data bytes modulo 256
abbrev pub checksum_of : Packet → ℕ
checksum_of p = (p.status + p.type + length p.content + sum p.content) % 256

-- the bytes of a packet
abbrev pub frame : Packet → List ℕ
frame p = 2 ∷ p.status ∷ p.type ∷ length p.content ∷ (p.content ++ (checksum_of p ∷ 3 ∷ []))

-- the bytes of packets, one behind the other
abbrev pub frames : List Packet → List ℕ
frames [] = []
frames (p ∷ ps) = frame p ++ frames ps

-- the size of the packet that a list of at least four bytes would be the start of
abbrev pub claimed : List ℕ → ℕ
claimed w = slice_index w 3 + 6

-- that packet
abbrev pub parsed : List ℕ → Packet
parsed w = record { status = slice_index w 1; type = slice_index w 2; content = take (slice_index w 3) (drop 4 w) }

-- what stands behind a start byte: too few bytes, no end byte, a wrong checksum, or a lawful packet
pub data Front : Type 0 where
  short : Front
  no_end : Front
  bad_sum : Front
  lawful : Packet → Front

-- the end byte is there: what the checksum says
abbrev pub checked_sum : List ℕ → Front
checked_sum w = cond (slice_index w (slice_index w 3 + 4) == checksum_of (parsed w)) (lawful (parsed w)) bad_sum

-- all claimed bytes are there: what the end byte and then the checksum say
abbrev pub checked_end : List ℕ → Front
checked_end w = cond (slice_index w (slice_index w 3 + 5) == 3) (checked_sum w) no_end

-- what stands at the front of a stream whose first byte is the start byte
abbrev pub front : List ℕ → Front
front w = cond (nat_lt (length w) 4) short (cond (nat_lt (length w) (claimed w)) short (checked_end w))
