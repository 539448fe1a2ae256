-- How a report is laid in pages, and what the page writer answers.
use Rattle.std.specs.Prelude.{ℕ, zero, suc, ◌+◌, ◌-◌, ◌*◌, ◌/◌, cond, List, [], ◌∷◌, ◌++◌, length, take, drop, Ok, Err, Result, nat_le, nat_lt}
use Rattle.packet.specs.Packets.{Packet, frames}
use Rattle.packet.specs.declared.write.WriteFault.{WriteFault}
use Rattle.packet.specs.declared.write.WriteFault.TheVariants.{TooLong, NoRoom, KeyTooGreat}
use Rattle.paging.specs.Schemes.{Scheme}

-- the bytes of a report that a full page holds
abbrev pub body_size : Scheme → ℕ
body_size s = 255 - s.header

-- the pages of a report of n bytes: full ones, and a last one that has the rest; an empty report has one empty page
abbrev pub page_count : Scheme → ℕ → ℕ
page_count s n = (n - 1) / body_size s + 1

-- what a page holds of the report, behind n full pages
abbrev pub part_of : Scheme → List ℕ → ℕ → List ℕ
part_of s report n = take (body_size s) (drop (n * body_size s) report)

-- the packet of page n + 1
abbrev pub page_of : Scheme → ℕ → ℕ → List ℕ → ℕ → Packet
page_of s key total report n = record { status = 0; type = s.type; content = s.write (record { key = key; page = n + 1; total = total }) ++ part_of s report n }

-- the packets of k pages, from page n + 1 on
abbrev pub pages_from : Scheme → ℕ → ℕ → List ℕ → ℕ → ℕ → List Packet
pages_from s key total report n zero = []
pages_from s key total report n (suc k) = page_of s key total report n ∷ pages_from s key total report (n + 1) k

-- the packets of all its pages
abbrev pub pages_of : Scheme → ℕ → List ℕ → List Packet
pages_of s key report = pages_from s key (page_count s (length report)) report 0 (page_count s (length report))

-- their bytes, one packet behind the other
abbrev pub written : Scheme → ℕ → List ℕ → List ℕ
written s key report = frames (pages_of s key report)

-- the answer for a destination of so many bytes: the report is too long, then the key too great, then there is no room
abbrev pub report_sent : Scheme → ℕ → List ℕ → ℕ → Result ℕ WriteFault
report_sent s key report room =
    cond (nat_lt (s.pages * body_size s) (length report)) (Err (TooLong (length report)))
    (cond (nat_le s.keys key) (Err KeyTooGreat)
    (cond (nat_lt room (length (written s key report))) (Err (NoRoom (length (written s key report)))) (Ok (length (written s key report)))))
