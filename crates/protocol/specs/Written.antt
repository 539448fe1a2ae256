-- A report as the page writer writes it, on a line of its own.
use Rattle.std.specs.Prelude.{ℕ, ◌-◌, ◌*◌, ◌<◌, ◌≤◌, List, [], ◌∷◌, ◌++◌, length}
use Rattle.packet.specs.Bytes.{AreBytes}
use Rattle.paging.specs.Schemes.{Scheme}
use Rattle.writing.specs.Writes.{body_size, page_count, written}
use Rattle.protocol.specs.Links.{Reading, Fixing, Entering, fresh}
use Rattle.protocol.specs.Reports.{page_answers, report_answer}
use Rattle.protocol.specs.Spans.{GoesTo}
use Rattle.protocol.specs.Promises.{PulledToIdle}

module _ (a b : Scheme) (reading : Reading) (fix_of : Fixing) (enter : Entering) where
  -- for the scheme that its type goes to, a key below the limit and a report of bytes that is not too long: a new link on a line of exactly the bytes written answers each page but the last, then the report byte for byte with its key, then idle with no byte held
  abbrev pub WrittenReportComesBack : Type 0
  WrittenReportComesBack =
      (s : Scheme) → GoesTo a b s.type s →
      (key : ℕ) → key < s.keys → (report : List ℕ) → AreBytes report → length report ≤ s.pages * body_size s →
      PulledToIdle a b reading fix_of enter fresh (written s key report) (page_answers s (page_count s (length report)) 0 (page_count s (length report) - 1) ++ (report_answer reading s key report ∷ [])) 0
