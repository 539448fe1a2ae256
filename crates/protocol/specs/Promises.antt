-- The four promises over every history of a link, alone and joined.
use Rattle.std.specs.Prelude.{◌≡◌, ℕ, ◌-◌, ◌≤◌, Bool, ◌⊎◌, List, [], ◌∷◌, ◌++◌, length, replicate, ◌≢◌}
use Rattle.packet.specs.Bytes.{AreBytes, concat}
use Rattle.packet.specs.Packets.{Packet, frames}
use Rattle.paging.specs.Schemes.{Scheme, Laws}
use Rattle.fixes.specs.declared.fix.Fix.{Fix}
use Rattle.joining.specs.Joining.{collected}
use Rattle.protocol.specs.Links.{Link, Reading, Fixing, Entering}
use Rattle.protocol.specs.Roomless.{collected_roomless}
use Rattle.protocol.specs.Pulls.{pull}
use Rattle.protocol.specs.Runs.{Given, Full, Reached, ToIdle}
use Rattle.ranking.specs.Boards.{Order, entered}
use Rattle.ranking.specs.Counting.{Exactly}
use Rattle.protocol.specs.Reports.{Pages, page_answers, report_answer, deliveries, times, fixes}
use Rattle.protocol.specs.Spans.{Span, AllShown}

-- a type that one of the two schemes alone claims
abbrev pub OneClaims : Scheme → Scheme → Scheme → Type 0
OneClaims a b s = ((s ≡ a) × (b.type ≢ s.type)) ⊎ ((s ≡ b) × (a.type ≢ s.type))

-- a fix enters a board of 32 places by its rank
abbrev pub by_rank : (Fix → Fix → Bool) → Entering
by_rank le f board = entered le 32 f board

module _ (a b : Scheme) (reading : Reading) (fix_of : Fixing) (enter : Entering) where
  -- a history from a fresh link: the link that it leads to, the bytes taken and the answers
  abbrev pub History : Link → List ℕ → List Given → Type 0
  History = Reached (pull a b reading fix_of enter)

  -- pulled to idle with full buffers, whichever they are: the answers before the idle, and how many bytes it holds
  abbrev pub PulledToIdle : Link → List ℕ → List Given → ℕ → Type 0
  PulledToIdle l line answers held = (rooms : ℕ → ℕ) → Full rooms → ToIdle (pull a b reading fix_of enter) rooms 0 l line answers held

  -- whatever waits or is held before, a report behind 257 zero bytes is delivered byte for byte
  abbrev pub ReportSurvivesZeros : Type 0
  ReportSurvivesZeros =
      (l : Link) (taken : List ℕ) (past : List Given) → History l taken past →
      (waiting : List ℕ) → AreBytes waiting →
      (s : Scheme) → OneClaims a b s →
      (key total : ℕ) (ps : List Packet) (bodies : List (List ℕ)) → Pages s key total 0 ps bodies → 1 ≤ total →
      (before : List Given)
      × PulledToIdle l (waiting ++ replicate 257 0) before 0
      × PulledToIdle l (waiting ++ (replicate 257 0 ++ frames ps)) (before ++ (page_answers s total 0 (total - 1) ++ (report_answer reading s key (concat bodies) ∷ []))) 0

  -- each report delivered has its pages whole and in order among the bytes taken by then, and no byte serves two pages or two deliveries
  abbrev pub PagesStandWhole : Type 0
  PagesStandWhole =
      (l : Link) (taken : List ℕ) (past : List Given) (h : History l taken past) →
      (spans : List (List Span)) × AllShown a b taken (deliveries past) (times (pull a b reading fix_of enter) h) spans

  -- for both schemes the test of room turns no page away: pages join as they would without it
  abbrev pub RoomNeverRefuses : Type 0
  RoomNeverRefuses =
      (l : Link) (taken : List ℕ) (past : List Given) → History l taken past →
      (d : List ℕ) → AreBytes d → length d ≤ 255 →
      (collected a d l.first ≡ collected_roomless a d l.first) × (collected b d l.second ≡ collected_roomless b d l.second)

module _ (a b : Scheme) (reading : Reading) (fix_of : Fixing) (le : Fix → Fix → Bool) where
  -- the board holds exactly the fixes of the positions delivered and read that fewer than 32 others rank before, each at the place that counts those
  abbrev pub BoardHoldsTheBest : Type 0
  BoardHoldsTheBest =
      (l : Link) (taken : List ℕ) (past : List Given) → History a b reading fix_of (by_rank le) l taken past →
      (d : Fix) → Exactly le 32 (fixes a b reading fix_of (deliveries past)) l.board d

-- a promise for every two schemes with their laws, every reading of reports, and every way to enter a fix
abbrev pub ForLawfulSchemes : ((a b : Scheme) (reading : Reading) (fix_of : Fixing) (enter : Entering) → Type 0) → Type 0
ForLawfulSchemes Promise =
    (a b : Scheme) → Laws a → Laws b → (reading : Reading) (fix_of : Fixing) (enter : Entering) → Promise a b reading fix_of enter

-- a promise for every two schemes, every reading of reports, and every order of fixes with its laws
abbrev pub ForOrders : ((a b : Scheme) (reading : Reading) (fix_of : Fixing) (le : Fix → Fix → Bool) → Type 0) → Type 0
ForOrders Promise = (a b : Scheme) (reading : Reading) (fix_of : Fixing) (le : Fix → Fix → Bool) → Order le → Promise a b reading fix_of le
