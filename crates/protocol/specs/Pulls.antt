-- One pull: what the stream begins with, and what comes of it.
use Rattle.std.specs.Prelude.{ℕ, ◌+◌, ◌-◌, max, Bool, true, false, cond, ◌&&◌, ◌||◌, List, [], ◌∷◌, ◌++◌, length, take, drop, Some, None, Option, ◌==◌, nat_lt, slice_index}
use Rattle.packet.specs.Packets.{Packet, Front, short, no_end, bad_sum, lawful, front, claimed}
use Rattle.packet.specs.declared.read.PacketFault.TheVariants.{NoEnd, WrongSum}
use Rattle.packet.specs.Reads.{packet_refusal}
use Rattle.records.specs.declared.kind.Kind.{Kind}
use Rattle.records.specs.declared.kind.Kind.TheVariants.{Position, Survey, Application}
use Rattle.paging.specs.Schemes.{Scheme}
use Rattle.refusal.specs.declared.Refusal.{Refusal}
use Rattle.fixes.specs.declared.fix.Fix.{Fix}
use Rattle.joining.specs.Joining.{Joined, Collected, collected, more, whole, refuses}
use Rattle.protocol.specs.Links.{Answer, Reading, Fixing, Entering, Link, idle, signal, page, report, other, refused, short_buffer}

-- what stands in a stream behind the bytes passed over
pub data Event : Type 0 where
  empty : Event
  partial : Event
  sign : (byte : ℕ) → Event
  broken : (why : Refusal) → Event
  packet : Packet → Event

-- the bytes that are signals
abbrev pub is_signal : ℕ → Bool
is_signal b = b == 5 || (b == 6 || b == 21)

-- the event at a start byte, by what stands there
abbrev pub at_start : List ℕ → Front → Event
at_start w short = partial
at_start w no_end = broken (packet_refusal (NoEnd (slice_index w 3 + 5)))
at_start w bad_sum = broken (packet_refusal (WrongSum (slice_index w 3 + 4)))
at_start w (lawful p) = packet p

-- how many bytes are passed over, and what stands behind them
pub record Found : Type 0 where
  pub passed : ℕ
  pub event : Event

-- the first start byte, or in step the first signal; the bytes before it are passed over
abbrev pub found : Bool → List ℕ → Found
found s [] = record { passed = 0; event = empty }
found s (b ∷ w) =
    cond (b == 2) (record { passed = 0; event = at_start (b ∷ w) (front (b ∷ w)) })
    (cond (s && is_signal b) (record { passed = 0; event = sign b })
    (let f : Found = found s w in record { passed = f.passed + 1; event = f.event }))

-- one pull: its answer, the bytes put at the buffer's start, the link after it, and how many bytes it took from the line
pub record Pull : Type 0 where
  pub answer : Answer
  pub written : List ℕ
  pub after : Link
  pub taken : ℕ

-- what a page's joining puts into the buffer
abbrev pub written_by : Joined → List ℕ
written_by (more n total) = []
written_by (whole key body) = body
written_by (refuses r) = []

-- the bytes held once so many of the stream are seen and so many of them removed
abbrev pub left : List ℕ → List ℕ → ℕ → ℕ → List ℕ
left held line seen removed = drop removed (take (max seen (length held)) (held ++ line))

-- the link with these bytes held, in step or not
abbrev pub holding : Link → List ℕ → Bool → Link
holding l held s = record { held = held; in_step = s; first = l.first; second = l.second; board = l.board }

-- the answer to a page
abbrev pub answer_to : Reading → Scheme → Joined → Answer
answer_to reading s (more n total) = page s.type n total
answer_to reading s (whole key body) = report s.type key (length body) (reading (s.means key) key body)
answer_to reading s (refuses r) = refused r

-- the pull that a page makes, with so many bytes taken and this link after it
abbrev pub paged : Reading → Scheme → Joined → ℕ → Link → Pull
paged reading s j taken after = record { answer = answer_to reading s j; written = written_by j; after = after; taken = taken }

module _ (reading : Reading) (fix_of : Fixing) (enter : Entering) where
  -- the board after a report: a position that was read enters it
  abbrev pub board_with : Option Kind → ℕ → List ℕ → List Fix → List Fix
  board_with (Some Position) key body board = cond ((reading (Some Position) key body).number == 0) (enter (fix_of key body) board) board
  board_with (Some Survey) key body board = board
  board_with (Some Application) key body board = board
  board_with None key body board = board

  -- the board after a page
  abbrev pub board_after : Scheme → Joined → List Fix → List Fix
  board_after s (more n total) board = board
  board_after s (whole key body) board = board_with (s.means key) key body board
  board_after s (refuses r) board = board

module _ (a b : Scheme) (reading : Reading) (fix_of : Fixing) (enter : Entering) where
  -- a lawful packet, with what is held behind it and how many bytes were taken: it goes to the first scheme that claims its type
  abbrev pub routed : Link → List ℕ → ℕ → Packet → Pull
  routed l held taken p =
      cond (p.type == a.type)
      (let c : Collected = collected a p.content l.first in
      paged reading a c.joined taken (record { held = held; in_step = true; first = c.held; second = l.second; board = board_after reading fix_of enter a c.joined l.board }))
      (cond (p.type == b.type)
      (let c : Collected = collected b p.content l.second in
      paged reading b c.joined taken (record { held = held; in_step = true; first = l.first; second = c.held; board = board_after reading fix_of enter b c.joined l.board }))
      (record { answer = other p.status p.type (length p.content); written = p.content; after = holding l held true; taken = taken }))

  -- what comes of an event behind so many bytes passed over
  abbrev pub done : Link → List ℕ → ℕ → Event → Pull
  done l line passed empty = record { answer = idle 0; written = []; after = holding l [] l.in_step; taken = length line }
  done l line passed partial =
      let rest : List ℕ = drop passed (l.held ++ line) in
      record { answer = idle (length rest); written = []; after = holding l rest l.in_step; taken = length line }
  done l line passed (sign b) =
      record { answer = signal b; written = []; after = holding l (left l.held line (passed + 1) (passed + 1)) l.in_step; taken = passed + 1 - length l.held }
  done l line passed (broken why) =
      let seen : ℕ = passed + claimed (drop passed (l.held ++ line)) in
      record { answer = refused why; written = []; after = holding l (left l.held line seen (passed + 1)) false; taken = seen - length l.held }
  done l line passed (packet p) =
      let seen : ℕ = passed + (length p.content + 6) in
      routed l (left l.held line seen seen) (seen - length l.held) p

  -- a pull with a full buffer, on a line of these bytes
  abbrev pub pull_full : Link → List ℕ → Pull
  pull_full l line = let f : Found = found l.in_step (l.held ++ line) in done l line f.passed f.event

  -- a pull with a buffer of so many bytes: 8064 are a full buffer
  abbrev pub pull : ℕ → Link → List ℕ → Pull
  pull room l line = cond (nat_lt room 8064) (record { answer = refused (short_buffer room); written = []; after = l; taken = 0 }) (pull_full l line)

-- all that a caller sees of a pull: its answer, the link, what still waits and the buffer
pub record Outcome : Type 0 where
  pub answer : Answer
  pub state : Link
  pub waiting : List ℕ
  pub buffer : List ℕ

-- bytes put at the start of a buffer
abbrev pub put : List ℕ → List ℕ → List ℕ
put written buffer = written ++ drop (length written) buffer

-- what a caller sees of a pull, by the line and the buffer before it
abbrev pub outcome_of : Pull → List ℕ → List ℕ → Outcome
outcome_of p line buffer = record { answer = p.answer; state = p.after; waiting = drop p.taken line; buffer = put p.written buffer }

-- a pull by all that the caller sees of it
abbrev pub pulled : Scheme → Scheme → Reading → Fixing → Entering → Link → List ℕ → List ℕ → Outcome
pulled a b reading fix_of enter l line buffer = outcome_of (pull a b reading fix_of enter (length buffer) l line) line buffer
