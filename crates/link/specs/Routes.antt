-- What comes of a page, of a lawful packet, and of a stream that begins with a start byte.
use Rattle.std.specs.Prelude.{ℕ, cond, List, ◌++◌, length, ◌==◌}
use Rattle.packet.specs.Packets.{Packet, front}
use Rattle.paging.specs.Schemes.{Scheme}
use Rattle.joining.specs.Joining.{Held, Collected, collected}
use Rattle.protocol.specs.Links.{Answer, Link, other, Reading, Fixing, Entering}
use Rattle.fixes.specs.declared.fix.Fix.{Fix}
use Rattle.protocol.specs.Pulls.{Outcome, at_start, answer_to, board_after, written_by, put, done, outcome_of}

-- what comes of a page
pub record Joint : Type 0 where
  pub answer : Answer
  pub held : Held
  pub board : List Fix
  pub buffer : List ℕ

-- what comes of a lawful packet
pub record Route : Type 0 where
  pub answer : Answer
  pub first : Held
  pub second : Held
  pub board : List Fix
  pub buffer : List ℕ

module _ (reading : Reading) (fix_of : Fixing) (enter : Entering) where
  abbrev pub joint : Scheme → List ℕ → Held → List Fix → List ℕ → Joint
  joint s d x board buffer = let c : Collected = collected s d x in record { answer = answer_to reading s c.joined; held = c.held; board = board_after reading fix_of enter s c.joined board; buffer = put (written_by c.joined) buffer }

module _ (a b : Scheme) (reading : Reading) (fix_of : Fixing) (enter : Entering) where
  abbrev pub route : Held → Held → List Fix → Packet → List ℕ → Route
  route x y board p buffer =
      cond (p.type == a.type)
      (let j : Joint = joint reading fix_of enter a p.content x board buffer in record { answer = j.answer; first = j.held; second = y; board = j.board; buffer = j.buffer })
      (cond (p.type == b.type)
      (let j : Joint = joint reading fix_of enter b p.content y board buffer in record { answer = j.answer; first = x; second = j.held; board = j.board; buffer = j.buffer })
      (record { answer = other p.status p.type (length p.content); first = x; second = y; board = board; buffer = put p.content buffer }))

  -- what comes of a stream that begins with a start byte
  abbrev pub opened : Link → List ℕ → List ℕ → Outcome
  opened l line buffer = outcome_of (done a b reading fix_of enter l line 0 (at_start (l.held ++ line) (front (l.held ++ line)))) line buffer
