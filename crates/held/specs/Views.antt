-- The bytes that are held.
use Rattle.std.specs.Prelude.{ℕ, ◌≤◌, List, take, drop}
use Rattle.held.specs.declared.bytes.TheConstants.{ROOM}
use Rattle.held.specs.declared.bytes.HeldBytes.TheInside.{Inside}

-- those from the start to the end
abbrev pub held_in : Inside → List ℕ
held_in h = drop h.start (take h.end h.bytes)

abbrev pub Within : Inside → Type 0
Within h = (h.start ≤ h.end) × (h.end ≤ ROOM)
