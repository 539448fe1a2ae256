use Rattle.std.proofs.Common.{◌≡◌, length, drop}
use Rattle.held.specs.Streams.{passed}
use Rattle.held.proofs.bytes.HeldBytes.pass_held.Given as goal

abbrev pub invariant-loop-b : goal.invariant-loop-b
invariant-loop-b l =
    let now = l.self in
    let at_entry = l.initial.self in
    drop (passed l.in_step now) now ≡ drop (passed l.in_step at_entry) at_entry

abbrev pub decreases-loop-b : goal.decreases-loop-b
decreases-loop-b l = length l.self
