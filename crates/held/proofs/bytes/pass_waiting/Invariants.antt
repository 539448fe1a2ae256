use Rattle.std.proofs.Common.{◌≡◌, length, drop}
use Rattle.held.specs.Streams.{passed}
use Rattle.held.proofs.bytes.pass_waiting.Given as goal

abbrev pub invariant-loop-b : goal.invariant-loop-b
invariant-loop-b g l =
    let now = g.L.Line.waiting l.line in
    let at_entry = g.L.Line.waiting l.initial.line in
    drop (passed l.in_step now) now ≡ drop (passed l.in_step at_entry) at_entry

abbrev pub decreases-loop-b : goal.decreases-loop-b
decreases-loop-b g l = length (g.L.Line.waiting l.line)
