use Rattle.std.proofs.Common.{◌≡◌, ◌++◌, take, drop}
use Rattle.line.proofs.take_into.Given as goal

abbrev pub invariant-loop-taken : goal.invariant-loop-taken
invariant-loop-taken g l =
    (g.L.Line.waiting l.initial.line ≡ take l.taken l.places ++ g.L.Line.waiting l.line) × (drop l.taken l.places ≡ drop l.taken l.initial.places)
