use Rattle.std.proofs.Common.{◌≡◌, ℕ, ◌+◌, length}
use Rattle.reading.specs.Readings.{reading}
use Rattle.fixes.specs.Views.{enter}
use Rattle.protocol.specs.Links.{Link}
use Rattle.protocol.specs.Pulls.{pull}
use Rattle.protocol.specs.Runs.{EndsIdle}
use Rattle.link.specs.Fixing.{fix_of}
use Rattle.link.specs.Views.{state_of}
use Rattle.link.proofs.link.Link.pull_to_idle.Given as goal

-- what ends idle from here ends so from the entry
abbrev pub invariant-loop-held : goal.invariant-loop-held
invariant-loop-held g l =
    let Ends = EndsIdle (pull g.A.Scheme.model g.B.Scheme.model reading fix_of enter) in
    (length l.buffer ≡ 8064)
    × ((end : Link) (n : ℕ) → Ends (state_of l.self) (g.L.Line.waiting l.line) end n → Ends (state_of l.initial.self) (g.L.Line.waiting l.initial.line) end n)

abbrev pub decreases-loop-held : goal.decreases-loop-held
decreases-loop-held g l = length (state_of l.self).held + length (g.L.Line.waiting l.line)
