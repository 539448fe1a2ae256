use Rattle.std.proofs.Common.{◌≤◌, length, refl, ap, arith}
use Rattle.reading.specs.Readings.{reading}
use Rattle.fixes.specs.Views.{enter}
use Rattle.link.specs.Fixing.{fix_of}
use Rattle.link.specs.Views.{state_of, answer_of}
use Rattle.link.proofs.Progress.{progress, nothing_waits}
use Rattle.link.proofs.Running.{idle_only, rested, went_on}
use Rattle.link.proofs.link.Link.pull_to_idle.Goals as goal

pub loop-held-init : goal.loop-held-init
loop-held-init g c = (refl, λ end n t. t)

pub loop-held-preserved : goal.loop-held-preserved
loop-held-preserved g c = (
  omega arith,
  λ end n t.
      c.loop-held.invariant.1 end n
      (went_on g.A.Scheme.model g.B.Scheme.model reading fix_of enter (state_of c.loop-held.self) (g.L.Line.waiting c.loop-held.line) c.loop-held.buffer c.loop-held.invariant.0 _ c.pull.ensures end n
      (λ m i. c.in_default.not-Idle m (idle_only c.pull.result m i)) t),
)

pub loop-held-smaller : goal.loop-held-smaller
loop-held-smaller g c =
    let room : 8064 ≤ length c.loop-held.buffer = omega arith in
    progress g.A.Scheme.model g.B.Scheme.model reading fix_of enter (state_of c.loop-held.self) (g.L.Line.waiting c.loop-held.line) c.loop-held.buffer room _ c.pull.ensures
    (λ m i. c.in_default.not-Idle m (idle_only c.pull.result m i))

pub returns-in-Idle : goal.returns-in-Idle
returns-in-Idle g c =
    let room : 8064 ≤ length c.loop-held.buffer = omega arith in
    let idles = ap answer_of c.in-Idle.is in
    record {
      run =
          c.loop-held.invariant.1 _ c.in-Idle.held
          (rested g.A.Scheme.model g.B.Scheme.model reading fix_of enter (state_of c.loop-held.self) (g.L.Line.waiting c.loop-held.line) c.loop-held.buffer c.loop-held.invariant.0 _ c.pull.ensures c.in-Idle.held idles);
      waiting = nothing_waits g.A.Scheme.model g.B.Scheme.model reading fix_of enter (state_of c.loop-held.self) (g.L.Line.waiting c.loop-held.line) c.loop-held.buffer room _ c.pull.ensures c.in-Idle.held idles;
    }
