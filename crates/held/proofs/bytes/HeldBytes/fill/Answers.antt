use Rattle.std.proofs.Common.{◌≡◌, ◌+◌, ◌-◌, ◌≤◌, ◌++◌, length, take, drop, min, sym, ap, ◌∙◌, arith, rules, length-take, length-drop}
use Rattle.std.proofs.lemmas.List.{length-take-le}
use Rattle.std.proofs.lemmas.Slice.{overwrites, between_is}
use borrow.Rule.Slice.PartMut.{put_mid, mid_of}
use Rattle.held.specs.declared.bytes.TheConstants.{ROOM}
use Rattle.held.proofs.Rows.{length_held, lengthened}
use Rattle.held.proofs.Fills.{Filled, filled}
use Rattle.held.proofs.bytes.HeldBytes.fill.Goals as goal
use Rattle.held.proofs.bytes.HeldBytes.fill.Goals.{then-self-n, else-self-n}

pub returns : goal.returns
returns g c =
    let s = c.if-self-n.self-inside in
    let h = c.args.self.now in
    let v = g.L.Line.waiting c.args.line.now in
    let r = c.take_into-taken.result in
    let e = c.take_into-taken.ensures in
    let s0 = c.self.inside in
    let kept : (drop s.start (take s.end s.bytes) ≡ h) × (s.start ≤ s.end) × (s.end ≤ ROOM) × (s.start + c.args.n ≤ ROOM) × (length s.bytes ≡ ROOM) =
    elim c.if-self-n.branch [
      | then-self-n w ↦
          let moved : take (s0.end - s0.start) w.copy_within.new.self ≡ drop s0.start (take s0.end s0.bytes) = search (rules, overwrites, between_is, w.copy_within.ensures.after) in
          rw w.self-inside-is (moved ∙ c.self.view_is, omega arith, omega arith, omega arith, w.copy_within.ensures.len ∙ omega arith)
      | else-self-n w ↦ rw w.self-inside-is (c.self.view_is, omega arith, omega arith, omega arith, omega arith)
    ] in
    let m = c.min-to.ensures in
    let to : c.min-to.result ≡ s.start + c.args.n = omega arith in
    let long = ap length (sym kept.0) ∙ length_held s.bytes s.start s.end (omega arith) in
    let free : length (mid_of s.end (c.min-to.result - s.end) s.bytes) ≡ c.args.n - length h = simp (length-take, length-drop) (omega arith) in
    let f : Filled c.args.n (h ++ take r v) (drop r v) h v = filled c.args.n h v r (e.count ∙ ap (λ m. min m (length v)) free) in
    let came : length (take r v) ≡ r = length-take-le r v (omega arith) in
    record {
      held =
          ap (λ ys. drop s.start (take (s.end + r) (put_mid s.end (c.min-to.result - s.end) s.bytes ys))) e.places
          ∙ lengthened s.bytes s.start s.end (c.min-to.result - s.end) (take r v) _ r came (omega arith) (omega arith)
          ∙ ap (λ x. x ++ take r v) kept.0 ∙ f.held;
      waiting = e.waits ∙ f.waiting;
      most = simp (length-drop, length-take) (omega (arith, e.count));
    }
