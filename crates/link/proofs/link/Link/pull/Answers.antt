use Rattle.std.proofs.Common.{◌≤◌, ◌++◌, length, drop, Some, sym, ap, ◌∙◌, arith, length-append, length-drop}
use Rattle.reading.specs.Readings.{reading}
use Rattle.protocol.specs.Links.{idle, signal}
use Rattle.protocol.specs.Pulls.{Outcome}
use Rattle.link.specs.Fixing.{fix_of}
use Rattle.fixes.specs.Views.{enter}
use Rattle.link.specs.Views.{state_of, answer_of}
use Rattle.link.proofs.Buffers.{buffer_again, opened_wider}
use Rattle.link.proofs.Opens.{out}
use Rattle.link.proofs.Shifts.{pulled_none, pulled_start, pulled_sign}
use Rattle.link.proofs.link.Link.pull.Goals as goal

pub returns-in_default-find : goal.returns-in_default-find
returns-in_default-find g c =
    let f = c.in_default-find.ensures in
    let l = state_of c.args.self.now in
    let buf = c.args.buffer.now in
    let room : 8064 ≤ length buf = c.in-Some.ensures.cases.enough in
    let h1 = c.find.new.self in
    let v1 = g.L.Line.waiting c.find.new.line in
    ap (λ x. out (idle 0) h1 l.in_step l.first l.second l.board v1 x) (buffer_again 8064 buf room c.in-Some.start.now c.in-Some.ensures.cases.same)
    ∙ pulled_none g.A.Scheme.model g.B.Scheme.model reading fix_of enter l (g.L.Line.waiting c.args.line.now) buf h1 v1 f.held f.waiting room f.answer

pub returns-then-b-eq-START : goal.returns-then-b-eq-START
returns-then-b-eq-START g c =
    let f = c.in-Some-find.ensures in
    let a = g.A.Scheme.model in
    let b = g.B.Scheme.model in
    let l = state_of c.args.self.now in
    let v = g.L.Line.waiting c.args.line.now in
    let buf = c.args.buffer.now in
    let room : 8064 ≤ length buf = c.in-Some.ensures.cases.enough in
    let h1 = c.find.new.self in
    let v1 = g.L.Line.waiting c.find.new.line in
    let o : Outcome = record { answer = answer_of c.open.result; state = state_of c.open.new.self; waiting = g.L.Line.waiting c.open.new.line; buffer = c.open.new.buffer } in
    pulled_start a b reading fix_of enter l v buf h1 v1 f.held f.waiting room (ap Some (sym c.if-b-eq-START.true) ∙ f.answer)
    (record { answer = o.answer; state = o.state; waiting = o.waiting; buffer = o.buffer ++ drop 8064 buf })
    (opened_wider 8064 buf room a b reading fix_of enter (record { held = h1; in_step = l.in_step; first = l.first; second = l.second; board = l.board }) v1 c.in-Some.start.now c.in-Some.ensures.cases.same o (omega (arith, length-append c.open.new.buffer (drop 8064 buf), length-drop 8064 buf)) c.open.ensures)

pub returns : goal.returns
returns g c =
    let f = c.in-Some-find.ensures in
    let l = state_of c.args.self.now in
    let buf = c.args.buffer.now in
    let room : 8064 ≤ length buf = c.in-Some.ensures.cases.enough in
    let h1 = c.find.new.self in
    let v1 = g.L.Line.waiting c.find.new.line in
    let h2 = c.pass.new.self in
    ap (λ x. out (signal c.in-Some-find.b) h2 l.in_step l.first l.second l.board v1 x) (buffer_again 8064 buf room c.in-Some.start.now c.in-Some.ensures.cases.same)
    ∙ pulled_sign g.A.Scheme.model g.B.Scheme.model reading fix_of enter l (g.L.Line.waiting c.args.line.now) buf h1 v1 f.held f.waiting room c.in-Some-find.b f.answer c.if-b-eq-START.false h2 c.pass.ensures.held
