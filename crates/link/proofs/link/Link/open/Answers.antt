use Rattle.std.proofs.Common.{◌≡◌, ◌+◌, false, ◌++◌, length, get_or, sym, refl, ap, ◌∙◌}
use Rattle.packet.specs.Packets.{Packet, front, lawful, claimed, parsed}
use Rattle.packet.specs.Reads.{packet_refusal}
use Rattle.link.specs.Faults.{link_refusal}
use Rattle.protocol.specs.Links.{refused}
use Rattle.reading.specs.Readings.{reading}
use Rattle.link.specs.Fixing.{fix_of}
use Rattle.fixes.specs.Views.{enter, board_of}
use Rattle.link.specs.Views.{state_of, answer_of}
use Rattle.held.proofs.Fills.{Filled}
use Rattle.link.proofs.Opens.{out, opened_short, opened_broken, opened_lawful, same_front, same_size, broken_by, same_packet}
use Rattle.link.proofs.link.Link.open.Goals as goal

pub returns-in_default : goal.returns-in_default
returns-in_default g c =
    let l = state_of c.args.self.now in
    let v = g.L.Line.waiting c.args.line.now in
    let h2 = c.gather.new.self in
    opened_short g.A.Scheme.model g.B.Scheme.model reading fix_of enter l v c.args.buffer.now h2 (g.L.Line.waiting c.gather.new.line)
    (record { held = c.gather.ensures.held; waiting = c.gather.ensures.waiting }) c.len.result
    (ap front (sym c.all.ensures.value) ∙ (rw c.in_default.is at c.read.ensures)) c.len.ensures.count

pub returns-in-Err : goal.returns-in-Err
returns-in-Err g c =
    let a = g.A.Scheme.model in
    let b = g.B.Scheme.model in
    let l = state_of c.args.self.now in
    let v = g.L.Line.waiting c.args.line.now in
    let buf = c.args.buffer.now in
    let h2 = c.gather.new.self in
    let v2 = g.L.Line.waiting c.gather.new.line in
    let f : Filled (claimed (l.held ++ v)) h2 v2 l.held v = record { held = c.gather.ensures.held; waiting = c.gather.ensures.waiting } in
    let x = c.all.result.now in
    let at = broken_by x (l.held ++ v) c.in-Err.fault (ap front c.all.ensures.value ∙ same_front a b reading fix_of enter l v buf h2 v2 f) (ap (λ y. get_or y 3 0) c.all.ensures.value ∙ same_size a b reading fix_of enter l v buf h2 v2 f) (rw c.in-Err.is at c.in-Some.ensures) in
    ap (λ r. out (refused (link_refusal r)) c.pass.new.self false l.first l.second l.board v2 buf) c.into.ensures
    ∙ opened_broken a b reading fix_of enter l v buf h2 v2 f (packet_refusal c.in-Err.fault) c.pass.new.self at c.pass.ensures.held

pub returns-in-Ok : goal.returns-in-Ok
returns-in-Ok g c =
    let a = g.A.Scheme.model in
    let b = g.B.Scheme.model in
    let l = state_of c.args.self.now in
    let v = g.L.Line.waiting c.args.line.now in
    let buf = c.args.buffer.now in
    let h2 = c.gather.new.self in
    let v2 = g.L.Line.waiting c.gather.new.line in
    let f : Filled (claimed (l.held ++ v)) h2 v2 l.held v = record { held = c.gather.ensures.held; waiting = c.gather.ensures.waiting } in
    let x = c.all.result.now in
    let q = c.in-Ok.packet in
    let is = rw c.in-Ok.is at c.in-Some.ensures in
    let p : Packet = record { status = q.status; type = q.kind; content = q.data.now } in
    let same : p ≡ parsed x = same_packet q.status q.kind q.data.now x is.1 is.2 is.3 in
    opened_lawful a b reading fix_of enter l v buf h2 v2 f p (length q.data.now + 6) c.pass-in-Ok.new.self
    (record { answer = answer_of c.send-answer.result; first = c.send-answer.new.first.held; second = c.send-answer.new.second.held; board = board_of c.send-answer.new.board; buffer = c.send-answer.new.buffer })
    (ap front (sym c.all.ensures.value) ∙ is.0 ∙ ap (λ y. lawful (parsed y)) c.all.ensures.value) (same ∙ ap parsed c.all.ensures.value) refl c.pass-in-Ok.ensures.held c.send-answer.ensures.packet
