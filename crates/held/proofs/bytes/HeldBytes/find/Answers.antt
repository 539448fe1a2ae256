use Rattle.std.proofs.Common.{◌≡◌, [], ◌∷◌, length, take, set, sym, ap, ◌∙◌, arith}
use Rattle.held.proofs.Finds.{in_held, in_line, head_some, head_none}
use Rattle.std.proofs.lemmas.List.{take_more_set}
use Rattle.held.proofs.bytes.HeldBytes.find.Goals as goal

pub returns-in-Some : goal.returns-in-Some
returns-in-Some g c =
    let f = c.in-Some.ensures in
    let r = in_held c.args.in_step c.args.self.now (g.L.Line.waiting c.args.line.now) c.in-Some.b f.answer in
    record { held = f.held ∙ r.held; waiting = r.waiting; answer = r.answer; most = f.most }

pub returns-in_err-b : goal.returns-in_err-b
returns-in_err-b g c =
    let none = c.in_default.ensures in
    let f = c.in_err-b.ensures in
    let r = in_line c.args.in_step c.args.self.now (g.L.Line.waiting c.args.line.now) none.answer in
    record {
      held = none.held ∙ head_none _ none.answer ∙ sym (ap (take 1) (head_none _ f.answer)) ∙ r.held;
      waiting = f.waiting ∙ r.waiting;
      answer = c.from_residual.ensures ∙ f.answer ∙ r.answer;
      most = none.most;
    }

pub returns : goal.returns
returns g c =
    let f = c.in_ok-b.ensures in
    let b = c.in_ok-b.b in
    let s = c.self.inside in
    let one : take 1 (set s.bytes 0 b) ≡ b ∷ [] = take_more_set s.bytes 0 b (omega arith) in
    let r = in_line c.args.in_step c.args.self.now (g.L.Line.waiting c.args.line.now) c.in_default.ensures.answer in
    record {
      held = one ∙ sym (ap (take 1) (head_some _ b f.answer)) ∙ r.held;
      waiting = f.waiting ∙ r.waiting;
      answer = f.answer ∙ r.answer;
      most = omega (arith, ap length one);
    }
