use Rattle.std.proofs.Common.{length, ap, rules}
use Rattle.application.proofs.Applications.{went_on, stopped}
use Rattle.application.proofs.cursor.RecordsIterator.next.Goals as goal
use Rattle.application.proofs.cursor.RecordsIterator.next.Goals.{in-Ok, in-Err}

pub returns-clause-steps : goal.returns-clause-steps
returns-clause-steps c =
    let body = c.args.self.now.body.now in
    let at = c.args.self.now.at in
    elim c.match-found.branch [
      | in-Ok w ↦ rw (w.in-Ok.is, w.self-is) (went_on body at w.in-Ok.field-0 c.if-at-body.false w.in-Ok.ensures)
      | in-Err w ↦ rw (w.in-Err.is, w.self-is) (stopped body at w.in-Err.field-0 c.if-at-body.false w.in-Err.ensures)
    ]

pub returns-clause-goes : goal.returns-clause-goes
returns-clause-goes c =
    let long = ap length (returns-clause-steps c) in
    search (rules, long)
