use Rattle.records.proofs.Surveys.{went_on}
use Rattle.records.proofs.survey.cursor.SatellitesIterator.next.Goals as goal

pub returns-in-Some-clause-steps : goal.returns-in-Some-clause-steps
returns-in-Some-clause-steps c =
    let s = c.args.self.now in
    went_on s.enhanced s.body.now s.left s.at c.in-Some.satellite c.in-Some.behind c.if-self-eq0.false c.in-Some.ensures
