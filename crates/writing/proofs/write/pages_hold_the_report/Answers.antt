use Rattle.writing.proofs.Holding.{pages_hold}
use Rattle.writing.proofs.write.pages_hold_the_report.Goals as goal

pub returns : goal.returns
returns c = pages_hold
