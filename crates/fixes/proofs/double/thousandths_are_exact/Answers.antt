use Rattle.fixes.proofs.Exact.{exact}
use Rattle.fixes.proofs.double.thousandths_are_exact.Goals as goal

pub returns : goal.returns
returns c = exact
