use Rattle.protocol.proofs.Zeros.{survives}
use Rattle.protocol.proofs.report_survives_zeros.Goals as goal

pub returns : goal.returns
returns c = survives
