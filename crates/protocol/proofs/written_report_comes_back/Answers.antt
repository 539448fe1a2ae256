use Rattle.protocol.proofs.Written.{comes_back}
use Rattle.protocol.proofs.written_report_comes_back.Goals as goal

pub returns : goal.returns
returns c = comes_back
