use Rattle.protocol.proofs.Histories.{stands_whole}
use Rattle.protocol.proofs.pages_stand_whole.Goals as goal

pub returns : goal.returns
returns c = stands_whole
