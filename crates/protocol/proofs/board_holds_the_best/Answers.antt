use Rattle.protocol.proofs.Board.{board_best}
use Rattle.protocol.proofs.board_holds_the_best.Goals as goal

pub returns : goal.returns
returns c = board_best
