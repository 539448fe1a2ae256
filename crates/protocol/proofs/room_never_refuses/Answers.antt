use Rattle.protocol.proofs.Room.{never_refuses}
use Rattle.protocol.proofs.room_never_refuses.Goals as goal

pub returns : goal.returns
returns c = never_refuses
