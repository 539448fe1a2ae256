use Rattle.packet.proofs.Rewriting.{rewrites_itself}
use Rattle.packet.proofs.laws.lawful_packet_rewrites_itself.Goals as goal

pub returns : goal.returns
returns c = rewrites_itself
