use Rattle.packet.proofs.Rewriting.{reads_back}
use Rattle.packet.proofs.laws.written_packet_reads_back.Goals as goal

pub returns : goal.returns
returns c = reads_back
