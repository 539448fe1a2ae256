use Rattle.std.proofs.Common.{◌≡◌, ◌++◌, length, drop}
use Rattle.packet.specs.Packets.{frames}
use Rattle.writing.specs.Writes.{pages_from}
use Rattle.writing.proofs.write.write_pages.Given as goal

abbrev pub invariant-loop-index : goal.invariant-loop-index
invariant-loop-index g l =
    (l.at ≡ length (frames (pages_from g.S.Scheme.model l.key l.pages l.report 0 l.index)))
    × (l.out ≡ frames (pages_from g.S.Scheme.model l.key l.pages l.report 0 l.index) ++ drop l.at l.initial.out)
