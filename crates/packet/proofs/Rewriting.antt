-- What is written reads back, and what was read is written as it was.
use Rattle.std.proofs.Common.{◌≡◌, ◌+◌, ◌<◌, [], ◌∷◌, length, get_or, sym, ap, ◌∙◌, subst, arith}
use Rattle.std.proofs.lemmas.List.{take_all}
use Rattle.packet.specs.Bytes.{AreBytes}
use Rattle.packet.specs.Packets.{Packet, frame, checksum_of, lawful}
use Rattle.packet.specs.Laws.{LawfulPacketRewritesItself, WrittenPacketReadsBack}
use Rattle.packet.proofs.Bytes.{bytes_append}
use Rattle.packet.proofs.Fronts.{Fits, front_fits, front_stands, content_size, front_frame}

pub rewrites_itself : LawfulPacketRewritesItself
rewrites_itself [] p bytes start reads size = absurd (omega arith)
rewrites_itself (b ∷ u) p bytes start reads size =
    let fits : Fits (b ∷ u) (lawful p) = subst (Fits (b ∷ u)) reads (front_fits (b ∷ u)) in
    let stands = front_stands b u p bytes start fits in
    let len : length p.content ≡ get_or (b ∷ u) 3 0 = ap (λ (q : Packet). length q.content) fits.1 ∙ content_size (b ∷ u) fits.0 in
    sym stands.is ∙ take_all (length p.content + 6) (b ∷ u) (omega arith)

pub reads_back : WrittenPacketReadsBack
reads_back p rest is =
    let sum : checksum_of p < 256 = omega arith in
    let end : AreBytes (checksum_of p ∷ 3 ∷ []) = (sum, (omega arith, tt)) in
    let bytes : AreBytes (frame p) = (omega arith, (is.0, (is.1, (omega (arith, is.3), bytes_append p.content (checksum_of p ∷ 3 ∷ []) is.2 end)))) in
    (bytes, front_frame p rest)
