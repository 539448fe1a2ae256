-- One page of a report, written to what is left of the destination.
use Rattle.std.proofs.Common.{◌≡◌, ℕ, ◌+◌, ◌-◌, ◌*◌, ◌<◌, ◌≤◌, min, List, [], ◌++◌, length, take, drop, Ok, refl, ap, ◌∙◌, add-one, append_assoc, append-nil, length-append, arith}
use borrow.Rule.Slice.PartMut.{put_mid}
use Rattle.std.proofs.lemmas.List.{length-drop, take_min, take_at, drop_at, drop_all, drop-drop, take_rest}
use Rattle.std.proofs.lemmas.Grind.{common_steps}
use Rattle.packet.specs.Packets.{Packet, frame, frames}
use Rattle.packet.specs.Writes.{sent}
use Rattle.packet.proofs.Fronts.{length_frame}
use Rattle.paging.specs.Schemes.{Scheme, Laws}
use Rattle.writing.specs.Writes.{body_size, page_count, part_of, page_of, pages_from, written}
use Rattle.writing.proofs.Cutting.{frames_push, length_content, small_content, page_room}

-- one packet more, written to the rest of the destination
one_more : (P F out0 out rest : List ℕ) (at n : ℕ) → at ≡ length P → n ≡ length F → out ≡ P ++ drop at out0
    → rest ≡ F ++ drop n (take (length out - at) (drop at out))
    → put_mid at (length out - at) out rest ≡ (P ++ F) ++ drop (at + n) out0
one_more P F out0 out rest at n a b e w =
    let back : drop at out ≡ drop at out0 = grind (arith, drop_at) in
    let front : take at out ≡ P = grind (arith, take_at) in
    let none : drop (length out - at) (drop at out) ≡ [] = grind (arith, drop_all, length-drop) in
    grind (arith, take_rest, drop-drop, append-nil, append_assoc)

module _ (s : Scheme) (laws : Laws s) (key : ℕ) (report : List ℕ) (low : key < s.keys) (short : length report ≤ s.pages * body_size s)
    (total : ℕ) (is : total ≡ page_count s (length report)) (k : ℕ) (h : k < total) where
  abbrev page : Packet
  page = page_of s key total report k

  abbrev to : ℕ → List ℕ
  to i = frames (pages_from s key total report 0 i)

  -- the part between two places is the page's part
  part_is : (body end : ℕ) → body ≡ body_size s → end ≡ min (length report) (k * body + body)
      → take (end - k * body) (drop (k * body) report) ≡ part_of s report k
  part_is body end b e =
      let m : end - k * body ≡ min body (length (drop (k * body) report)) = omega (arith, length-drop (k * body) report) in
      rw (m, take_min, b) refl

  -- what was laid is the page's data
  pub content_is : (body end size : ℕ) (part bytes blank : List ℕ) → part ≡ take (end - k * body) (drop (k * body) report)
      → body ≡ body_size s → end ≡ min (length report) (k * body + body) → size ≡ s.header + length part
      → bytes ≡ (s.write (record { key = key; page = k + 1; total = total }) ++ part) ++ drop size blank
      → take size bytes ≡ page.content
  content_is body end size part bytes blank p b e n w =
      let same : part ≡ part_of s report k = p ∙ part_is body end b e in
      let long = length_content s laws key report low short total is k h in
      grind (arith, take_at)

  module _ (at : ℕ) (out out0 content : List ℕ) (c : content ≡ page.content) (here : at ≡ length (to k)) (same : length out ≡ length out0)
      (room : length (written s key report) ≤ length out0) where
    abbrev rest : List ℕ
    rest = take (length out - at) (drop at out)

    -- the packet writer does not refuse it
    pub page_sent : sent (length content) (length rest) ≡ Ok (length (frame page))
    page_sent = grind (arith, common_steps, length_frame page, small_content s laws key report low short total is k h, page_room s laws key report low short total is k h)

    -- one page more is written
    pub page_written : (done type : ℕ) (after : List ℕ) → type ≡ s.type → Ok done ≡ sent (length content) (length rest) → out ≡ to k ++ drop at out0
        → after ≡ frame (record { status = 0; type = type; content = content }) ++ drop done rest
        → (at + done ≡ length (to (k + 1))) × (put_mid at (length out - at) out after ≡ to (k + 1) ++ drop (at + done) out0)
    page_written done type after t e o w =
        let d : done ≡ length (frame page) = let p = page_sent in cc in
        let push : to (k + 1) ≡ to k ++ frame page = ap to (add-one k) ∙ frames_push s key total report k in
        let f : after ≡ frame page ++ drop done rest = rw (t, c) at w in
        (omega (arith, ap length push, length-append (to k) (frame page)), rw push (one_more (to k) (frame page) out0 out after at done here d o f))
