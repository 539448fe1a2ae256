-- What comes of a stream that begins with a start byte.
use Rattle.std.proofs.Common.{◌≡◌, ℕ, ◌+◌, ◌-◌, ◌≤◌, max, Bool, true, false, cond, eqb, List, ◌++◌, length, get_or, take, drop, Some, Err, sym, refl, ap, ◌∙◌, zero-add, arith}
use Rattle.std.proofs.lemmas.List.{take_all, drop_all, drop-drop, drop_at}
use Rattle.refusal.specs.declared.Refusal.{Refusal}
use Rattle.packet.specs.Packets.{Packet, short, lawful, front, claimed, parsed}
use Rattle.packet.specs.Reads.{Reads, packet_refusal}
use Rattle.packet.specs.declared.read.PacketFault.{PacketFault}
use Rattle.packet.specs.declared.read.PacketFault.TheVariants.{NoEnd, WrongSum}
use Rattle.paging.specs.Schemes.{Scheme}
use Rattle.joining.specs.Joining.{Held, Collected, collected}
use Rattle.protocol.specs.Links.{Answer, Link, idle, other, refused, Reading, Fixing, Entering}
use Rattle.fixes.specs.declared.fix.Fix.{Fix}
use Rattle.protocol.specs.Pulls.{Pull, Outcome, broken, at_start, left, answer_to, board_after, written_by, routed, done, outcome_of, put}
use Rattle.link.specs.Routes.{Joint, joint, Route, route, opened}
use Rattle.held.proofs.Fills.{Filled}
use Rattle.link.proofs.Fronts.{front_seen, size_seen, short_length, lawful_size}

-- what waits still, by what waited
pub rest_waits : (h v : List ℕ) (n : ℕ) → drop (max n (length h)) (h ++ v) ≡ drop (n - length h) v
rest_waits h v n =
    let m : max n (length h) ≡ length h + (n - length h) = omega arith in
    ap (λ i. drop i (h ++ v)) m ∙ sym (drop-drop (n - length h) (length h) (h ++ v)) ∙ ap (drop (n - length h)) (drop_at h v (length h) refl)

pub broken_by : (x w : List ℕ) (fault : PacketFault) → front x ≡ front w → get_or x 3 0 ≡ get_or w 3 0 → Reads x (Some (Err fault)) → at_start w (front w) ≡ broken (packet_refusal fault)
broken_by x w (NoEnd p) f s r = ap (at_start w) (sym f ∙ r.0) ∙ ap (λ i. broken (record { number = 4; layer = 1; place = i })) (sym (r.1 ∙ ap (λ i. i + 5) s))
broken_by x w (WrongSum p) f s r = ap (at_start w) (sym f ∙ r.0) ∙ ap (λ i. broken (record { number = 5; layer = 1; place = i })) (sym (r.1 ∙ ap (λ i. i + 4) s))

abbrev pub out : Answer → List ℕ → Bool → Held → Held → List Fix → List ℕ → List ℕ → Outcome
out r h s x y z v buf = record { answer = r; state = record { held = h; in_step = s; first = x; second = y; board = z }; waiting = v; buffer = buf }

abbrev pub by_route : List ℕ → List ℕ → Route → Outcome
by_route h v r = out r.answer h true r.first r.second r.board v r.buffer

pick : (x y : Bool) (p q r : Pull) (p' q' r' : Route) (h v u buf : List ℕ) → outcome_of p u buf ≡ by_route h v p' → outcome_of q u buf ≡ by_route h v q' → outcome_of r u buf ≡ by_route h v r'
    → outcome_of (cond x p (cond y q r)) u buf ≡ by_route h v (cond x p' (cond y q' r'))
pick true y p q r p' q' r' h v u buf e f g = e
pick false true p q r p' q' r' h v u buf e f g = f
pick false false p q r p' q' r' h v u buf e f g = g

module _ (a b : Scheme) (rd : Reading) (fx : Fixing) (en : Entering) (l : Link) (v buf : List ℕ) where
  pub routed_is : (h : List ℕ) (t : ℕ) (p : Packet) → outcome_of (routed a b rd fx en l h t p) v buf ≡ by_route h (drop t v) (route a b rd fx en l.first l.second l.board p buf)
  routed_is h t p =
      let c : Collected = collected a p.content l.first in
      let d : Collected = collected b p.content l.second in
      let q : Pull = record { answer = answer_to rd a c.joined; written = written_by c.joined; after = record { held = h; in_step = true; first = c.held; second = l.second; board = board_after rd fx en a c.joined l.board }; taken = t } in
      let r : Pull = record { answer = answer_to rd b d.joined; written = written_by d.joined; after = record { held = h; in_step = true; first = l.first; second = d.held; board = board_after rd fx en b d.joined l.board }; taken = t } in
      let o : Pull = record { answer = other p.status p.type (length p.content); written = p.content; after = record { held = h; in_step = true; first = l.first; second = l.second; board = l.board }; taken = t } in
      let j : Joint = joint rd fx en a p.content l.first l.board buf in
      let k : Joint = joint rd fx en b p.content l.second l.board buf in
      pick (eqb p.type a.type) (eqb p.type b.type) q r o
      (record { answer = j.answer; first = j.held; second = l.second; board = j.board; buffer = j.buffer })
      (record { answer = k.answer; first = l.first; second = k.held; board = k.board; buffer = k.buffer })
      (record { answer = other p.status p.type (length p.content); first = l.first; second = l.second; board = l.board; buffer = put p.content buf })
      h (drop t v) v buf refl refl refl

  module _ (h2 v2 : List ℕ) (f : Filled (claimed (l.held ++ v)) h2 v2 l.held v) where
    pub same_front : front h2 ≡ front (l.held ++ v)
    same_front = ap front f.held ∙ front_seen (max (claimed (l.held ++ v)) (length l.held)) (l.held ++ v) (omega arith)

    pub same_size : get_or h2 3 0 ≡ get_or (l.held ++ v) 3 0
    same_size = ap (λ x. get_or x 3 0) f.held ∙ size_seen (max (claimed (l.held ++ v)) (length l.held)) (l.held ++ v) (omega arith)

    now_waits : v2 ≡ drop (claimed (l.held ++ v) - length l.held) v
    now_waits = f.waiting ∙ rest_waits l.held v (claimed (l.held ++ v))

    pub opened_short : (n : ℕ) → front h2 ≡ short → n ≡ length h2 → out (idle n) h2 l.in_step l.first l.second l.board v2 buf ≡ opened a b rd fx en l v buf
    opened_short n e m =
        let w : List ℕ = l.held ++ v in
        let s : front w ≡ short = sym same_front ∙ e in
        let i : length w ≤ max (claimed w) (length l.held) = omega (arith, short_length w s) in
        let whole : h2 ≡ w = f.held ∙ take_all _ w i in
        let none : v2 ≡ drop (length v) v = f.waiting ∙ drop_all _ w i ∙ sym (drop_all (length v) v (omega arith)) in
        ap (λ x. out (idle x) h2 l.in_step l.first l.second l.board v2 buf) (m ∙ ap length whole)
        ∙ ap (λ x. out (idle (length w)) x l.in_step l.first l.second l.board v2 buf) whole
        ∙ ap (λ x. out (idle (length w)) w l.in_step l.first l.second l.board x buf) none
        ∙ ap (λ x. outcome_of (done a b rd fx en l v 0 (at_start w x)) v buf) (sym s)

    pub opened_broken : (why : Refusal) (h3 : List ℕ) → at_start (l.held ++ v) (front (l.held ++ v)) ≡ broken why → h3 ≡ drop 1 h2
        → out (refused why) h3 false l.first l.second l.board v2 buf ≡ opened a b rd fx en l v buf
    opened_broken why h3 e d =
        let w : List ℕ = l.held ++ v in
        let z : claimed w ≡ 0 + claimed w = sym (zero-add (claimed w)) in
        ap (λ x. out (refused why) x false l.first l.second l.board v2 buf) (d ∙ ap (drop 1) f.held ∙ ap (λ n. drop 1 (take (max n (length l.held)) w)) z)
        ∙ ap (λ x. out (refused why) (left l.held v (0 + claimed w) 1) false l.first l.second l.board x buf) (now_waits ∙ ap (λ n. drop (n - length l.held) v) z)
        ∙ ap (λ x. outcome_of (done a b rd fx en l v 0 x) v buf) (sym e)

    pub opened_lawful : (p : Packet) (n : ℕ) (h3 : List ℕ) (r : Route) → front h2 ≡ lawful (parsed h2) → p ≡ parsed h2 → n ≡ length p.content + 6 → h3 ≡ drop n h2 → r ≡ route a b rd fx en l.first l.second l.board p buf
        → by_route h3 v2 r ≡ opened a b rd fx en l v buf
    opened_lawful p n h3 r e q m d t =
        let w : List ℕ = l.held ++ v in
        let k : ℕ = length l.held in
        let s : front w ≡ lawful p = sym same_front ∙ e ∙ ap lawful (sym q) in
        let size : n ≡ claimed w = m ∙ ap (λ x. length x.content + 6) q ∙ lawful_size h2 e ∙ ap (λ x. x + 6) same_size in
        let zero : 0 + (length p.content + 6) ≡ n = zero-add (length p.content + 6) ∙ sym m in
        let seen : ℕ = 0 + (length p.content + 6) in
        let held : h3 ≡ left l.held v seen seen =
        d ∙ ap (drop n) f.held ∙ ap (λ i. drop n (take (max i k) w)) (sym size) ∙ ap (λ i. drop i (take (max i k) w)) (sym zero) in
        let waits : v2 ≡ drop (seen - k) v = now_waits ∙ ap (λ i. drop (i - k) v) (sym size ∙ sym zero) in
        ap (by_route h3 v2) t
        ∙ ap (λ x. by_route x v2 (route a b rd fx en l.first l.second l.board p buf)) held
        ∙ ap (λ x. by_route (left l.held v seen seen) x (route a b rd fx en l.first l.second l.board p buf)) waits
        ∙ sym (routed_is (left l.held v seen seen) (seen - k) p)
        ∙ ap (λ x. outcome_of (done a b rd fx en l v 0 (at_start w x)) v buf) (sym s)

pub same_packet : (s t : ℕ) (d x : List ℕ) → s ≡ get_or x 1 0 → t ≡ get_or x 2 0 → d ≡ take (get_or x 3 0) (drop 4 x) → ◌≡◌ {A = Packet} (record { status = s; type = t; content = d }) (parsed x)
same_packet s t d x e f g = cc
