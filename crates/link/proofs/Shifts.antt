-- A pull from behind the bytes passed over.
use Rattle.std.proofs.Common.{◌≡◌, ℕ, ◌+◌, ◌-◌, ◌≤◌, max, Bool, true, false, cond, ◌&&◌, eqb, List, [], ◌∷◌, ◌++◌, length, take, drop, Some, None, sym, refl, ap, ◌∙◌, zero-add, arith, length-append, length-drop, length-take}
use Rattle.std.proofs.lemmas.List.{drop_all, drop-drop, drop-take, take_at, take-append-drop, drop-append-le}
use Rattle.std.proofs.lemmas.Bool.{cond-true, cond-false, le-ltb, ne_eqb, or_from}
use Rattle.packet.specs.Packets.{front, claimed}
use Rattle.paging.specs.Schemes.{Scheme}
use Rattle.protocol.specs.Links.{Link, idle, signal, refused, Reading, Fixing, Entering}
use Rattle.protocol.specs.Pulls.{Event, Found, Outcome, empty, partial, sign, broken, packet, is_signal, found, at_start, left, holding, done, outcome_of, pulled}
use Rattle.held.specs.Streams.{head_of, passed, found_held, found_waiting}
use Rattle.link.specs.Routes.{route, opened}
use Rattle.held.proofs.Finds.{head_some, head_none, step_rest}
use Rattle.link.proofs.Opens.{rest_waits, out, by_route, routed_is}

-- the event is that of the stream behind the bytes passed over
abbrev pub event_of : List ℕ → Event
event_of [] = empty
event_of (b ∷ w) = cond (eqb b 2) (at_start (b ∷ w) (front (b ∷ w))) (sign b)

one_more : (s : Bool) (b : ℕ) (w : List ℕ) (x y : Bool) → eqb b 2 ≡ x → (s && is_signal b) ≡ y → (found s w).event ≡ event_of (drop (passed s w) w) → (found s (b ∷ w)).event ≡ event_of (drop (passed s (b ∷ w)) (b ∷ w))
one_more s b w true y e f h =
    let here : Event = at_start (b ∷ w) (front (b ∷ w)) in
    let is : found s (b ∷ w) ≡ record { passed = 0; event = here } = cond-true _ _ _ e in
    let at : event_of (b ∷ w) ≡ here = cond-true _ _ _ e in
    ap (λ (x : Found). x.event) is ∙ sym at ∙ sym (ap (λ (x : Found). event_of (drop x.passed (b ∷ w))) is)
one_more s b w false true e f h =
    let is : found s (b ∷ w) ≡ record { passed = 0; event = sign b } = cond-false _ _ _ e ∙ cond-true _ _ _ f in
    let at : event_of (b ∷ w) ≡ sign b = cond-false _ _ _ e in
    ap (λ (x : Found). x.event) is ∙ sym at ∙ sym (ap (λ (x : Found). event_of (drop x.passed (b ∷ w))) is)
one_more s b w false false e f h =
    let on : (found s (b ∷ w)).event ≡ (found s w).event = rw (e, f) in
    on ∙ h ∙ ap event_of (sym (step_rest s b w (or_from _ _ e f)))

pub event_is : (s : Bool) (w : List ℕ) → (found s w).event ≡ event_of (drop (passed s w) w)
event_is s [] = refl
event_is s (b ∷ w) = one_more s b w (eqb b 2) (s && is_signal b) refl refl (event_is s w)

module _ (a b : Scheme) (rd : Reading) (fx : Fixing) (en : Entering) (l : Link) (v buf : List ℕ) where
  abbrev w : List ℕ
  w = l.held ++ v

  abbrev k : ℕ
  k = length l.held

  abbrev p : ℕ
  p = passed l.in_step w

  module _ (h1 v1 : List ℕ) (held : h1 ≡ found_held l.in_step w k) (waiting : v1 ≡ found_waiting l.in_step w k) where
    abbrev m : ℕ
    m = max (p + 1) k

    abbrev found_link : Link
    found_link = holding l h1 l.in_step

    module _ (r : p + 1 ≤ length w) where
      seen_all : length (take m w) ≡ m
      seen_all = omega (arith, length-take m w, length-append l.held v)

      stream : h1 ++ v1 ≡ drop p w
      stream =
          ap (λ x. x ++ v1) held ∙ ap (λ x. drop p (take m w) ++ x) waiting
          ∙ sym (drop-append-le p (take m w) (drop m w) (omega (arith, seen_all))) ∙ ap (drop p) (take-append-drop m w)

      count : length h1 ≡ m - p
      count = ap length held ∙ length-drop p (take m w) ∙ ap (λ i. i - p) seen_all

      join : (n : ℕ) → 1 ≤ n → p + max n (length h1) ≡ max (p + n) k
      join n i = omega (arith, count)

      left_on : (n x : ℕ) → 1 ≤ n → left h1 v1 n x ≡ left l.held v (p + n) (p + x)
      left_on n x i =
          ap (λ y. drop x (take (max n (length h1)) y)) stream
          ∙ ap (drop x) (sym (drop-take p (max n (length h1)) w) ∙ ap (λ j. drop p (take j w)) (join n i))
          ∙ drop-drop x p (take (max (p + n) k) w)

      waits_on : (n : ℕ) → 1 ≤ n → drop (n - length h1) v1 ≡ drop (p + n - k) v
      waits_on n i =
          sym (rest_waits h1 v1 n) ∙ ap (drop (max n (length h1))) stream ∙ drop-drop (max n (length h1)) p w
          ∙ ap (λ j. drop j w) (join n i) ∙ rest_waits l.held v (p + n)

      emptied : drop (length v1) v1 ≡ drop (length v) v
      emptied = drop_all (length v1) v1 (omega arith) ∙ sym (drop_all (length v) v (omega arith))

      -- a pull is the same from behind the bytes passed over
      shift : (e : Event) → outcome_of (done a b rd fx en found_link v1 0 e) v1 buf ≡ outcome_of (done a b rd fx en l v p e) v buf
      shift empty = ap (λ x. out (idle 0) [] l.in_step l.first l.second l.board x buf) emptied
      shift partial =
          ap (λ x. out (idle (length x)) x l.in_step l.first l.second l.board (drop (length v1) v1) buf) stream
          ∙ ap (λ x. out (idle (length (drop p w))) (drop p w) l.in_step l.first l.second l.board x buf) emptied
      shift (sign c) =
          ap (λ x. out (signal c) x l.in_step l.first l.second l.board (drop (1 - length h1) v1) buf) (left_on 1 1 (omega arith))
          ∙ ap (λ x. out (signal c) (left l.held v (p + 1) (p + 1)) l.in_step l.first l.second l.board x buf) (waits_on 1 (omega arith))
      shift (broken why) =
          let c : ℕ = claimed (h1 ++ v1) in
          let d : ℕ = claimed (drop p w) in
          let z : 0 + c ≡ c = zero-add c in
          let y : c ≡ d = ap claimed stream in
          ap (λ n. out (refused why) (left h1 v1 n 1) false l.first l.second l.board (drop (n - length h1) v1) buf) (z ∙ y)
          ∙ ap (λ x. out (refused why) x false l.first l.second l.board (drop (d - length h1) v1) buf) (left_on d 1 (omega arith))
          ∙ ap (λ x. out (refused why) (left l.held v (p + d) (p + 1)) false l.first l.second l.board x buf) (waits_on d (omega arith))
      shift (packet q) =
          let n : ℕ = length q.content + 6 in
          let z : 0 + n ≡ n = zero-add n in
          routed_is a b rd fx en found_link v1 buf (left h1 v1 (0 + n) (0 + n)) (0 + n - length h1) q
          ∙ ap (λ i. by_route (left h1 v1 i i) (drop (i - length h1) v1) (route a b rd fx en l.first l.second l.board q buf)) z
          ∙ ap (λ x. by_route x (drop (n - length h1) v1) (route a b rd fx en l.first l.second l.board q buf)) (left_on n n (omega arith))
          ∙ ap (λ x. by_route (left l.held v (p + n) (p + n)) x (route a b rd fx en l.first l.second l.board q buf)) (waits_on n (omega arith))
          ∙ sym (routed_is a b rd fx en l v buf (left l.held v (p + n) (p + n)) (p + n - k) q)

    module _ (room : 8064 ≤ length buf) where
      full : outcome_of (done a b rd fx en l v p (found l.in_step w).event) v buf ≡ pulled a b rd fx en l v buf
      full = ap (λ x. outcome_of x v buf) (sym (cond-false _ _ _ (le-ltb (length buf) 8064 room)))

      of_event : (e : Event) → event_of (drop p w) ≡ e → outcome_of (done a b rd fx en l v p e) v buf ≡ pulled a b rd fx en l v buf
      of_event e i = ap (λ x. outcome_of (done a b rd fx en l v p x) v buf) (sym i ∙ sym (event_is l.in_step w)) ∙ full

      some : (c : ℕ) → Some c ≡ head_of (drop p w) → p + 1 ≤ length w
      some c i = omega (arith, length-drop p w, ap length (head_some (drop p w) c i))

      pub pulled_none : None ≡ head_of (drop p w) → out (idle 0) h1 l.in_step l.first l.second l.board v1 buf ≡ pulled a b rd fx en l v buf
      pulled_none i =
          let none : drop p w ≡ [] = head_none (drop p w) i in
          let end : length w ≤ p = omega (arith, length-drop p w, ap length none) in
          let h : h1 ≡ [] = held ∙ drop_all p (take m w) (omega (arith, length-take m w)) in
          let x : v1 ≡ drop (length v) v = waiting ∙ drop_all m w (omega arith) ∙ sym (drop_all (length v) v (omega arith)) in
          ap (λ y. out (idle 0) y l.in_step l.first l.second l.board v1 buf) h
          ∙ ap (λ y. out (idle 0) [] l.in_step l.first l.second l.board y buf) x
          ∙ of_event empty (ap event_of none)

      pub pulled_start : Some 2 ≡ head_of (drop p w) → (o : Outcome) → o ≡ opened a b rd fx en found_link v1 buf → o ≡ pulled a b rd fx en l v buf
      pulled_start i o e =
          let r = some 2 i in
          let u : List ℕ = drop p w in
          let is : u ≡ 2 ∷ drop 1 u = head_some u 2 i in
          e ∙ ap (λ x. outcome_of (done a b rd fx en found_link v1 0 (at_start x (front x))) v1 buf) (stream r)
          ∙ shift r (at_start u (front u))
          ∙ of_event (at_start u (front u)) (ap event_of is ∙ ap (λ x. at_start x (front x)) (sym is))

      pub pulled_sign : (c : ℕ) → Some c ≡ head_of (drop p w) → (c ≡ 2 → ⊥) → (h2 : List ℕ) → h2 ≡ drop 1 h1 → out (signal c) h2 l.in_step l.first l.second l.board v1 buf ≡ pulled a b rd fx en l v buf
      pulled_sign c i ne h2 e =
          let r = some c i in
          let u : List ℕ = drop p w in
          let is : u ≡ c ∷ drop 1 u = head_some u c i in
          let one : length h1 ≡ max 1 (length h1) = omega (arith, count r) in
          let none : 0 ≡ 1 - length h1 = omega (arith, count r) in
          ap (λ x. out (signal c) x l.in_step l.first l.second l.board v1 buf) (e ∙ ap (drop 1) (sym (take_at h1 v1 _ one)))
          ∙ ap (λ n. out (signal c) (left h1 v1 1 1) l.in_step l.first l.second l.board (drop n v1) buf) none
          ∙ shift r (sign c)
          ∙ of_event (sign c) (ap event_of is ∙ cond-false _ _ _ (ne_eqb c 2 ne))
