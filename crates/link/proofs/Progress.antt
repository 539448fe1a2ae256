-- A pull that is not idle leaves a shorter stream; an idle one leaves nothing waiting.
use Rattle.std.proofs.Common.{◌≡◌, ℕ, ◌+◌, ◌-◌, ◌<◌, ◌≤◌, max, List, [], ◌++◌, length, take, drop, sym, refl, ap, ◌∙◌, ⊎_elim, arith, length-append, length-drop, length-take}
use Rattle.std.proofs.lemmas.List.{nil_from_length, drop_all}
use Rattle.std.proofs.lemmas.Bool.{cond-false, le-ltb, cases_lt}
use Rattle.packet.specs.Packets.{claimed}
use Rattle.paging.specs.Schemes.{Scheme}
use Rattle.protocol.specs.Links.{Link, idle, Reading, Fixing, Entering}
use Rattle.protocol.specs.Pulls.{Event, Outcome, empty, partial, sign, broken, packet, found, left, done, outcome_of, pull_full, pulled}
use Rattle.protocol.proofs.Pulls.{not_idle, routed_not_idle}
use Rattle.held.specs.Streams.{passed}
use Rattle.link.proofs.Opens.{routed_is}

-- how many bytes an outcome leaves, held and waiting
abbrev pub remains : Outcome → ℕ
remains o = length o.state.held + length o.waiting

fewer : (h v : List ℕ) (seen removed : ℕ) → 1 ≤ removed → removed ≤ seen → 1 ≤ length h + length v → length (left h v seen removed) + length (drop (seen - length h) v) < length h + length v
fewer h v seen removed i j k =
    omega (arith, length-drop removed (take (max seen (length h)) (h ++ v)), length-take (max seen (length h)) (h ++ v), length-append h v, length-drop (seen - length h) v)

module _ (a b : Scheme) (rd : Reading) (fx : Fixing) (en : Entering) (l : Link) (v buf : List ℕ) where
  by_event : (p : ℕ) (e : Event) → 1 ≤ length l.held + length v → ((n : ℕ) → (done a b rd fx en l v p e).answer ≡ idle n → ⊥) → remains (outcome_of (done a b rd fx en l v p e) v buf) < length l.held + length v
  by_event p empty k ne = absurd (ne 0 refl)
  by_event p partial k ne = absurd (ne _ refl)
  by_event p (sign c) k ne = fewer l.held v (p + 1) (p + 1) (omega arith) (omega arith) k
  by_event p (broken why) k ne = fewer l.held v (p + claimed (drop p (l.held ++ v))) (p + 1) (omega arith) (omega arith) k
  by_event p (packet q) k ne =
      let n : ℕ = p + (length q.content + 6) in
      let h : List ℕ = left l.held v n n in
      let e : remains (outcome_of (done a b rd fx en l v p (packet q)) v buf) ≡ length h + length (drop (n - length l.held) v) =
      ap remains (routed_is a b rd fx en l v buf h (n - length l.held) q) in
      let f = fewer l.held v n n (omega arith) (omega arith) k in
      omega (arith, e, f)

  some : ((n : ℕ) → (pull_full a b rd fx en l v).answer ≡ idle n → ⊥) → 1 ≤ length l.held + length v
  some ne =
      ⊎_elim
      (λ i.
      let z : l.held ++ v ≡ [] = nil_from_length (l.held ++ v) (omega (arith, length-append l.held v)) in
      absurd (ne 0 (ap (λ w. (done a b rd fx en l v (found l.in_step w).passed (found l.in_step w).event).answer) z)))
      (λ i. i)
      (cases_lt (length l.held + length v) 1)

  pub progress : 8064 ≤ length buf → (o : Outcome) → o ≡ pulled a b rd fx en l v buf → ((n : ℕ) → o.answer ≡ idle n → ⊥) → remains o < length l.held + length v
  progress room o e ne =
      let whole : o ≡ outcome_of (pull_full a b rd fx en l v) v buf = e ∙ ap (λ x. outcome_of x v buf) (cond-false _ _ _ (le-ltb (length buf) 8064 room)) in
      let not_idle : (n : ℕ) → (pull_full a b rd fx en l v).answer ≡ idle n → ⊥ = λ n i. ne n (ap (λ (x : Outcome). x.answer) whole ∙ i) in
      let f = by_event (passed l.in_step (l.held ++ v)) (found l.in_step (l.held ++ v)).event (some not_idle) not_idle in
      omega (arith, ap remains whole, f)

  by_idle : (p : ℕ) (e : Event) (n : ℕ) → (done a b rd fx en l v p e).answer ≡ idle n → drop (done a b rd fx en l v p e).taken v ≡ []
  by_idle p empty n i = drop_all (length v) v (omega arith)
  by_idle p partial n i = drop_all (length v) v (omega arith)
  by_idle p (sign c) n i = absurd (not_idle tt i)
  by_idle p (broken why) n i = absurd (not_idle tt i)
  by_idle p (packet q) n i =
      let m : ℕ = p + (length q.content + 6) in
      absurd (not_idle (routed_not_idle a b rd fx en l (left l.held v m m) (m - length l.held) q) i)

  pub nothing_waits : 8064 ≤ length buf → (o : Outcome) → o ≡ pulled a b rd fx en l v buf → (n : ℕ) → o.answer ≡ idle n → o.waiting ≡ []
  nothing_waits room o e n i =
      let whole : o ≡ outcome_of (pull_full a b rd fx en l v) v buf = e ∙ ap (λ x. outcome_of x v buf) (cond-false _ _ _ (le-ltb (length buf) 8064 room)) in
      ap (λ (x : Outcome). x.waiting) whole
      ∙ by_idle (passed l.in_step (l.held ++ v)) (found l.in_step (l.held ++ v)).event n (sym (ap (λ (x : Outcome). x.answer) whole) ∙ i)
