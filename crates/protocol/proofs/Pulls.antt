-- One pull that answers, by the event that it finds: what it takes and leaves, and that neither the room of a full buffer nor bytes behind on the line change it.
use Rattle.std.proofs.Common.{◌≡◌, ℕ, ◌+◌, ◌-◌, ◌<◌, ◌≤◌, max, Bool, true, false, cond, eqb, ltb, List, [], ◌++◌, length, take, drop, sym, refl, ap, ◌∙◌, subst, append_assoc, arith, length-append, length-drop}
use lib.Seq.{drop-append-le, take-append-le}
use Rattle.std.proofs.lemmas.Bool.{cond_both, cond-false, le-ltb}
use Rattle.packet.specs.Packets.{Packet}
use Rattle.paging.specs.Schemes.{Scheme}
use Rattle.joining.specs.Joining.{Joined, collected, more, whole, refuses}
use Rattle.protocol.specs.Links.{Answer, Link, Reading, Fixing, Entering, idle, signal, page, report, other, refused}
use Rattle.protocol.specs.Pulls.{Pull, Event, empty, partial, sign, broken, packet, Found, found, pull, pull_full, done, routed, answer_to, left, holding}
use Rattle.protocol.proofs.Streams.{Settled, size_of, gone_of, gone_least, size_of_more, found_more}
use Rattle.protocol.proofs.Accounts.{rest_is}

-- ---- answers other than idle
abbrev pub NotIdle : Answer → Type 0
NotIdle (idle h) = ⊥
NotIdle (signal b) = Unit {0}
NotIdle (page t n l) = Unit {0}
NotIdle (report t k n r) = Unit {0}
NotIdle (other s t n) = Unit {0}
NotIdle (refused r) = Unit {0}

pub not_idle : {x : Answer} {n : ℕ} → NotIdle x → x ≡ idle n → ⊥
not_idle h e = subst NotIdle e h

answer_to_not_idle : (reading : Reading) (s : Scheme) (j : Joined) → NotIdle (answer_to reading s j)
answer_to_not_idle reading s (more n total) = tt
answer_to_not_idle reading s (whole key body) = tt
answer_to_not_idle reading s (refuses r) = tt

-- ---- what a link finds on a line
abbrev pub seen_on : Link → List ℕ → Found
seen_on l line = found l.in_step (l.held ++ line)

-- how far the stream is seen, and how many bytes of it go
abbrev pub seen_to : List ℕ → Found → ℕ
seen_to w f = f.passed + size_of (drop f.passed w) f.event

abbrev pub gone_to : Found → ℕ
gone_to f = f.passed + gone_of f.event

-- the link with other bytes held
abbrev pub keep : Link → List ℕ → Link
keep l h = holding l h l.in_step

-- the pull with other bytes held after it, and others taken
abbrev pub rebuilt : List ℕ → ℕ → Pull → Pull
rebuilt h t q = record { answer = q.answer; written = q.written; after = keep q.after h; taken = t }

either_rebuilt : (v : Bool) (h : List ℕ) (t : ℕ) (p q p' q' : Pull) → p ≡ rebuilt h t p' → q ≡ rebuilt h t q' → cond v p q ≡ rebuilt h t (cond v p' q')
either_rebuilt true h t p q p' q' x y = x
either_rebuilt false h t p q p' q' x y = y

module _ (a b : Scheme) (reading : Reading) (fix_of : Fixing) (enter : Entering) where
  abbrev pub full : Link → List ℕ → Pull
  full = pull_full a b reading fix_of enter

  -- ---- from 8064 bytes up the room does not matter
  pub full_room : (room : ℕ) (l : Link) (line : List ℕ) → 8064 ≤ room → pull a b reading fix_of enter room l line ≡ full l line
  full_room room l line h = cond-false (ltb room 8064) _ _ (le-ltb room 8064 h)

  pub any_room : (room room' : ℕ) (l : Link) (line : List ℕ) → 8064 ≤ room → 8064 ≤ room' → pull a b reading fix_of enter room l line ≡ pull a b reading fix_of enter room' l line
  any_room room room' l line h h' = full_room room l line h ∙ sym (full_room room' l line h')

  -- ---- what an event makes of a link, its bytes aside
  abbrev pub core : Link → Event → Pull
  core l empty = record { answer = idle 0; written = []; after = keep l []; taken = 0 }
  core l partial = record { answer = idle 0; written = []; after = keep l []; taken = 0 }
  core l (sign x) = record { answer = signal x; written = []; after = keep l []; taken = 0 }
  core l (broken why) = record { answer = refused why; written = []; after = holding l [] false; taken = 0 }
  core l (packet p) = routed a b reading fix_of enter l [] 0 p

  pub routed_not_idle : (l : Link) (h : List ℕ) (t : ℕ) (p : Packet) → NotIdle (routed a b reading fix_of enter l h t p).answer
  routed_not_idle l h t p =
      cond_both (eqb p.type a.type) _ _ (λ (q : Pull). NotIdle q.answer) (λ _. answer_to_not_idle reading a (collected a p.content l.first).joined)
      (λ _. cond_both (eqb p.type b.type) _ _ (λ (q : Pull). NotIdle q.answer) (λ _. answer_to_not_idle reading b (collected b p.content l.second).joined) (λ _. tt))

  core_not_idle : (l : Link) (e : Event) → Settled e → NotIdle (core l e).answer
  core_not_idle l empty h = h
  core_not_idle l partial h = h
  core_not_idle l (sign x) h = tt
  core_not_idle l (broken why) h = tt
  core_not_idle l (packet p) h = routed_not_idle l [] 0 p

  -- a pull that answers
  abbrev pub formed : Link → List ℕ → Found → Pull
  formed l line f =
      let seen : ℕ = seen_to (l.held ++ line) f in
      rebuilt (left l.held line seen (gone_to f)) (seen - length l.held) (core l f.event)

  done_formed : (l : Link) (line : List ℕ) (n : ℕ) (e : Event) → Settled e → done a b reading fix_of enter l line n e ≡ formed l line (record { passed = n; event = e })
  done_formed l line n empty h = absurd h
  done_formed l line n partial h = absurd h
  done_formed l line n (sign x) h = refl
  done_formed l line n (broken why) h = refl
  done_formed l line n (packet p) h =
      either_rebuilt (eqb p.type a.type) _ _ _ _ _ _ refl (either_rebuilt (eqb p.type b.type) _ _ _ _ _ _ refl refl)

  module _ (l : Link) (line : List ℕ) (h : Settled (seen_on l line).event) where
    abbrev w : List ℕ
    w = l.held ++ line

    abbrev f : Found
    f = seen_on l line

    pub answers : full l line ≡ formed l line f
    answers = done_formed l line f.passed f.event h

    pub full_not_idle : NotIdle (full l line).answer
    full_not_idle = subst (λ (q : Pull). NotIdle q.answer) (sym answers) (core_not_idle l f.event h)

    -- the seen bytes lie in the stream
    seen_fits : seen_to w f ≤ length w
    seen_fits = (found_more l.in_step [] w h).fits

    pub taken_fits : (full l line).taken ≤ length line
    taken_fits =
        let fits = seen_fits in
        let long = length-append l.held line in
        rw answers (omega arith)

    -- no byte is lost
    pub left_over : (full l line).after.held ++ drop (full l line).taken line ≡ drop (gone_to f) w
    left_over =
        let some = gone_least (drop f.passed w) f.event h in
        ap (λ (q : Pull). q.after.held ++ drop q.taken line) answers ∙ rest_is l.held line (seen_to w f) (gone_to f) (omega arith) seen_fits

    -- a pull that answers takes bytes
    pub fewer : length ((full l line).after.held ++ drop (full l line).taken line) < length w
    fewer =
        let some = gone_least (drop f.passed w) f.event h in
        let fits = seen_fits in
        rw (left_over, length-drop) (omega arith)

    -- bytes behind on the line change nothing
    pub longer : (t : List ℕ) → full l line ≡ full l (line ++ t)
    longer t =
        let fits = seen_fits in
        let m : ℕ = max (seen_to w f) (length l.held) in
        let stream : l.held ++ (line ++ t) ≡ w ++ t = sym (append_assoc l.held line t) in
        let same : seen_on l (line ++ t) ≡ f = ap (found l.in_step) stream ∙ (found_more l.in_step t w h).same in
        let past : f.passed ≤ length w = omega arith in
        let size_fits : size_of (drop f.passed w) f.event ≤ length (drop f.passed w) = rw length-drop (omega arith) in
        let to : seen_to (l.held ++ (line ++ t)) f ≡ seen_to w f =
        ap (λ z. f.passed + size_of (drop f.passed z) f.event) stream
        ∙ ap (λ z. f.passed + size_of z f.event) (drop-append-le f.passed w t past)
        ∙ ap (λ n. f.passed + n) (size_of_more (drop f.passed w) t f.event size_fits) in
        let most : max (seen_to w f) (length l.held) ≤ length w = simp length-append (omega (arith, length-append l.held line)) in
        let front : take (max (seen_to (l.held ++ (line ++ t)) f) (length l.held)) (l.held ++ (line ++ t)) ≡ take m w =
        ap (λ n. take (max n (length l.held)) (l.held ++ (line ++ t))) to ∙ ap (take m) stream ∙ take-append-le m w t most in
        let form : formed l (line ++ t) f ≡ formed l line f = λ i. rebuilt (drop (gone_to f) (front i)) (to i - length l.held) (core l f.event) in
        let settled : Settled (seen_on l (line ++ t)).event = subst (λ (g : Found). Settled g.event) (sym same) h in
        answers ∙ sym (done_formed l (line ++ t) (seen_on l (line ++ t)).passed (seen_on l (line ++ t)).event settled ∙ ap (formed l (line ++ t)) same ∙ form)
