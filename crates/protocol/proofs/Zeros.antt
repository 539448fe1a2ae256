-- A report behind 257 zero bytes is delivered, whatever came before them.
use Rattle.std.proofs.Common.{◌≡◌, ℕ, zero, suc, ◌+◌, ◌-◌, ◌*◌, ◌<◌, ◌≤◌, ◌⊎◌, List, [], ◌∷◌, ◌++◌, length, drop, replicate, sym, refl, ap, ◌∙◌, subst, inl, inr, append_assoc, append-nil, add-zero, arith, lit≤, length-append, length-take}
use lib.Seq.{drop-append-add}
use Rattle.std.proofs.lemmas.List.{drop_at, drop_all, drop-append-le}
use Rattle.packet.specs.Bytes.{AreBytes, concat}
use Rattle.packet.specs.Packets.{Packet, frame, frames}
use Rattle.paging.specs.Schemes.{Scheme, Laws}
use Rattle.joining.specs.Joining.{Held, Collected, collected}
use Rattle.protocol.specs.Links.{Reading, Fixing, Entering, Link, idle}
use Rattle.protocol.specs.Pulls.{packet, Found, found, Pull, answer_to, written_by, routed, left, done, pull}
use Rattle.protocol.specs.Runs.{Given, given, Full, ToIdle}
use Rattle.protocol.specs.Runs.ToIdle.{rests, goes}
use Rattle.protocol.specs.Reports.{Pages, page_answers, report_answer}
use Rattle.protocol.specs.Reports.Pages.{none, next}
use Rattle.protocol.specs.Promises.{PulledToIdle, ReportSurvivesZeros, ForLawfulSchemes}
use Rattle.packet.proofs.Bytes.{bytes_append}
use Rattle.packet.proofs.Fronts.{length_frame}
use Rattle.protocol.proofs.Streams.{Passable, found_pass, Settled, found_frame}
use Rattle.protocol.proofs.Pulls.{NotIdle, not_idle, seen_on, gone_to, full, full_room, full_not_idle, taken_fits, left_over, fewer, longer}
use Rattle.protocol.proofs.Histories.{kept_always}
use Rattle.protocol.proofs.Room.{in_turn, room_next}
use Rattle.protocol.proofs.ZerosScan.{Complete, complete_drop, zeros_complete_all, scan}
use Rattle.protocol.proofs.ZerosPages.{joins_total, joins_more, Takes, takes, lawful_one}

module _ (a b : Scheme) (reading : Reading) (fix_of : Fixing) (enter : Entering) where
  abbrev F : Link → List ℕ → Pull
  F = full a b reading fix_of enter

  -- pulled to idle with any full buffers, from any pull on
  abbrev Runs : Link → List ℕ → List Given → ℕ → Type 0
  Runs l line gs held = (rooms : ℕ → ℕ) → Full rooms → (i : ℕ) → ToIdle (pull a b reading fix_of enter) rooms i l line gs held

  rests_by : (l : Link) (line : List ℕ) (held : ℕ) → (F l line).answer ≡ idle held → Runs l line [] held
  rests_by l line held e rooms f i = rests (ap (λ (q : Pull). q.answer) (full_room a b reading fix_of enter (rooms i) l line (f i)) ∙ e)

  goes_by : (l : Link) (line : List ℕ) (q : Pull) {rest : List Given} {held : ℕ} → F l line ≡ q → NotIdle q.answer → Runs q.after (drop q.taken line) rest held → Runs l line (given q ∷ rest) held
  goes_by l line q {rest} {held} e h r rooms f i =
      subst (λ (q : Pull). NotIdle q.answer → ToIdle (pull a b reading fix_of enter) rooms (suc i) q.after (drop q.taken line) rest held → ToIdle (pull a b reading fix_of enter) rooms i l line (given q ∷ rest) held)
      (full_room a b reading fix_of enter (rooms i) l line (f i) ∙ e) (λ h r. goes (λ n. not_idle h) r) h (r rooms f (suc i))

  -- ---- bytes that are passed over, with a packet behind them
  quiet_rests : (l : Link) (line : List ℕ) → Passable l.in_step (l.held ++ line) → Runs l line [] 0
  quiet_rests l line q =
      let w : List ℕ = l.held ++ line in
      let e : found l.in_step w ≡ record { passed = length w + 0; event = _ } = ap (found l.in_step) (sym (append-nil w)) ∙ found_pass l.in_step w [] q in
      rests_by l line 0 (ap (λ (f : Found). (done a b reading fix_of enter l line f.passed f.event).answer) e)

  module _ (l : Link) (line : List ℕ) (q : Passable l.in_step (l.held ++ line)) (p : Packet) (rest : List ℕ) where
    abbrev w : List ℕ
    w = l.held ++ line

    abbrev seen : ℕ
    seen = length w + (length p.content + 6)

    over : length l.held ≤ seen
    over = simp length-append (omega arith)

    stream : l.held ++ (line ++ (frame p ++ rest)) ≡ w ++ (frame p ++ rest)
    stream = sym (append_assoc l.held line (frame p ++ rest))

    quiet_found : seen_on l (line ++ (frame p ++ rest)) ≡ record { passed = length w; event = packet p }
    quiet_found =
        ap (found l.in_step) stream
        ∙ found_pass l.in_step w (frame p ++ rest) q
        ∙ ap (λ (f : Found). record { passed = length w + f.passed; event = f.event }) (found_frame l.in_step p rest)
        ∙ ap (λ n. record { passed = n; event = packet p }) (add-zero (length w))

    quiet_held : left l.held (line ++ (frame p ++ rest)) seen seen ≡ []
    quiet_held = let o = over in drop_all seen _ (simp length-take (omega arith))

    quiet_pull : F l (line ++ (frame p ++ rest)) ≡ routed a b reading fix_of enter l [] (seen - length l.held) p
    quiet_pull =
        ap (λ (f : Found). done a b reading fix_of enter l (line ++ (frame p ++ rest)) f.passed f.event) quiet_found
        ∙ ap (λ h. routed a b reading fix_of enter l h (seen - length l.held) p) quiet_held

    quiet_line : drop (seen - length l.held) (line ++ (frame p ++ rest)) ≡ rest
    quiet_line =
        let n : seen - length l.held ≡ length line + (length p.content + 6) = omega (arith, length-append l.held line) in
        ap (λ k. drop k (line ++ (frame p ++ rest))) n
        ∙ drop-append-add line (frame p ++ rest) (length p.content + 6)
        ∙ drop_at (frame p) rest (length p.content + 6) (length_frame p)

  -- ---- the pages of a report
  module _ (s : Scheme) (laws : Laws s) (x : Link → Held) (takes : Takes a b reading fix_of enter s x) (key total : ℕ) where
    page_goes : (l : Link) (line : List ℕ) (p : Packet) (rest : List ℕ) (tail : List Given) (c : Collected) → Passable l.in_step (l.held ++ line) → p.type ≡ s.type → collected s p.content (x l) ≡ c → NotIdle (answer_to reading s c.joined)
        → ((m : Link) → m.held ≡ [] → x m ≡ c.held → Runs m rest tail 0)
        → Runs l (line ++ (frame p ++ rest)) (record { answer = answer_to reading s c.joined; written = written_by c.joined } ∷ tail) 0
    page_goes l line p rest tail c q t e i go =
        let n : ℕ = length (l.held ++ line) + (length p.content + 6) - length l.held in
        let r : Pull = routed a b reading fix_of enter l [] n p in
        let w = takes l [] n p t in
        let f : r.answer ≡ answer_to reading s c.joined = w.answer_is ∙ ap (λ (d : Collected). answer_to reading s d.joined) e in
        let g : r.written ≡ written_by c.joined = w.written_is ∙ ap (λ (d : Collected). written_by d.joined) e in
        let k : drop r.taken (line ++ (frame p ++ rest)) ≡ rest = ap (λ m. drop m (line ++ (frame p ++ rest))) w.taken_is ∙ quiet_line l line q p rest in
        let onward : Runs r.after rest tail 0 = go r.after w.held_is (w.pages_are ∙ ap (λ (d : Collected). d.held) e) in
        let same : given r ≡ record { answer = answer_to reading s c.joined; written = written_by c.joined } = λ j. record { answer = f j; written = g j } in
        subst (λ (y : Given). Runs l (line ++ (frame p ++ rest)) (y ∷ tail) 0) same (goes_by l (line ++ (frame p ++ rest)) r (quiet_pull l line q p rest) (subst NotIdle (sym f) i) (subst (λ z. Runs r.after z tail 0) (sym k) onward))

    -- the answers to k pages from page n + 1 on
    abbrev remaining : List ℕ → ℕ → ℕ → List Given
    remaining body n zero = []
    remaining body n (suc k) = page_answers s total n k ++ (report_answer reading s key body ∷ [])

    pages_end : {n : ℕ} {ps : List Packet} {bodies : List (List ℕ)} → Pages s key total n ps bodies → n ≡ total → (ps ≡ []) × (bodies ≡ [])
    pages_end none e = (refl, refl)
    pages_end (next p st ty by sm rd rest) e = let t = in_turn s laws p.content by sm _ rd in absurd (let z : ⊥ = omega arith in z)

    nil_quiet : (m : Link) → m.held ≡ [] → Passable m.in_step (m.held ++ [])
    nil_quiet m e = subst (λ h. Passable m.in_step (h ++ [])) (sym e) tt

    -- n pages are held, with their bodies joined, and k are to come
    pub walk : {n : ℕ} {ps : List Packet} {bodies : List (List ℕ)} → Pages s key total n ps bodies → (l : Link) (line : List ℕ) → Passable l.in_step (l.held ++ line)
        → (acc : List ℕ) → length acc ≤ n * (255 - s.header) → (n ≡ 0) ⊎ (x l ≡ record { key = key; total = total; count = n; joined = acc })
        → (k : ℕ) → n + k ≡ total → (all : List ℕ) → acc ++ concat bodies ≡ all → Runs l (line ++ frames ps) (remaining all n k) 0
    walk none l line q acc room holds k sum all same =
        let z : k ≡ 0 = omega arith in
        rw (append-nil line, z) (quiet_rests l line q)
    walk (next p st ty by sm rd rest) l line q acc room holds zero sum all same =
        let t = in_turn s laws p.content by sm _ rd in
        absurd (let z : ⊥ = omega arith in z)
    walk {n} (next {ps} {bodies} p st ty by sm rd rest) l line q acc room holds (suc zero) sum all same =
        let body : List ℕ = drop s.header p.content in
        let e : n + 1 ≡ total = omega arith in
        let o = pages_end rest e in
        let w : acc ++ body ≡ all = ap (λ z. acc ++ z) (sym (append-nil body)) ∙ ap (λ z. acc ++ (body ++ concat z)) (sym o.1) ∙ same in
        subst (λ z. Runs l (line ++ (frame p ++ frames ps)) (report_answer reading s key z ∷ []) 0) w
        (page_goes l line p (frames ps) [] _ q ty (joins_total s laws key total n p.content by sm rd acc room e (x l) holds) tt
        (λ m f g. subst (λ y. Runs m (frames y) [] 0) (sym o.0) (quiet_rests m [] (nil_quiet m f))))
    walk {n} (next {ps} {bodies} p st ty by sm rd rest) l line q acc room holds (suc (suc k)) sum all same =
        let body : List ℕ = drop s.header p.content in
        page_goes l line p (frames ps) (remaining all (n + 1) (suc k)) _ q ty (joins_more s laws key total n p.content by sm rd acc room (λ e. let z : ⊥ = omega arith in z) (x l) holds) tt
        (λ m f g. walk rest m [] (nil_quiet m f) (acc ++ body) (room_next s laws p.content by sm _ rd n acc room refl) (inr g) (suc k) (omega arith) all (append_assoc acc body (concat bodies) ∙ same))

  -- ---- a line pulled to idle, alone and with more behind it
  record Both (t : List ℕ) (answers : List Given) (l : Link) (line : List ℕ) : Type 0 where
    before : List Given
    alone : Runs l line before 0
    more_behind : Runs l (line ++ t) (before ++ answers) 0

  module _ (t : List ℕ) (answers : List Given) (start : (l : Link) (line : List ℕ) → Passable l.in_step (l.held ++ line) → Runs l (line ++ t) answers 0) where
    run : (n : ℕ) (l : Link) (line : List ℕ) → length (l.held ++ line) < n → Complete (l.held ++ line) → Both t answers l line
    run zero l line h w = let z : ⊥ = omega arith in absurd z
    run (suc n) l line h w = go (run n) (scan l.in_step (l.held ++ line) w)
      where
        go : ((l : Link) (line : List ℕ) → length (l.held ++ line) < n → Complete (l.held ++ line) → Both t answers l line) → Passable l.in_step (l.held ++ line) ⊎ Settled (seen_on l line).event → Both t answers l line
        go ih (inl q) = record { before = []; alone = quiet_rests l line q; more_behind = start l line q }
        go ih (inr k) =
            let q : Pull = F l line in
            let answer = full_not_idle a b reading fix_of enter l line k in
            let less = fewer a b reading fix_of enter l line k in
            let then = ih q.after (drop q.taken line) (omega arith) (subst Complete (sym (left_over a b reading fix_of enter l line k)) (complete_drop (gone_to (seen_on l line)) (l.held ++ line) w)) in
            record {
              before = given q ∷ then.before;
              alone = goes_by l line q refl answer then.alone;
              more_behind = goes_by l (line ++ t) q (sym (longer a b reading fix_of enter l line k t)) answer (subst (λ z. Runs q.after z (then.before ++ answers) 0) (sym (drop-append-le q.taken line t (taken_fits a b reading fix_of enter l line k))) then.more_behind);
            }

pub survives : ForLawfulSchemes ReportSurvivesZeros
survives a b la lb reading fix_of enter l taken past r waiting hw s one key total ps bodies pages some = go (replicate 257 0) (zeros_complete_all 257 (lit≤ tt))
  where
    answers : List Given
    answers = page_answers s total 0 (total - 1) ++ (report_answer reading s key (concat bodies) ∷ [])

    go : (zs : List ℕ) → ((y : List ℕ) → AreBytes y → Complete (y ++ zs)) → (before : List Given) × PulledToIdle a b reading fix_of enter l (waiting ++ zs) before 0 × PulledToIdle a b reading fix_of enter l (waiting ++ (zs ++ frames ps)) (before ++ answers) 0
    go zs complete =
        let x = takes a b reading fix_of enter s one in
        let whole : Complete (l.held ++ (waiting ++ zs)) = rw append_assoc at (complete (l.held ++ waiting) (bytes_append l.held waiting (kept_always a b reading fix_of enter r).bytes hw)) in
        let start : (m : Link) (line : List ℕ) → Passable m.in_step (m.held ++ line) → Runs a b reading fix_of enter m (line ++ frames ps) answers 0 =
        λ m line q. walk a b reading fix_of enter s (lawful_one a b s one la lb) x.0 x.1 key total pages m line q [] (omega arith) (inl refl) (suc (total - 1)) (omega arith) (concat bodies) refl in
        let both = run a b reading fix_of enter (frames ps) answers start (suc (length (l.held ++ (waiting ++ zs)))) l (waiting ++ zs) (omega arith) whole in
        (both.before, λ rooms f. both.alone rooms f 0, λ rooms f. subst (λ line. ToIdle (pull a b reading fix_of enter) rooms 0 l line (both.before ++ answers) 0) (append_assoc waiting zs (frames ps)) (both.more_behind rooms f 0))
