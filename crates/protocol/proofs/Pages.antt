-- The pages that a collector holds stand in order among the bytes taken, and so do those of a report.
use Rattle.std.proofs.Common.{◌≡◌, ℕ, suc, ◌+◌, ◌<◌, ◌≤◌, true, ◌&&◌, eqb, leb, List, [], ◌∷◌, ◌++◌, length, take, drop, sym, refl, ap, ◌∙◌, subst, subst₂, append_assoc, append-nil, arith}
use Rattle.std.proofs.lemmas.List.{length_push}
use Rattle.std.proofs.lemmas.Bool.{cond_both, eqb-true, and_parts}
use Rattle.packet.specs.Bytes.{AreBytes, concat}
use Rattle.packet.specs.Packets.{Packet, frame}
use Rattle.paging.specs.declared.header.Header.{Header}
use Rattle.paging.specs.Schemes.{Scheme, Head, reads, too_short, unfit}
use Rattle.joining.specs.Joining.{Held, no_pages, Joined, more, whole, refuses, Collected, joined_to, kept, next_page, read_page, collected, out_of_turn}
use Rattle.protocol.specs.Reports.{Pages}
use Rattle.protocol.specs.Spans.{Span, Stand, Apart}
use Rattle.protocol.proofs.Spans.{Ends, ends_none, ends_later, ends_push, apart_push, apart_none, stand_push}

-- the packet is the page n + 1
pub record PageAt (s : Scheme) (key total n : ℕ) (p : Packet) : Type 0 where
  pub status : p.status < 256
  pub type : p.type ≡ s.type
  pub bytes : AreBytes p.content
  pub small : length p.content ≤ 255
  pub read : s.read p.content ≡ reads (record { key = key; page = n + 1; total = total })

abbrev pub AllPages : Scheme → ℕ → ℕ → ℕ → List Packet → Type 0
AllPages s key total n [] = Unit {0}
AllPages s key total n (p ∷ ps) = PageAt s key total n p × AllPages s key total (n + 1) ps

abbrev pub bodies_of : Scheme → List Packet → List (List ℕ)
bodies_of s [] = []
bodies_of s (p ∷ ps) = drop s.header p.content ∷ bodies_of s ps

body_push : (s : Scheme) (ps : List Packet) (p : Packet) → concat (bodies_of s (ps ++ (p ∷ []))) ≡ concat (bodies_of s ps) ++ drop s.header p.content
body_push s [] p = append-nil (drop s.header p.content)
body_push s (q ∷ ps) p =
    let body : List ℕ = drop s.header q.content in
    ap (λ l. body ++ l) (body_push s ps p) ∙ sym (append_assoc body (concat (bodies_of s ps)) (drop s.header p.content))

pages_push : (s : Scheme) (key total n : ℕ) (ps : List Packet) (p : Packet) → AllPages s key total n ps → PageAt s key total (n + length ps) p → AllPages s key total n (ps ++ (p ∷ []))
pages_push s key total n [] p a h = let e : n + 0 ≡ n = omega arith in (subst (λ k. PageAt s key total k p) e h, tt)
pages_push s key total n (q ∷ ps) p a h = let e : n + suc (length ps) ≡ n + 1 + length ps = omega arith in (a.0, pages_push s key total (n + 1) ps p a.1 (subst (λ k. PageAt s key total k p) e h))

pub pages_whole : (s : Scheme) (key total n : ℕ) (ps : List Packet) → AllPages s key total n ps → n + length ps ≡ total → Pages s key total n ps (bodies_of s ps)
pages_whole s key total n [] a e = let q : total ≡ n = omega arith in subst (λ k. Pages s key total k [] []) q Pages.none
pages_whole s key total n (p ∷ ps) a e = Pages.next p a.0.status a.0.type a.0.bytes a.0.small a.0.read (pages_whole s key total (n + 1) ps a.1 (omega arith))

-- so many pages from 1 on that have come, their bodies joined, and where they stand
pub record Gathered (s : Scheme) (taken : List ℕ) (t key total count : ℕ) (joined : List ℕ) : Type 0 where
  pub packets : List Packet
  pub spans : List Span
  pub pages : AllPages s key total 0 packets
  pub counted : length packets ≡ count
  pub are : joined ≡ concat (bodies_of s packets)
  pub stand : Stand taken 0 packets spans
  pub ends : Ends t spans

abbrev pub Holds : Scheme → List ℕ → ℕ → Held → Type 0
Holds s taken t x = Gathered s taken t x.key x.total x.count x.joined

abbrev pub nothing_yet : (s : Scheme) (taken : List ℕ) (t key total : ℕ) → Gathered s taken t key total 0 []
nothing_yet s taken t key total = record { packets = []; spans = []; pages = tt; counted = refl; are = refl; stand = Stand.none; ends = ends_none t }

-- the packet stands at the span, behind the place t
pub record Lies (s : Scheme) (taken : List ℕ) (t : ℕ) (p : Packet) (y : Span) : Type 0 where
  pub status : p.status < 256
  pub type : p.type ≡ s.type
  pub bytes : AreBytes p.content
  pub small : length p.content ≤ 255
  pub behind : t ≤ y.at
  pub fits : y.at + y.size ≤ length taken
  pub is : take y.size (drop y.at taken) ≡ frame p

-- what lies by t and apart from the old spans lies apart from the new ones
abbrev pub Grown : ℕ → List Span → List Span → Type 0
Grown t old new = (ys : List Span) → Ends t ys → Apart ys old → Apart ys new

-- all pages of a report
pub record Report (s : Scheme) (taken : List ℕ) (t u : ℕ) (old : List Span) (key : ℕ) (body : List ℕ) : Type 0 where
  pub total : ℕ
  pub all : Gathered s taken u key total total body
  pub some : 1 ≤ total
  pub grown : Grown t old all.spans

-- what came of a page
abbrev pub Step : Scheme → List ℕ → ℕ → ℕ → List Span → Joined → Held → Type 0
Step s taken t u old (more n total) x = (g : Holds s taken u x) × Grown t old g.spans
Step s taken t u old (whole key body) x = (x ≡ no_pages) × Report s taken t u old key body
Step s taken t u old (refuses r) x = x ≡ no_pages

module _ (s : Scheme) (taken : List ℕ) (t : ℕ) (p : Packet) (y : Span) (lies : Lies s taken t p y) where
  abbrev u : ℕ
  u = y.at + y.size

  abbrev body : List ℕ
  body = drop s.header p.content

  abbrev pushed : (key total count next : ℕ) (joined : List ℕ) (g : Gathered s taken t key total count joined) → next ≡ count + 1 → PageAt s key total count p → Gathered s taken u key total next (joined ++ body)
  pushed key total count next joined g e h = record {
    packets = g.packets ++ (p ∷ []);
    spans = g.spans ++ (y ∷ []);
    pages = pages_push s key total 0 g.packets p g.pages (let n : count ≡ 0 + length g.packets = omega (arith, g.counted) in subst (λ k. PageAt s key total k p) n h);
    counted = let n = length_push g.packets p in omega (arith, g.counted);
    are = ap (λ l. l ++ body) g.are ∙ sym (body_push s g.packets p);
    stand = stand_push p y g.stand (omega arith) (ends_later t y.at g.spans lies.behind g.ends) lies.fits lies.is;
    ends = ends_push t u g.spans y g.ends (omega arith) (omega arith);
  }

  page_at : (h : Header) (n : ℕ) → s.read p.content ≡ reads h → h.page ≡ n + 1 → PageAt s h.key h.total n p
  page_at h n e q = record {
    status = lies.status;
    type = lies.type;
    bytes = lies.bytes;
    small = lies.small;
    read = e ∙ ap (λ k. reads (record { key = h.key; page = k; total = h.total })) q;
  }

  abbrev Done : List Span → Collected → Type 0
  Done old c = Step s taken t u old c.joined c.held

  kept_step : (old : List Span) (h : Header) (bodies : List ℕ) (g : Gathered s taken u h.key h.total h.page bodies) → 1 ≤ h.page → Grown t old g.spans → Done old (kept h bodies)
  kept_step old h bodies g o w =
      cond_both (leb (length bodies) 8064) (joined_to h bodies) (out_of_turn h.page) (Done old)
      (λ _. cond_both (eqb h.page h.total) _ _ (Done old)
      (λ e.
      let q : h.page ≡ h.total = eqb-true h.page h.total e in
      let all : Gathered s taken u h.key h.total h.total bodies = record { packets = g.packets; spans = g.spans; pages = g.pages; counted = g.counted ∙ q; are = g.are; stand = g.stand; ends = g.ends } in
      (refl, record { total = h.total; all = all; some = omega arith; grown = w }))
      (λ _. (g, w)))
      (λ _. refl)

  first_step : (old : List Span) (h : Header) → s.read p.content ≡ reads h → h.page ≡ 1 → Done old (kept h body)
  first_step old h e q =
      kept_step old h body (pushed h.key h.total 0 h.page [] (nothing_yet s taken t h.key h.total) (omega arith) (page_at h 0 e q)) (omega arith)
      (λ ys d _. apart_push t ys [] y d lies.behind (apart_none ys))

  next_step : (x : Held) (g : Holds s taken t x) (h : Header) → s.read p.content ≡ reads h → next_page h x ≡ true → Done g.spans (kept h (x.joined ++ body))
  next_step x g h e b =
      let b₁ = and_parts (eqb h.page (x.count + 1)) (eqb h.key x.key && eqb h.total x.total) b in
      let b₂ = and_parts (eqb h.key x.key) (eqb h.total x.total) b₁.1 in
      let n : h.page ≡ x.count + 1 = eqb-true h.page (x.count + 1) b₁.0 in
      let k : h.key ≡ x.key = eqb-true h.key x.key b₂.0 in
      let l : h.total ≡ x.total = eqb-true h.total x.total b₂.1 in
      let g' : Gathered s taken t h.key h.total x.count x.joined = record {
        packets = g.packets;
        spans = g.spans;
        pages = subst₂ (λ i j. AllPages s i j 0 g.packets) (sym k) (sym l) g.pages;
        counted = g.counted;
        are = g.are;
        stand = g.stand;
        ends = g.ends;
      } in
      kept_step g.spans h (x.joined ++ body) (pushed h.key h.total x.count h.page x.joined g' n (page_at h x.count e n)) (omega arith)
      (λ ys d a. apart_push t ys g.spans y d lies.behind a)

  read_step : (x : Held) (g : Holds s taken t x) (hd : Head) → s.read p.content ≡ hd → Done g.spans (read_page s p.content x hd)
  read_step x g (reads h) e =
      cond_both (eqb h.page 1) _ _ (Done g.spans)
      (λ b. first_step g.spans h e (eqb-true h.page 1 b))
      (λ _. cond_both (next_page h x) _ _ (Done g.spans) (λ b. next_step x g h e b) (λ _. refl))
  read_step x g too_short e = refl
  read_step x g unfit e = refl

  pub page_step : (x : Held) (g : Holds s taken t x) → Step s taken t (y.at + y.size) g.spans (collected s p.content x).joined (collected s p.content x).held
  page_step x g = read_step x g (s.read p.content) refl
