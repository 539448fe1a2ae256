-- Deliveries that are shown and pages held that stand apart from them, and what one page more makes of these.
use Rattle.std.proofs.Common.{◌≡◌, ℕ, suc, ◌+◌, ◌<◌, ◌≤◌, List, [], ◌∷◌, ◌++◌, map, length, get_or, take, sym, subst, subst₂, append-nil, suc-le-suc, arith}
use Rattle.std.proofs.lemmas.List.{take-append-le, take_all}
use Rattle.packet.specs.Packets.{Packet}
use Rattle.paging.specs.Schemes.{Scheme}
use Rattle.joining.specs.Joining.{Held, no_pages, Joined, more, whole, refuses, collected}
use Rattle.protocol.specs.Links.{Reading}
use Rattle.protocol.specs.Pulls.{answer_to, written_by}
use Rattle.protocol.specs.Reports.{Delivery, delivery}
use Rattle.protocol.specs.Spans.{Span, Stand, Apart, Shown, AllShown, GoesTo}
use Rattle.protocol.proofs.Spans.{Each, Ends, each_push, ends_later, apart_swap, apart_none, stand_more}
use Rattle.protocol.proofs.Accounts.{length_more}
use Rattle.protocol.proofs.Pages.{Gathered, Holds, nothing_yet, bodies_of, pages_whole, Lies, Step, page_step}

-- the pages held, when more bytes are taken or gone
abbrev later : {s : Scheme} {taken now : List ℕ} {t key total count : ℕ} {joined : List ℕ} (u : ℕ) → t ≤ u → (g : Gathered s taken t key total count joined) → Stand now 0 g.packets g.spans → Gathered s now u key total count joined
later {t} u h g stand = record { packets = g.packets; spans = g.spans; pages = g.pages; counted = g.counted; are = g.are; stand = stand; ends = ends_later t u g.spans h g.ends }

module _ (a b : Scheme) where
  abbrev Shows : List ℕ → List Delivery → List ℕ → List (List Span) → Type 0
  Shows = AllShown a b

  all_more : {taken : List ℕ} {ds : List Delivery} {ts : List ℕ} {xs : List (List Span)} (extra : List ℕ) → Shows taken ds ts xs → Shows (taken ++ extra) ds ts xs
  all_more extra AllShown.none = AllShown.none
  all_more {taken} extra (AllShown.next {d = d} {ds = ds} {time = time} {times = times} {others = others} h w c r) =
      let same : take time taken ≡ take time (taken ++ extra) = sym (take-append-le time taken extra h) in
      let long = length_more taken extra in
      subst (λ (v : List ℕ). (x : Shown a b v d) → ((k : ℕ) → k < length others → Apart x.spans (get_or others k [])) → Shows (taken ++ extra) (d ∷ ds) (time ∷ times) (x.spans ∷ others)) (sym same) (λ x e. AllShown.next (omega arith) x e (all_more extra r)) w c

  push_on : {taken : List ℕ} {ds : List Delivery} {ts : List ℕ} {xs : List (List Span)} {d : Delivery} (w : Shown a b (take (length taken) taken) d) → Shows taken ds ts xs → Each [] (λ x. Apart x w.spans) xs → Shows taken (ds ++ (d ∷ [])) (ts ++ (length taken ∷ [])) (xs ++ (w.spans ∷ []))
  push_on w AllShown.none e = AllShown.next (omega arith) w (λ k h. absurd (omega arith)) AllShown.none
  push_on w (AllShown.next {others} h v c r) e =
      AllShown.next h v (each_push [] (λ x. Apart v.spans x) others w.spans c (e 0 (omega arith))) (push_on w r (λ k h. e (suc k) (suc-le-suc h)))

  -- one delivery more, at this time
  all_push : {taken : List ℕ} {ds : List Delivery} {ts : List ℕ} {xs : List (List Span)} {d : Delivery} (w : Shown a b taken d) → Shows taken ds ts xs → Each [] (λ x. Apart x w.spans) xs → Shows taken (ds ++ (d ∷ [])) (ts ++ (length taken ∷ [])) (xs ++ (w.spans ∷ []))
  all_push {taken} {ds} {ts} {xs} {d} w s e =
      subst (λ (v : List ℕ). (x : Shown a b v d) → Each [] (λ z. Apart z x.spans) xs → Shows taken (ds ++ (d ∷ [])) (ts ++ (length taken ∷ [])) (xs ++ (x.spans ∷ []))) (take_all (length taken) taken (omega arith)) (λ x g. push_on x s g) w e

  -- the deliveries so far and the pages that two schemes hold stand apart, all by the place t
  pub record Core (s o : Scheme) (taken : List ℕ) (t : ℕ) (ds : List Delivery) (ts : List ℕ) (x y : Held) : Type 0 where
    pub spans : List (List Span)
    pub shown : Shows taken ds ts spans
    pub this : Holds s taken t x
    pub other : Holds o taken t y
    pub ends : Each [] (Ends t) spans
    pub from_this : Each [] (λ z. Apart z this.spans) spans
    pub from_other : Each [] (λ z. Apart z other.spans) spans
    pub between : Apart this.spans other.spans

  module _ {s o : Scheme} {taken : List ℕ} {t : ℕ} {ds : List Delivery} {ts : List ℕ} {x y : Held} (c : Core s o taken t ds ts x y) where
    pub swapped : Core o s taken t ds ts y x
    swapped = record {
      spans = c.spans;
      shown = c.shown;
      this = c.other;
      other = c.this;
      ends = c.ends;
      from_this = c.from_other;
      from_other = c.from_this;
      between = apart_swap c.this.spans c.other.spans c.between;
    }

    ends_by : (u : ℕ) → t ≤ u → Each [] (Ends u) c.spans
    ends_by u h k l = ends_later t u (get_or c.spans k []) h (c.ends k l)

    pub core_more : (extra : List ℕ) (u : ℕ) → t ≤ u → Core s o (taken ++ extra) u ds ts x y
    core_more extra u h = record {
      spans = c.spans;
      shown = all_more extra c.shown;
      this = later u h c.this (stand_more extra c.this.stand);
      other = later u h c.other (stand_more extra c.other.stand);
      ends = ends_by u h;
      from_this = c.from_this;
      from_other = c.from_other;
      between = c.between;
    }

    -- the pages held are dropped
    pub dropped : (u : ℕ) → t ≤ u → Core s o taken u ds ts no_pages y
    dropped u h = record {
      spans = c.spans;
      shown = c.shown;
      this = nothing_yet s taken u 0 0;
      other = later u h c.other c.other.stand;
      ends = ends_by u h;
      from_this = λ k l. apart_none (get_or c.spans k []);
      from_other = c.from_other;
      between = apart_swap c.other.spans [] (apart_none c.other.spans);
    }

    -- nothing is delivered
    pub undelivered : Core s o taken t (ds ++ []) (ts ++ []) x y
    undelivered = subst₂ (λ e f. Core s o taken t e f x y) (sym (append-nil ds)) (sym (append-nil ts)) c

  module _ (reading : Reading) {s o : Scheme} {taken : List ℕ} {t : ℕ} {ds : List Delivery} {ts : List ℕ} {x y : Held} (c : Core s o taken t ds ts x y) where
    -- what a page's joining delivers
    abbrev pub delivers : Scheme → Joined → List Delivery
    delivers s j = delivery (answer_to reading s j) (written_by j)

    joined_step : (u : ℕ) → t ≤ u → GoesTo a b s.type s → (j : Joined) (z : Held) → Step s taken t u c.this.spans j z → Core s o taken u (ds ++ delivers s j) (ts ++ map (λ _. length taken) (delivers s j)) z y
    joined_step u h goes (more n total) z st = undelivered (record {
      spans = c.spans;
      shown = c.shown;
      this = st.0;
      other = later u h c.other c.other.stand;
      ends = ends_by c u h;
      from_this = λ k l. st.1 (get_or c.spans k []) (c.ends k l) (c.from_this k l);
      from_other = c.from_other;
      between = apart_swap c.other.spans st.0.spans (st.1 c.other.spans c.other.ends (apart_swap c.this.spans c.other.spans c.between));
    })
    joined_step u h goes (refuses r) z st = subst (λ v. Core s o taken u (ds ++ []) (ts ++ []) v y) (sym st) (undelivered (dropped c u h))
    joined_step u h goes (whole key body) z st =
        let r = st.1 in
        let d : Delivery = record { type = s.type; key = key; body = body } in
        let w : Shown a b taken d = record {
          scheme = s;
          goes = goes;
          total = r.total;
          packets = r.all.packets;
          bodies = bodies_of s r.all.packets;
          pages = pages_whole s key r.total 0 r.all.packets r.all.pages (omega (arith, r.all.counted));
          some = r.some;
          joined = sym r.all.are;
          spans = r.all.spans;
          stand = r.all.stand;
        } in
        let k : Core s o taken u (ds ++ (d ∷ [])) (ts ++ (length taken ∷ [])) no_pages y = record {
          spans = c.spans ++ (r.all.spans ∷ []);
          shown = all_push w c.shown (λ k l. r.grown (get_or c.spans k []) (c.ends k l) (c.from_this k l));
          this = nothing_yet s taken u 0 0;
          other = later u h c.other c.other.stand;
          ends = each_push [] (Ends u) c.spans r.all.spans (ends_by c u h) r.all.ends;
          from_this = λ k l. apart_none (get_or (c.spans ++ (r.all.spans ∷ [])) k []);
          from_other = each_push [] (λ v. Apart v c.other.spans) c.spans r.all.spans c.from_other (apart_swap c.other.spans r.all.spans (r.grown c.other.spans c.other.ends (apart_swap c.this.spans c.other.spans c.between)));
          between = apart_swap c.other.spans [] (apart_none c.other.spans);
        } in
        subst (λ v. Core s o taken u (ds ++ (d ∷ [])) (ts ++ (length taken ∷ [])) v y) (sym st.0) k

    -- one packet more that goes to the scheme
    pub core_step : (p : Packet) (z : Span) → Lies s taken t p z → GoesTo a b s.type s → Core s o taken (z.at + z.size) (ds ++ delivers s (collected s p.content x).joined) (ts ++ map (λ _. length taken) (delivers s (collected s p.content x).joined)) (collected s p.content x).held y
    core_step p z lies goes =
        joined_step (z.at + z.size) (omega (arith, lies.behind)) goes (collected s p.content x).joined (collected s p.content x).held (page_step s taken t p z lies x c.this)
