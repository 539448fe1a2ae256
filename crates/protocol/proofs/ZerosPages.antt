-- The pages of a report: each joins those before it, and goes to the one scheme that claims its type.
use Rattle.std.proofs.Common.{◌≡◌, ℕ, ◌+◌, ◌-◌, ◌*◌, ◌≤◌, true, false, eqb, ◌⊎◌, List, [], ◌++◌, length, drop, sym, refl, ◌∙◌, inl, inr, zero-mul, arith}
use Rattle.std.proofs.lemmas.List.{nil_from_length}
use Rattle.std.proofs.lemmas.Bool.{eq-eqb, ne_eqb, cases_eq}
use Rattle.packet.specs.Bytes.{AreBytes}
use Rattle.packet.specs.Packets.{Packet}
use Rattle.paging.specs.declared.header.Header.{Header}
use Rattle.paging.specs.Schemes.{Scheme, reads, Laws}
use Rattle.joining.specs.Joining.{Held, no_pages, Collected, collected, joined_to, kept, placed, more, whole}
use Rattle.protocol.specs.Links.{Reading, Fixing, Entering, Link}
use Rattle.protocol.specs.Pulls.{Pull, answer_to, written_by, routed}
use Rattle.protocol.specs.Promises.{OneClaims}
use Rattle.protocol.proofs.Room.{kept_is}

module _ (s : Scheme) (laws : Laws s) (key total n : ℕ) (d : List ℕ) (bytes : AreBytes d) (small : length d ≤ 255) (read : s.read d ≡ reads (record { key = key; page = n + 1; total = total })) (acc : List ℕ) (room : length acc ≤ n * (255 - s.header)) where
  abbrev head : Header
  head = record { key = key; page = n + 1; total = total }

  abbrev body : List ℕ
  body = drop s.header d

  -- the pages held are the n before this one
  abbrev pub Follows : Held → Type 0
  Follows x = (n ≡ 0) ⊎ (x ≡ record { key = key; total = total; count = n; joined = acc })

  placed_first : (x : Held) → n ≡ 0 → placed head body x ≡ kept head (acc ++ body)
  placed_first x e =
      let m : n * (255 - s.header) ≡ 0 = rw (e, zero-mul (255 - s.header)) in
      let z : acc ≡ [] = nil_from_length acc (omega arith) in
      let t : eqb (n + 1) 1 ≡ true = eq-eqb (n + 1) 1 (omega arith) in
      rw (t, z)

  placed_next : (x : Held) → (n ≡ 0 → ⊥) → x ≡ record { key = key; total = total; count = n; joined = acc } → placed head body x ≡ kept head (acc ++ body)
  placed_next x z e =
      let t : eqb (n + 1) 1 ≡ false = ne_eqb (n + 1) 1 (λ f. z (omega arith)) in
      rw (e, t, eq-eqb (n + 1) (n + 1) refl, eq-eqb key key refl, eq-eqb total total refl)

  joins : (x : Held) → Follows x → collected s d x ≡ joined_to head (acc ++ body)
  joins x h = rw read (go h (cases_eq n 0) ∙ kept_is s laws d bytes small head read n acc room refl)
    where
      go : Follows x → (n ≡ 0) ⊎ (n ≡ 0 → ⊥) → placed head body x ≡ kept head (acc ++ body)
      go (inl e) c = placed_first x e
      go (inr e) (inl z) = placed_first x z
      go (inr e) (inr z) = placed_next x z e

  pub joins_total : n + 1 ≡ total → (x : Held) → Follows x → collected s d x ≡ record { joined = whole key (acc ++ body); held = no_pages }
  joins_total e x h = joins x h ∙ rw (eq-eqb (n + 1) total e)

  pub joins_more : (n + 1 ≡ total → ⊥) → (x : Held) → Follows x → collected s d x ≡ record { joined = more (n + 1) total; held = record { key = key; total = total; count = n + 1; joined = acc ++ body } }
  joins_more e x h = joins x h ∙ rw (ne_eqb (n + 1) total e)

module _ (a b : Scheme) (reading : Reading) (fix_of : Fixing) (enter : Entering) where
  -- a packet went to a scheme, whose pages are x of the link
  pub record Went (s : Scheme) (x : Link → Held) (c : Collected) (h : List ℕ) (n : ℕ) (q : Pull) : Type 0 where
    pub answer_is : q.answer ≡ answer_to reading s c.joined
    pub written_is : q.written ≡ written_by c.joined
    pub pages_are : x q.after ≡ c.held
    pub held_is : q.after.held ≡ h
    pub taken_is : q.taken ≡ n

  -- the packets of a scheme's type go to it
  abbrev pub Takes : Scheme → (Link → Held) → Type 0
  Takes s x = (l : Link) (h : List ℕ) (n : ℕ) (p : Packet) → p.type ≡ s.type → Went s x (collected s p.content (x l)) h n (routed a b reading fix_of enter l h n p)

  pub first_takes : Takes a (λ l. l.first)
  first_takes l h n p e = rw (eq-eqb p.type a.type e) (record { answer_is = refl; written_is = refl; pages_are = refl; held_is = refl; taken_is = refl })

  pub second_takes : (a.type ≡ b.type → ⊥) → Takes b (λ l. l.second)
  second_takes z l h n p e =
      let f : eqb p.type a.type ≡ false = ne_eqb p.type a.type (λ g. z (sym g ∙ e)) in
      rw (f, eq-eqb p.type b.type e) (record { answer_is = refl; written_is = refl; pages_are = refl; held_is = refl; taken_is = refl })

  pub takes : (s : Scheme) → OneClaims a b s → (x : Link → Held) × Takes s x
  takes s (inl o) = (λ l. l.first, rw o.0 first_takes)
  takes s (inr o) = (λ l. l.second, rw o.0 (second_takes (rw o.0 at o.1)))

pub lawful_one : (a b s : Scheme) → OneClaims a b s → Laws a → Laws b → Laws s
lawful_one a b s (inl o) la lb = rw o.0 la
lawful_one a b s (inr o) la lb = rw o.0 lb
