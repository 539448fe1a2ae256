-- Pages that join have room: so many pages of so many bytes fit the store, and in every history the test of room turns none away.
use Rattle.std.proofs.Common.{◌≡◌, ℕ, ◌+◌, ◌-◌, ◌*◌, ◌≤◌, Bool, true, false, cond, ◌&&◌, eqb, leb, List, [], ◌∷◌, ◌++◌, length, drop, refl, mul-le-mul_right, suc-mul, add-one, arith, length-append, length-drop}
use Rattle.std.proofs.lemmas.Bool.{cond-true, eqb-true, le-leb, and_parts}
use Rattle.packet.specs.Bytes.{AreBytes, concat}
use Rattle.packet.specs.Packets.{Packet}
use Rattle.paging.specs.declared.header.Header.{Header}
use Rattle.paging.specs.Schemes.{Scheme, Head, reads, too_short, unfit, Laws}
use Rattle.joining.specs.Joining.{Held, joined_to, kept, next_page, read_page, collected}
use Rattle.protocol.specs.Roomless.{read_roomless, collected_roomless}
use Rattle.protocol.specs.Promises.{RoomNeverRefuses, ForLawfulSchemes}
use Rattle.protocol.proofs.Pages.{AllPages, bodies_of, Holds}
use Rattle.protocol.proofs.Histories.{kept_always}

-- a page that reads, behind n pages of no more than full size
module _ (s : Scheme) (laws : Laws s) (d : List ℕ) (bytes : AreBytes d) (small : length d ≤ 255) (h : Header) (read : s.read d ≡ reads h) where
  pub in_turn : (h.page ≤ h.total) × (h.total ≤ s.pages)
  in_turn = let w = (laws.forth d h bytes read).0 in (w.2, w.3)

  module _ (n : ℕ) (acc : List ℕ) (room : length acc ≤ n * (255 - s.header)) (page : h.page ≡ n + 1) where
    pub room_next : length (acc ++ drop s.header d) ≤ (n + 1) * (255 - s.header)
    room_next =
        let g = suc-mul n (255 - s.header) in
        rw (add-one n) (simp (length-append, length-drop) (omega arith))

    pub kept_is : kept h (acc ++ drop s.header d) ≡ joined_to h (acc ++ drop s.header d)
    kept_is =
        let k : n + 1 ≤ s.pages = omega (arith, in_turn.0, in_turn.1) in
        let m : (n + 1) * (255 - s.header) ≤ s.pages * (255 - s.header) = mul-le-mul_right (255 - s.header) k in
        let f = laws.fits in
        let r = room_next in
        cond-true (leb (length (acc ++ drop s.header d)) 8064) _ _ (le-leb (length (acc ++ drop s.header d)) 8064 (omega arith))

-- the pages held are of no more than full size
pages_room : (s : Scheme) (key total n : ℕ) (ps : List Packet) → AllPages s key total n ps → length (concat (bodies_of s ps)) ≤ length ps * (255 - s.header)
pages_room s key total n [] a = omega arith
pages_room s key total n (p ∷ ps) a =
    let ih = pages_room s key total (n + 1) ps a.1 in
    let g = suc-mul (length ps) (255 - s.header) in
    let small = a.0.small in
    simp (length-append, length-drop) (omega arith)

held_room : (s : Scheme) (taken : List ℕ) (t : ℕ) (x : Held) → Holds s taken t x → length x.joined ≤ x.count * (255 - s.header)
held_room s taken t x g = rw (g.are, ← g.counted) (pages_room s x.key x.total 0 g.packets g.pages)

cond_same : {A : Type 0} (v : Bool) (x y x' y' : A) → (v ≡ true → x ≡ x') → y ≡ y' → cond v x y ≡ cond v x' y'
cond_same true x y x' y' p q = p refl
cond_same false x y x' y' p q = q

module _ (s : Scheme) (laws : Laws s) (x : Held) (room : length x.joined ≤ x.count * (255 - s.header)) (d : List ℕ) (bytes : AreBytes d) (small : length d ≤ 255) where
  read_same : (hd : Head) → s.read d ≡ hd → read_page s d x hd ≡ read_roomless s d x hd
  read_same (reads h) e =
      cond_same (eqb h.page 1) _ _ _ _ (λ b. kept_is s laws d bytes small h e 0 [] (omega arith) (eqb-true h.page 1 b))
      (cond_same (next_page h x) _ _ _ _ (λ b. kept_is s laws d bytes small h e x.count x.joined room (eqb-true h.page (x.count + 1) (and_parts (eqb h.page (x.count + 1)) (eqb h.key x.key && eqb h.total x.total) b).0)) refl)
  read_same too_short e = refl
  read_same unfit e = refl

  same_joining : collected s d x ≡ collected_roomless s d x
  same_joining = read_same (s.read d) refl

pub never_refuses : ForLawfulSchemes RoomNeverRefuses
never_refuses a b la lb reading fix_of enter l taken past r d bytes small =
    let c = (kept_always a b reading fix_of enter r).core in
    (same_joining a la l.first (held_room a taken _ l.first c.this) d bytes small, same_joining b lb l.second (held_room b taken _ l.second c.other) d bytes small)
