-- What is found in a stream: it is there, and neither bytes passed over before it nor bytes behind it change it.
use Rattle.std.proofs.Common.{◌≡◌, ℕ, suc, ◌+◌, ◌≤◌, Bool, true, false, ◌&&◌, eqb, List, [], ◌∷◌, ◌++◌, length, drop, sym, refl, ap, ◌∙◌, zero-add, add-one, arith}
use Rattle.std.proofs.lemmas.Bool.{cond_both, eqb-true}
use Rattle.packet.specs.Bytes.{AreBytes}
use Rattle.packet.specs.Packets.{Packet, Front, short, no_end, bad_sum, lawful, front, frame, claimed}
use Rattle.protocol.specs.Pulls.{Event, empty, partial, sign, broken, packet, is_signal, at_start, Found, found}
use Rattle.packet.proofs.Fronts.{Whole, size_more, claimed_more, front_more, content_size, Fits, front_fits, Stands, front_stands, front_frame}

-- ---- found, by its first byte
module _ (s : Bool) (b : ℕ) (w : List ℕ) where
  found_start : eqb b 2 ≡ true → found s (b ∷ w) ≡ record { passed = 0; event = at_start (b ∷ w) (front (b ∷ w)) }
  found_start e = rw e

  found_sign : eqb b 2 ≡ false → (s && is_signal b) ≡ true → found s (b ∷ w) ≡ record { passed = 0; event = sign b }
  found_sign e g = rw (e, g)

  found_next : eqb b 2 ≡ false → (s && is_signal b) ≡ false → found s (b ∷ w) ≡ record { passed = (found s w).passed + 1; event = (found s w).event }
  found_next e g = rw (e, g)

-- what holds of what is found, shown byte by byte
module _ (s : Bool) (P : List ℕ → Found → Type 0) (end : P [] (record { passed = 0; event = empty }))
    (start : (b : ℕ) (w : List ℕ) → eqb b 2 ≡ true → P (b ∷ w) (record { passed = 0; event = at_start (b ∷ w) (front (b ∷ w)) }))
    (signs : (b : ℕ) (w : List ℕ) → eqb b 2 ≡ false → (s && is_signal b) ≡ true → P (b ∷ w) (record { passed = 0; event = sign b }))
    (next : (b : ℕ) (w : List ℕ) → eqb b 2 ≡ false → (s && is_signal b) ≡ false → P w (found s w) → P (b ∷ w) (record { passed = (found s w).passed + 1; event = (found s w).event }))
  where
    pub found_by : (w : List ℕ) → P w (found s w)
    found_by [] = end
    found_by (b ∷ w) =
        let ih = found_by w in
        cond_both (eqb b 2) _ _ (P (b ∷ w)) (λ e. start b w e) (λ e. cond_both (s && is_signal b) _ _ (P (b ∷ w)) (λ g. signs b w e g) (λ g. next b w e g ih))

-- ---- bytes that are passed over
abbrev pub Passable : Bool → List ℕ → Type 0
Passable s [] = Unit {0}
Passable s (b ∷ w) = (eqb b 2 ≡ false) × ((s && is_signal b) ≡ false) × Passable s w

pub found_pass : (s : Bool) (pre z : List ℕ) → Passable s pre → found s (pre ++ z) ≡ record { passed = length pre + (found s z).passed; event = (found s z).event }
found_pass s [] z h = ap (λ n. record { passed = n; event = (found s z).event }) (sym (zero-add (found s z).passed))
found_pass s (b ∷ pre) z h =
    let one : length pre + (found s z).passed + 1 ≡ suc (length pre) + (found s z).passed = omega arith in
    found_next s b (pre ++ z) h.0 h.1
    ∙ ap (λ f. record { passed = f.passed + 1; event = f.event }) (found_pass s pre z h.2)
    ∙ ap (λ n. record { passed = n; event = (found s z).event }) one

-- ---- an event that is an answer, and what it takes: how many bytes are seen from its start on, and how many of those go
abbrev pub Settled : Event → Type 0
Settled empty = ⊥
Settled partial = ⊥
Settled (sign b) = Unit {0}
Settled (broken why) = Unit {0}
Settled (packet p) = Unit {0}

abbrev pub size_of : List ℕ → Event → ℕ
size_of u empty = 0
size_of u partial = 0
size_of u (sign b) = 1
size_of u (broken why) = claimed u
size_of u (packet p) = length p.content + 6

abbrev pub gone_of : Event → ℕ
gone_of empty = 0
gone_of partial = 0
gone_of (sign b) = 1
gone_of (broken why) = 1
gone_of (packet p) = length p.content + 6

pub gone_least : (u : List ℕ) (e : Event) → Settled e → (1 ≤ gone_of e) × (gone_of e ≤ size_of u e)
gone_least u empty h = absurd h
gone_least u partial h = absurd h
gone_least u (sign b) h = (omega arith, omega arith)
gone_least u (broken why) h = (omega arith, omega arith)
gone_least u (packet p) h = (omega arith, omega arith)

-- bytes behind change no size that is there
pub size_of_more : (u t : List ℕ) (e : Event) → size_of u e ≤ length u → size_of (u ++ t) e ≡ size_of u e
size_of_more u t empty h = refl
size_of_more u t partial h = refl
size_of_more u t (sign b) h = refl
size_of_more u t (broken why) h = claimed_more u t h
size_of_more u t (packet p) h = refl

at_more : (u t : List ℕ) → Settled (at_start u (front u)) → (at_start (u ++ t) (front (u ++ t)) ≡ at_start u (front u)) × (size_of u (at_start u (front u)) ≤ length u)
at_more u t = go (front u) (front_fits u) (front_more u t)
  where
    go : (f : Front) → Fits u f → (Whole u → front (u ++ t) ≡ f) → Settled (at_start u f) → (at_start (u ++ t) (front (u ++ t)) ≡ at_start u f) × (size_of u (at_start u f) ≤ length u)
    go short k e h = absurd h
    go no_end k e h = (ap (at_start (u ++ t)) (e k) ∙ ap (λ n. broken (record { number = 4; layer = 1; place = n + 5 })) (size_more u t k), k)
    go bad_sum k e h = (ap (at_start (u ++ t)) (e k) ∙ ap (λ n. broken (record { number = 5; layer = 1; place = n + 4 })) (size_more u t k), k)
    go (lawful p) k e h = (ap (at_start (u ++ t)) (e k.0), rw (k.1, content_size u k.0) k.0)

-- what is found is the same with bytes behind, and lies in the stream
pub record Clear (w : List ℕ) (f g : Found) : Type 0 where
  pub same : g ≡ f
  pub fits : f.passed + size_of (drop f.passed w) f.event ≤ length w

pub found_more : (s : Bool) (t w : List ℕ) → Settled (found s w).event → Clear w (found s w) (found s (w ++ t))
found_more s t =
    found_by s (λ w f. Settled f.event → Clear w f (found s (w ++ t))) (λ h. absurd h)
    (λ b w e h. let m = at_more (b ∷ w) t h in record { same = found_start s b (w ++ t) e ∙ ap (λ x. record { passed = 0; event = x }) m.0; fits = rw zero-add m.1 })
    (λ b w e g h. record { same = found_sign s b (w ++ t) e g; fits = omega arith })
    (λ b w e g ih h.
    let c = ih h in
    let inside = c.fits in
    record { same = found_next s b (w ++ t) e g ∙ ap (λ x. record { passed = x.passed + 1; event = x.event }) c.same; fits = rw (add-one (found s w).passed) (omega arith) })

-- ---- a packet that is found stands there
abbrev pub Sound : List ℕ → Event → Type 0
Sound w empty = Unit {0}
Sound w partial = Unit {0}
Sound w (sign b) = Unit {0}
Sound w (broken r) = Unit {0}
Sound w (packet p) = Stands w p

pub found_sound : (s : Bool) (w : List ℕ) → AreBytes w → Sound (drop (found s w).passed w) (found s w).event
found_sound s =
    found_by s (λ w f. AreBytes w → Sound (drop f.passed w) f.event) (λ a. tt)
    (λ b w e a. begins b w a (eqb-true b 2 e) (front (b ∷ w)) (front_fits (b ∷ w)))
    (λ b w e g a. tt)
    (λ b w e g ih a. rw (add-one (found s w).passed) (ih a.1))
  where
    begins : (b : ℕ) (w : List ℕ) → AreBytes (b ∷ w) → b ≡ 2 → (f : Front) → Fits (b ∷ w) f → Sound (b ∷ w) (at_start (b ∷ w) f)
    begins b w a e short k = tt
    begins b w a e no_end k = tt
    begins b w a e bad_sum k = tt
    begins b w a e (lawful p) k = front_stands b w p a e k

pub found_frame : (s : Bool) (p : Packet) (rest : List ℕ) → found s (frame p ++ rest) ≡ record { passed = 0; event = packet p }
found_frame s p rest = rw (front_frame p rest)
