-- Streams in which every start byte begins something complete, as all do behind 257 zero bytes: nothing but answers is found in them.
use Rattle.std.proofs.Common.{◌≡◌, ℕ, zero, suc, ◌+◌, ◌<◌, ◌≤◌, Bool, eqb, ◌⊎◌, List, [], ◌∷◌, ◌++◌, length, get_or, drop, replicate, refl, inl, inr, arith, length-append}
use lib.ListN.{length-replicate}
use Rattle.std.proofs.lemmas.Bool.{cond_both, eqb-true}
use Rattle.packet.specs.Bytes.{AreBytes}
use Rattle.packet.specs.Packets.{no_end, bad_sum, lawful, front, parsed, checksum_of, checked_sum}
use Rattle.protocol.specs.Pulls.{at_start, found}
use Rattle.packet.proofs.Fronts.{Whole, front_full}
use Rattle.protocol.proofs.Streams.{found_by, Passable, Settled}

abbrev pub Complete : List ℕ → Type 0
Complete [] = Unit {0}
Complete (b ∷ w) = (b ≡ 2 → Whole (b ∷ w)) × Complete w

pub complete_drop : (n : ℕ) (w : List ℕ) → Complete w → Complete (drop n w)
complete_drop zero w h = h
complete_drop (suc n) [] h = tt
complete_drop (suc n) (b ∷ w) h = complete_drop n w h.1

-- ---- zeros
zeros_at : (n k : ℕ) → get_or {A = ℕ} (replicate n 0) k 0 ≡ 0
zeros_at zero k = refl
zeros_at (suc n) zero = refl
zeros_at (suc n) (suc k) = zeros_at n k

zeros_complete : (n : ℕ) → Complete (replicate n 0)
zeros_complete zero = tt
zeros_complete (suc n) = (λ e. absurd (let z : ⊥ = omega arith in z), zeros_complete n)

module _ (zs : List ℕ) (none : (k : ℕ) → get_or zs k 0 ≡ 0) (long : 257 ≤ length zs) (after : Complete zs) where
  third : (y : List ℕ) → AreBytes y → get_or (y ++ zs) 2 0 + 3 ≤ length y + 255
  third [] h = omega (arith, none 2)
  third (a ∷ []) h = omega (arith, none 1)
  third (a ∷ b ∷ []) h = omega (arith, none 0)
  third (a ∷ b ∷ c ∷ y) h = let k : c < 256 = h.1.1.0 in omega arith

  completes : (y : List ℕ) → AreBytes y → Complete (y ++ zs)
  completes [] h = after
  completes (b ∷ y) h = let l = length-append y zs in (λ e. omega (arith, third y h.1), completes y h.1)

pub zeros_complete_all : (n : ℕ) → 257 ≤ n → (y : List ℕ) → AreBytes y → Complete (y ++ replicate n 0)
zeros_complete_all n h = completes (replicate n 0) (zeros_at n) (rw (length-replicate {A = ℕ} n 0) h) (zeros_complete n)

-- ---- what is found
start_settled : (u : List ℕ) → Whole u → Settled (at_start u (front u))
start_settled u w =
    rw (front_full u w) (cond_both (eqb (get_or u (get_or u 3 0 + 5) 0) 3) (checked_sum u) no_end (λ f. Settled (at_start u f)) (λ _. cond_both (eqb (get_or u (get_or u 3 0 + 4) 0) (checksum_of (parsed u))) (lawful (parsed u)) bad_sum (λ f. Settled (at_start u f)) (λ _. tt) (λ _. tt)) (λ _. tt))

pub scan : (s : Bool) (w : List ℕ) → Complete w → Passable s w ⊎ Settled (found s w).event
scan s =
    found_by s (λ w f. Complete w → Passable s w ⊎ Settled f.event) (λ h. inl tt)
    (λ b w e h. inr (start_settled (b ∷ w) (h.0 (eqb-true b 2 e))))
    (λ b w e g h. inr tt)
    (λ b w e g ih h. elim (ih h.1) [ inl p ↦ inl (e, g, p) | inr q ↦ inr q ])
