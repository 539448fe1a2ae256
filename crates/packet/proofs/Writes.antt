-- The bytes of a packet, written one after the other to the start of a destination.
use Rattle.std.proofs.Common.{◌≡◌, ℕ, ◌+◌, ◌-◌, ◌≤◌, List, [], ◌∷◌, ◌++◌, length, get_or, drop, set, sym, ap, ◌∙◌, append_assoc, arith}
use borrow.Rule.Slice.PartMut.{put_mid}
use Rattle.std.proofs.lemmas.List.{set_at, drop_more, drop-drop, length_push}

-- two neighbours are written
pub two_written : (p : List ℕ) (m n a b x y : ℕ) (q : List ℕ) → length p ≡ m → m + 1 ≡ n
    → set (set (p ++ a ∷ b ∷ q) m x) n y ≡ p ++ x ∷ y ∷ q
two_written p m n a b x y q e f =
    let one : set (p ++ a ∷ b ∷ q) m x ≡ p ++ x ∷ b ∷ q = set_at p a (b ∷ q) x m e in
    let two : set ((p ++ x ∷ []) ++ b ∷ q) n y ≡ (p ++ x ∷ []) ++ y ∷ q = set_at (p ++ x ∷ []) b q y n (omega (arith, length_push p x)) in
    ap (λ l. set l n y) (one ∙ sym (append_assoc p (x ∷ []) (b ∷ q))) ∙ two ∙ append_assoc p (x ∷ []) (y ∷ q)

pub all_written : (s k c : ℕ) (body out copy : List ℕ) → length body + 6 ≤ length out → copy ≡ body
    → set (set (put_mid 4 (length body + 4 - 4) (set (set (set (set out 0 2) 1 s) 2 k) 3 (length body)) copy) (length body + 4) c) (length body + 5) 3
    ≡ (2 ∷ s ∷ k ∷ length body ∷ (body ++ c ∷ 3 ∷ [])) ++ drop (length body + 6) out
all_written s k c body [] copy h e = absurd (omega arith)
all_written s k c body (o ∷ []) copy h e = absurd (omega arith)
all_written s k c body (o ∷ o1 ∷ []) copy h e = absurd (omega arith)
all_written s k c body (o ∷ o1 ∷ o2 ∷ []) copy h e = absurd (omega arith)
all_written s k c body (o ∷ o1 ∷ o2 ∷ o3 ∷ rest) copy h e =
    let n = length body in
    let lead : List ℕ = 2 ∷ s ∷ k ∷ n ∷ copy in
    let split : drop n rest ≡ get_or rest n 0 ∷ get_or rest (n + 1) 0 ∷ drop (n + 2) rest =
    drop_more rest n 0 (omega arith) ∙ ap (λ l. get_or rest n 0 ∷ l) (drop_more rest (n + 1) 0 (omega arith) ∙ ap (λ i. get_or rest (n + 1) 0 ∷ drop i rest) (omega arith)) in
    let same : n + 4 - 4 ≡ n = omega arith in
    let at : length lead ≡ n + 4 = omega (arith, ap length e) in
    let more : n + 6 ≡ 4 + (n + 2) = omega arith in
    let six : drop (n + 6) (o ∷ o1 ∷ o2 ∷ o3 ∷ rest) ≡ drop (n + 2) rest = ap (λ i. drop i (o ∷ o1 ∷ o2 ∷ o3 ∷ rest)) more ∙ sym (drop-drop (n + 2) 4 (o ∷ o1 ∷ o2 ∷ o3 ∷ rest)) in
    rw (same, split) (two_written lead (n + 4) (n + 5) (get_or rest n 0) (get_or rest (n + 1) 0) c 3 (drop (n + 2) rest) at (omega arith)
    ∙ rw (six, e) (ap (λ l. 2 ∷ s ∷ k ∷ n ∷ l) (sym (append_assoc body (c ∷ 3 ∷ []) (drop (n + 2) rest)))))
