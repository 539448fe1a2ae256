-- A full board is unchanged by an entry that its last is no later than.
use Rattle.std.proofs.Common.{◌≡◌, ℕ, suc, Bool, true, List, [], ◌∷◌, ◌++◌, length, get_or, take, sym, ap, ◌∙◌, arith}
use Rattle.std.proofs.lemmas.List.{take_at}
use Rattle.std.proofs.lemmas.Bool.{cond-true}
use Rattle.ranking.specs.Boards.{InOrder, ranked, entered}

module _ {E : Type 0} (le : E → E → Bool) (trans : (x y z : E) → le x y ≡ true → le y z ≡ true → le x z ≡ true) (e d : E) where
  -- the entry comes behind all, and so the first is no later than it
  behind : (x : E) (xs : List E) → InOrder le (x ∷ xs) → le (get_or (x ∷ xs) (length xs) d) e ≡ true → (le x e ≡ true) × (ranked le e (x ∷ xs) ≡ (x ∷ xs) ++ (e ∷ []))
  behind x [] o h = (h, cond-true (le x e) _ _ h)
  behind x (y ∷ zs) o h =
      let rest = behind y zs (λ k c l. o (suc k) c (omega arith)) h in
      let first : le x e ≡ true = trans x y e (o 0 d (omega arith)) rest.0 in
      (first, cond-true (le x e) _ _ first ∙ ap (λ ys. x ∷ ys) rest.1)

  pub lost : (cap : ℕ) (xs : List E) → length xs ≡ suc cap → InOrder le xs → le (get_or xs cap d) e ≡ true → entered le (suc cap) e xs ≡ xs
  lost cap [] size o h = absurd (omega arith)
  lost cap (x ∷ xs) size o h =
      let last : cap ≡ length xs = omega arith in
      ap (take (suc cap)) (behind x xs o (ap (λ n. le (get_or (x ∷ xs) n d) e) (sym last) ∙ h)).1 ∙ take_at (x ∷ xs) (e ∷ []) (suc cap) size
