-- A stream of held and waiting bytes, of which more come to be held.
use Rattle.std.proofs.Common.{◌≡◌, ℕ, ◌+◌, ◌-◌, min, max, List, ◌++◌, length, take, drop, sym, ap, ◌∙◌, arith}
use Rattle.std.proofs.lemmas.List.{take_min, drop_min}
use Rattle.std.proofs.Math.Seq.{take-append-add, drop-append-add}
use Rattle.held.specs.Streams.{seen, unseen}

pub record Filled (n : ℕ) (h v h0 v0 : List ℕ) : Type 0 where
  pub held : h ≡ seen n (h0 ++ v0) (length h0)
  pub waiting : v ≡ unseen n (h0 ++ v0) (length h0)

-- bytes that waited come behind those held, until so many are held or none waits
pub filled : (n : ℕ) (h v : List ℕ) (r : ℕ) → r ≡ min (n - length h) (length v) → Filled n (h ++ take r v) (drop r v) h v
filled n h v r e =
    let m : length h + (n - length h) ≡ max n (length h) = omega arith in
    record {
      held =
          ap (λ i. h ++ take i v) e ∙ ap (λ x. h ++ x) (take_min (n - length h) v)
          ∙ sym (take-append-add h v (n - length h))
          ∙ ap (λ i. take i (h ++ v)) m;
      waiting =
          ap (λ i. drop i v) e ∙ drop_min (n - length h) v ∙ sym (drop-append-add h v (n - length h))
          ∙ ap (λ i. drop i (h ++ v)) m;
    }
