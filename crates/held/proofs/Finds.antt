-- Bytes passed over, one by one.
use Rattle.std.proofs.Math.Numerals.{one-add}
use Rattle.std.proofs.Common.{◌≡◌, ℕ, ◌+◌, ◌<◌, ◌≤◌, max, Bool, true, false, cond, ◌&&◌, ◌||◌, not, eqb, List, [], ◌∷◌, ◌++◌, length, take, drop, Some, None, Option, sym, refl, ap, ◌∙◌, add_comm, arith, length-drop}
use Rattle.std.proofs.lemmas.List.{take_at, drop_at, drop-take, drop-drop, drop-append-le}
use Rattle.std.proofs.Math.Seq.{drop-append-add}
use Rattle.std.proofs.lemmas.Bool.{cond-true, cond-false, ne_eqb, eq-eqb}
use Rattle.std.proofs.lemmas.List.Folds.{prefix_len-append}
use Rattle.std.proofs.lemmas.List.Sums.{prefix_len-le-length}
use Rattle.std.proofs.lemmas.List.Recursion.{is_position_or_len}
use Rattle.std.specs.List.{position_or_len}
use Rattle.protocol.specs.Pulls.{Found, is_signal}
use Rattle.held.specs.Streams.{head_of, stops, passed, found_held, found_waiting}

chosen : (x y : Bool) (a b c : Found) → a.passed ≡ 0 → b.passed ≡ 0 → (cond x a (cond y b c)).passed ≡ cond (x || y) 0 c.passed
chosen true y a b c p q = p
chosen false true a b c p q = q
chosen false false a b c p q = refl

pub head_some : (w : List ℕ) (b : ℕ) → Some b ≡ head_of w → w ≡ b ∷ drop 1 w
head_some [] b e = let z : ◌≡◌ {A = ℕ} 0 1 = cc in absurd (omega arith)
head_some (x ∷ w) b e = cc

pub head_none : (w : List ℕ) → None ≡ head_of w → w ≡ []
head_none [] e = refl
head_none (x ∷ w) e = let z : ◌≡◌ {A = ℕ} 0 1 = cc in absurd (omega arith)

module _ (s : Bool) where
  step : (b : ℕ) (w : List ℕ) → passed s (b ∷ w) ≡ cond (stops s b) 0 (1 + passed s w)
  step b w = chosen (eqb b 2) (s && is_signal b) _ _ _ refl refl ∙ ap (cond (stops s b) 0) (add_comm (passed s w) 1)

  -- the bytes passed over are those before the first that stops
  pub passed_is : (w : List ℕ) → passed s w ≡ position_or_len (stops s) w
  passed_is = is_position_or_len (passed s) (stops s) refl step

  -- of a stream in two parts, the second counts where no byte of the first stops
  passed-append : (h v : List ℕ) → passed s (h ++ v) ≡ cond (eqb (passed s h) (length h)) (length h + passed s v) (passed s h)
  passed-append h v = rw (passed_is (h ++ v), passed_is h, passed_is v) (prefix_len-append (λ b. not (stops s b)) h v)

  -- one byte less of the stream
  pub step_rest : (b : ℕ) (w : List ℕ) → stops s b ≡ false → drop (passed s (b ∷ w)) (b ∷ w) ≡ drop (passed s w) w
  step_rest b w e = ap (λ n. drop n (b ∷ w)) (step b w ∙ ap (λ x. cond x 0 (1 + passed s w)) e ∙ one-add (passed s w))

  -- the same where another name is known for the longer list
  pub stepped : (w v : List ℕ) (b : ℕ) → w ≡ b ∷ v → stops s b ≡ false → drop (passed s v) v ≡ drop (passed s w) w
  stepped w v b is e = sym (step_rest b v e) ∙ ap (λ x. drop (passed s x) x) (sym is)

  -- what a search leaves and answers, of a stream of which so many bytes are held
  pub record Sought (h1 v1 : List ℕ) (r : Option ℕ) (w : List ℕ) (k : ℕ) : Type 0 where
    pub held : h1 ≡ found_held s w k
    pub waiting : v1 ≡ found_waiting s w k
    pub answer : r ≡ head_of (drop (passed s w) w)

  -- a held byte stops
  pub in_held : (h v : List ℕ) (b : ℕ) → Some b ≡ head_of (drop (passed s h) h) → Sought (drop (passed s h) h) v (Some b) (h ++ v) (length h)
  in_held h v b head =
      let is : drop (passed s h) h ≡ b ∷ drop 1 (drop (passed s h) h) = head_some _ b head in
      let low : passed s h < length h = omega (arith, length-drop (passed s h) h, ap length is) in
      let le : passed s h ≤ length h = omega arith in
      let same : passed s (h ++ v) ≡ passed s h = passed-append h v ∙ cond-false _ _ _ (ne_eqb (passed s h) (length h) (omega arith)) in
      let m : length h ≡ max (passed s h + 1) (length h) = omega arith in
      record {
        held = rw (same, take_at h v _ m);
        waiting = rw (same, drop_at h v _ m);
        answer = rw (same, drop-append-le, is);
      }

  -- no held byte stops
  pub in_line : (h v : List ℕ) → None ≡ head_of (drop (passed s h) h) → Sought (take 1 (drop (passed s v) v)) (drop 1 (drop (passed s v) v)) (head_of (drop (passed s v) v)) (h ++ v) (length h)
  in_line h v none =
      let all : length h ≤ passed s h = omega (arith, length-drop (passed s h) h, ap length (head_none _ none)) in
      let whole : passed s h ≡ length h = omega (arith, prefix_len-le-length (λ b. not (stops s b)) h, passed_is h) in
      let is : passed s (h ++ v) ≡ length h + passed s v = passed-append h v ∙ cond-true _ _ _ (eq-eqb _ _ whole) in
      let m : max (passed s (h ++ v) + 1) (length h) ≡ passed s (h ++ v) + 1 = omega arith in
      let n : max (passed s (h ++ v) + 1) (length h) ≡ length h + (passed s v + 1) = omega arith in
      record {
        held = rw (m, drop-take, is, drop-append-add);
        waiting = rw (n, drop-append-add) (drop-drop 1 (passed s v) v);
        answer = rw (is, drop-append-add);
      }
