-- Pulls to idle, one by one.
use Rattle.std.proofs.Common.{◌≡◌, ℕ, List, length, drop, sym, ap, ◌∙◌, subst, arith}
use Rattle.paging.specs.Schemes.{Scheme}
use Rattle.protocol.specs.Links.{Link, Reading, Fixing, Entering, idle}
use Rattle.protocol.specs.Pulls.{Pull, Outcome, pull, pulled}
use Rattle.protocol.specs.Runs.{EndsIdle}
use Rattle.protocol.specs.Runs.EndsIdle.{at_once, after}
use Rattle.link.specs.declared.answer.Answer as code
use Rattle.link.specs.declared.answer.Answer.TheVariants.{Idle, Signal, Page, Report, Other, Refused}
use Rattle.link.specs.Views.{answer_of}

-- only an idle answer is one
pub idle_only : (r : code.Answer) (n : ℕ) → answer_of r ≡ idle n → r ≡ Idle n
idle_only (Idle m) n e = cc
idle_only (Signal b) n e = let z : ◌≡◌ {A = ℕ} 0 1 = cc in absurd (omega arith)
idle_only (Page t m total) n e = let z : ◌≡◌ {A = ℕ} 0 1 = cc in absurd (omega arith)
idle_only (Report t k m f) n e = let z : ◌≡◌ {A = ℕ} 0 1 = cc in absurd (omega arith)
idle_only (Other s t m) n e = let z : ◌≡◌ {A = ℕ} 0 1 = cc in absurd (omega arith)
idle_only (Refused f) n e = let z : ◌≡◌ {A = ℕ} 0 1 = cc in absurd (omega arith)

module _ (a b : Scheme) (rd : Reading) (fx : Fixing) (en : Entering) (l : Link) (v buf : List ℕ) (room : length buf ≡ 8064) (o : Outcome) (e : o ≡ pulled a b rd fx en l v buf) where
  abbrev P : ℕ → Link → List ℕ → Pull
  P = pull a b rd fx en

  pub rested : (n : ℕ) → o.answer ≡ idle n → EndsIdle P l v o.state n
  rested n i =
      let answer : (P 8064 l v).answer ≡ idle n = ap (λ r. (P r l v).answer) (sym room) ∙ sym (ap (λ (x : Outcome). x.answer) e) ∙ i in
      let state : (P 8064 l v).after ≡ o.state = ap (λ r. (P r l v).after) (sym room) ∙ sym (ap (λ (x : Outcome). x.state) e) in
      subst (λ s. EndsIdle P l v s n) state (at_once answer)

  pub went_on : (end : Link) (n : ℕ) → ((m : ℕ) → o.answer ≡ idle m → ⊥) → EndsIdle P o.state o.waiting end n → EndsIdle P l v end n
  went_on end n ne t =
      let same : o ≡ pulled a b rd fx en l v buf = e in
      let Rest : Outcome → Type 0 = λ x. EndsIdle P x.state x.waiting end n in
      let Full : ℕ → Type 0 = λ r. ((m : ℕ) → (P r l v).answer ≡ idle m → ⊥) × EndsIdle P (P r l v).after (drop (P r l v).taken v) end n in
      let f : Full 8064 = subst Full room ((λ m i. ne m (ap (λ (x : Outcome). x.answer) e ∙ i)), subst Rest same t) in
      after f.0 f.1
