-- The board of a link is the fold of the fixes delivered.
use Rattle.std.proofs.Common.{◌≡◌, ℕ, Bool, true, false, cond, eqb, ltb, List, [], ◌∷◌, ◌++◌, fold, sym, refl, ap, ◌∙◌, subst, append_assoc}
use Rattle.std.specs.Prelude.{Some, None, Option}
use Rattle.std.proofs.lemmas.List.{append-nil}
use Rattle.std.proofs.lemmas.Bool.{cond-true, cond-false, eqb-true, eqb-false, eq-eqb, ne_eqb}
use Rattle.packet.specs.Packets.{Packet}
use Rattle.records.specs.declared.kind.Kind.{Kind}
use Rattle.records.specs.declared.kind.Kind.TheVariants.{Position, Survey, Application}
use Rattle.paging.specs.Schemes.{Scheme}
use Rattle.fixes.specs.declared.fix.Fix.{Fix}
use Rattle.joining.specs.Joining.{Joined, collected, more, whole, refuses}
use Rattle.protocol.specs.Links.{Link, Reading, Fixing, Entering}
use Rattle.protocol.specs.Pulls.{Pull, Event, empty, partial, sign, broken, packet, found, pull, done, routed, answer_to, written_by, board_after, board_with}
use Rattle.protocol.specs.Runs.{Given, given, Reached}
use Rattle.protocol.specs.Runs.Reached.{new, pulled, forgot, looked}
use Rattle.ranking.specs.Counting.{Exactly}
use Rattle.protocol.specs.Reports.{Delivery, delivery, deliveries, fix_if_read, meant, fixes}
use Rattle.protocol.specs.Promises.{by_rank, BoardHoldsTheBest, ForOrders}
use Rattle.ranking.proofs.Counting.{filled_exactly}
use Rattle.protocol.proofs.Deliveries.{deliveries_push}

folded_append : {A B : Type 0} (f : B → A → B) (z : B) (xs ys : List A) → fold f z (xs ++ ys) ≡ fold f (fold f z xs) ys
folded_append f z [] ys = refl
folded_append f z (x ∷ xs) ys = folded_append f (f z x) xs ys

module _ (a b : Scheme) (reading : Reading) (fix_of : Fixing) (enter : Entering) where
  fixes_append : (ds es : List Delivery) → fixes a b reading fix_of (ds ++ es) ≡ fixes a b reading fix_of ds ++ fixes a b reading fix_of es
  fixes_append [] es = refl
  fixes_append (d ∷ ds) es =
      let f : List Fix = fix_if_read reading fix_of (meant a b d.type d.key) d.key d.body in
      ap (λ fs. f ++ fs) (fixes_append ds es) ∙ sym (append_assoc f (fixes a b reading fix_of ds) (fixes a b reading fix_of es))

  -- a board after the fixes entered it one by one
  abbrev after_all : List Fix → List Fix → List Fix
  after_all board fs = fold (λ x f. enter f x) board fs

  -- the fixes of what one answer delivers
  abbrev fixes_in : Pull → List Fix
  fixes_in p = fixes a b reading fix_of (delivery p.answer p.written)

  -- what a pull does to a board
  abbrev Enters : List Fix → Pull → Type 0
  Enters board p = p.after.board ≡ after_all board (fixes_in p)

  either_enters : (v : Bool) (board : List Fix) (p q : Pull) → (v ≡ true → Enters board p) → (v ≡ false → Enters board q) → Enters board (cond v p q)
  either_enters true board p q x y = x refl
  either_enters false board p q x y = y refl

  -- one report of a kind
  entered_once : (k : Option Kind) (key : ℕ) (body : List ℕ) (board : List Fix) → board_with reading fix_of enter k key body board ≡ after_all board (fix_if_read reading fix_of k key body)
  entered_once (Some Position) key body board = go (eqb (reading (Some Position) key body).number 0)
    where
      go : (v : Bool) → cond v (enter (fix_of key body) board) board ≡ after_all board (cond v (fix_of key body ∷ []) [])
      go true = refl
      go false = refl
  entered_once (Some Survey) key body board = refl
  entered_once (Some Application) key body board = refl
  entered_once None key body board = refl

  -- the answers of a scheme, whose keys are meant as its own
  joined_enters : (s : Scheme) → ((key : ℕ) → meant a b s.type key ≡ s.means key) → (j : Joined) (board : List Fix) →
      board_after reading fix_of enter s j board ≡ after_all board (fixes a b reading fix_of (delivery (answer_to reading s j) (written_by j)))
  joined_enters s m (more n total) board = refl
  joined_enters s m (whole key body) board =
      entered_once (s.means key) key body board
      ∙ ap (λ k. after_all board (fix_if_read reading fix_of k key body)) (sym (m key))
      ∙ ap (after_all board) (sym (append-nil (fix_if_read reading fix_of (meant a b s.type key) key body)))
  joined_enters s m (refuses r) board = refl

  routed_enters : (l : Link) (held : List ℕ) (taken : ℕ) (p : Packet) → Enters l.board (routed a b reading fix_of enter l held taken p)
  routed_enters l held taken p =
      either_enters (eqb p.type a.type) l.board _ _
      (λ e. joined_enters a (λ key. cond-true (eqb a.type a.type) (a.means key) (b.means key) (eq-eqb a.type a.type refl)) (collected a p.content l.first).joined l.board)
      (λ n. either_enters (eqb p.type b.type) l.board _ _
      (λ e. joined_enters b (λ key. cond-false (eqb b.type a.type) (a.means key) (b.means key) (ne_eqb b.type a.type (λ q. eqb-false p.type a.type n (eqb-true p.type b.type e ∙ q)))) (collected b p.content l.second).joined l.board)
      (λ e. refl))

  done_enters : (l : Link) (line : List ℕ) (passed : ℕ) (e : Event) → Enters l.board (done a b reading fix_of enter l line passed e)
  done_enters l line passed empty = refl
  done_enters l line passed partial = refl
  done_enters l line passed (sign x) = refl
  done_enters l line passed (broken why) = refl
  done_enters l line passed (packet p) = routed_enters l _ _ p

  pull_enters : (room : ℕ) (l : Link) (line : List ℕ) → Enters l.board (pull a b reading fix_of enter room l line)
  pull_enters room l line =
      either_enters (ltb room 8064) l.board _ _ (λ e. refl) (λ e. done_enters l line (found l.in_step (l.held ++ line)).passed (found l.in_step (l.held ++ line)).event)

  -- in every history the board is the fold of the fixes delivered
  board_is : {l : Link} {taken : List ℕ} {past : List Given} → Reached (pull a b reading fix_of enter) l taken past → l.board ≡ after_all [] (fixes a b reading fix_of (deliveries past))
  board_is new = refl
  board_is (pulled {l = l} {past = past} r room line bytes) =
      let p : Pull = pull a b reading fix_of enter room l line in
      let one : List Delivery = delivery p.answer p.written in
      pull_enters room l line
      ∙ ap (λ x. after_all x (fixes_in p)) (board_is r)
      ∙ sym (folded_append (λ x f. enter f x) [] (fixes a b reading fix_of (deliveries past)) (fixes_in p))
      ∙ ap (after_all []) (sym (fixes_append (deliveries past) one))
      ∙ ap (λ ds. after_all [] (fixes a b reading fix_of ds)) (sym (deliveries_push past (given p)))
  board_is (forgot r) = board_is r
  board_is (looked rank r) = board_is r

pub board_best : ForOrders BoardHoldsTheBest
board_best a b reading fix_of le o l taken past r d =
    let fs : List Fix = fixes a b reading fix_of (deliveries past) in
    subst (λ x. Exactly le 32 fs x d) (sym (board_is a b reading fix_of (by_rank le) r)) (filled_exactly le o.total o.trans 32 fs d)
