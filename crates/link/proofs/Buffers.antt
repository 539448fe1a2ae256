-- A pull's buffer: its first bytes, which the pull writes to, and the bytes behind them.
use Rattle.std.proofs.Common.{◌≡◌, ℕ, ◌≤◌, List, ◌++◌, length, take, drop, sym, ap, ◌∙◌, append_assoc, arith, length-append, length-take}
use Rattle.std.proofs.lemmas.List.{take-append-drop, drop-append-le}
use Rattle.packet.specs.Packets.{front}
use Rattle.paging.specs.Schemes.{Scheme}
use Rattle.protocol.specs.Links.{Link, Reading, Fixing, Entering}
use Rattle.protocol.specs.Pulls.{Pull, Outcome, at_start, done, outcome_of, put}
use Rattle.link.specs.Routes.{opened}

module _ (n : ℕ) (buf : List ℕ) (room : n ≤ length buf) where
  -- bytes put to the start of the first n are put to the start of the buffer
  put_wider : (w : List ℕ) → length w ≤ n → put w (take n buf) ++ drop n buf ≡ put w buf
  put_wider w h =
      append_assoc w (drop (length w) (take n buf)) (drop n buf)
      ∙ ap (λ x. w ++ x) (sym (drop-append-le (length w) (take n buf) (drop n buf) (omega (arith, length-take n buf))) ∙ ap (drop (length w)) (take-append-drop n buf))

  -- what a caller sees of a pull that was lent the first n bytes
  pub outcome_wider : (p : Pull) (line : List ℕ) (o : Outcome) → length o.buffer ≡ n → o ≡ outcome_of p line (take n buf)
      → ◌≡◌ {A = Outcome} (record { answer = o.answer; state = o.state; waiting = o.waiting; buffer = o.buffer ++ drop n buf }) (outcome_of p line buf)
  outcome_wider p line o len e =
      let size : length p.written ≤ n = omega (arith, length-append p.written (drop (length p.written) (take n buf)), len, ap (λ (x : Outcome). length x.buffer) e) in
      ap (λ (x : Outcome). record { answer = x.answer; state = x.state; waiting = x.waiting; buffer = x.buffer ++ drop n buf }) e
      ∙ ap (λ b. record { answer = p.answer; state = p.after; waiting = drop p.taken line; buffer = b }) (put_wider p.written size)

  -- and of a stream that begins with a start byte
  pub opened_wider : (a b : Scheme) (rd : Reading) (fx : Fixing) (en : Entering) (l : Link) (v start : List ℕ) → start ≡ take n buf → (o : Outcome) → length o.buffer ≡ n → o ≡ opened a b rd fx en l v start
      → ◌≡◌ {A = Outcome} (record { answer = o.answer; state = o.state; waiting = o.waiting; buffer = o.buffer ++ drop n buf }) (opened a b rd fx en l v buf)
  opened_wider a b rd fx en l v start is o len e =
      outcome_wider (done a b rd fx en l v 0 (at_start (l.held ++ v) (front (l.held ++ v)))) v o len (e ∙ ap (opened a b rd fx en l v) is)

  -- a buffer to which nothing was put
  pub buffer_again : (start : List ℕ) → start ≡ take n buf → start ++ drop n buf ≡ buf
  buffer_again start is = ap (λ x. x ++ drop n buf) is ∙ take-append-drop n buf
