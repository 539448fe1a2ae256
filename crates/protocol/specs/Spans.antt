-- Where the pages of delivered reports stand among the bytes taken.
use Rattle.std.specs.Prelude.{◌≡◌, ℕ, ◌+◌, ◌<◌, ◌≤◌, ◌⊎◌, List, [], ◌∷◌, length, take, drop, ◌≢◌, slice_index_or}
use Rattle.packet.specs.Bytes.{concat}
use Rattle.packet.specs.Packets.{Packet, frame}
use Rattle.paging.specs.Schemes.{Scheme}
use Rattle.protocol.specs.Reports.{Pages, Delivery}

-- where a packet stands among the bytes taken
pub record Span : Type 0 where
  pub at : ℕ
  pub size : ℕ

-- the first span ends before the second begins
abbrev pub Before : Span → Span → Type 0
Before x y = x.at + x.size ≤ y.at

-- the packets stand whole at the spans, one behind the other
pub data Stand (taken : List ℕ) : ℕ → List Packet → List Span → Type 0 where
  none : {from : ℕ} → Stand taken from [] []
  next :
      {from : ℕ} {ps : List Packet} {xs : List Span} (p : Packet) (x : Span) →
      from ≤ x.at → x.at + x.size ≤ length taken → take x.size (drop x.at taken) ≡ frame p →
      Stand taken (x.at + x.size) ps xs → Stand taken from (p ∷ ps) (x ∷ xs)

-- what is read past the end of a list of spans
abbrev pub nowhere : Span
nowhere = record { at = 0; size = 0 }

-- every span of the first list lies apart from every span of the second
abbrev pub Apart : List Span → List Span → Type 0
Apart xs ys = (i j : ℕ) → i < length xs → j < length ys → (Before (slice_index_or xs i nowhere) (slice_index_or ys j nowhere)) ⊎ (Before (slice_index_or ys j nowhere) (slice_index_or xs i nowhere))

-- the scheme that a packet of this type goes to
abbrev pub GoesTo : Scheme → Scheme → ℕ → Scheme → Type 0
GoesTo a b type s = (s.type ≡ type) × ((s ≡ a) ⊎ ((s ≡ b) × (a.type ≢ type)))

-- what shows that one delivery's pages stand whole and in order among the bytes taken
pub record Shown (a b : Scheme) (taken : List ℕ) (d : Delivery) : Type 0 where
  pub scheme : Scheme
  pub goes : GoesTo a b d.type scheme
  pub total : ℕ
  pub packets : List Packet
  pub bodies : List (List ℕ)
  pub pages : Pages scheme d.key total 0 packets bodies
  pub some : 1 ≤ total
  pub joined : concat bodies ≡ d.body
  pub spans : List Span
  pub stand : Stand taken 0 packets spans

-- each delivery is shown by the bytes taken up to its time, and no byte serves two of them
pub data AllShown (a b : Scheme) (taken : List ℕ) : List Delivery → List ℕ → List (List Span) → Type 0 where
  none : AllShown a b taken [] [] []
  next :
      {d : Delivery} {ds : List Delivery} {time : ℕ} {times : List ℕ} {others : List (List Span)} →
      time ≤ length taken → (w : Shown a b (take time taken) d) → ((k : ℕ) → k < length others → Apart w.spans (slice_index_or others k [])) →
      AllShown a b taken ds times others → AllShown a b taken (d ∷ ds) (time ∷ times) (w.spans ∷ others)
