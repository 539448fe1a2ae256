-- Spans apart, packets that stand at spans, and what more bytes taken leave as it was.
use Rattle.std.proofs.Common.{◌≡◌, ℕ, suc, ◌+◌, ◌<◌, ◌≤◌, ◌⊎◌, List, [], ◌∷◌, ◌++◌, length, get_or, take, drop, sym, ap, ◌∙◌, subst, inl, inr, suc-le-suc, le_trans, arith, length-append, length-drop}
use Rattle.std.proofs.lemmas.List.{length_push, get_or_append_left, get_or_push, take-append-le, drop-append-le}
use Rattle.std.proofs.lemmas.Bool.{cases_lt}
use Rattle.packet.specs.Packets.{Packet, frame}
use Rattle.protocol.specs.Spans.{Span, Before, Stand, Apart, nowhere}

-- what holds of each element
abbrev pub Each : {A : Type 0} → A → (A → Type 0) → List A → Type 0
Each d P xs = (k : ℕ) → k < length xs → P (get_or xs k d)

pub each_push : {A : Type 0} (d : A) (P : A → Type 0) (xs : List A) (y : A) → Each d P xs → P y → Each d P (xs ++ (y ∷ []))
each_push d P xs y e p k h =
    let n : length (xs ++ (y ∷ [])) ≡ length xs + 1 = length_push xs y in
    elim (cases_lt k (length xs)) [
      | inl l ↦ subst P (sym (get_or_append_left xs (y ∷ []) d k l)) (e k l)
      | inr g ↦ let q : length xs ≡ k = omega arith in subst P (sym (get_or_push xs y d k q)) p
    ]

-- spans that end by a place
abbrev pub Ends : ℕ → List Span → Type 0
Ends t = Each nowhere (λ x. x.at + x.size ≤ t)

pub ends_none : (t : ℕ) → Ends t []
ends_none t k h = absurd (omega arith)

pub ends_later : (t u : ℕ) (xs : List Span) → t ≤ u → Ends t xs → Ends u xs
ends_later t u xs h e k l = le_trans (e k l) h

pub ends_push : (t u : ℕ) (xs : List Span) (x : Span) → Ends t xs → t ≤ u → x.at + x.size ≤ u → Ends u (xs ++ (x ∷ []))
ends_push t u xs x e h l = each_push nowhere (λ y. y.at + y.size ≤ u) xs x (ends_later t u xs h e) l

-- apart
pub apart_swap : (xs ys : List Span) → Apart xs ys → Apart ys xs
apart_swap xs ys a i j p q = elim (a j i q p) [ inl h ↦ inr h | inr h ↦ inl h ]

pub apart_none : (xs : List Span) → Apart xs []
apart_none xs i j p q = absurd (omega arith)

pub apart_push : (t : ℕ) (xs ys : List Span) (y : Span) → Ends t xs → t ≤ y.at → Apart xs ys → Apart xs (ys ++ (y ∷ []))
apart_push t xs ys y e h a i j p q =
    each_push nowhere (λ v. Before (get_or xs i nowhere) v ⊎ Before v (get_or xs i nowhere)) ys y (λ k l. a i k p l) (inl (le_trans (e i p) h)) j q

-- a part of what is taken stays where it was
part_stays : (n m : ℕ) (xs ys : List ℕ) → n + m ≤ length xs → take m (drop n (xs ++ ys)) ≡ take m (drop n xs)
part_stays n m xs ys h =
    let l : n ≤ length xs = omega arith in
    ap (take m) (drop-append-le n xs ys l) ∙ take-append-le m (drop n xs) ys (rw length-drop (omega arith))

pub stand_more : {taken : List ℕ} {from : ℕ} {ps : List Packet} {xs : List Span} (more : List ℕ) → Stand taken from ps xs → Stand (taken ++ more) from ps xs
stand_more more Stand.none = Stand.none
stand_more {taken} more (Stand.next p x h l e r) =
    let n : length (taken ++ more) ≡ length taken + length more = length-append taken more in
    Stand.next p x h (omega arith) (part_stays x.at x.size taken more l ∙ e) (stand_more more r)

pub stand_push : {taken : List ℕ} {from : ℕ} {ps : List Packet} {xs : List Span} (p : Packet) (x : Span) → Stand taken from ps xs → from ≤ x.at → Ends x.at xs → x.at + x.size ≤ length taken → take x.size (drop x.at taken) ≡ frame p → Stand taken from (ps ++ (p ∷ [])) (xs ++ (x ∷ []))
stand_push p x Stand.none h n l e = Stand.next p x h l e Stand.none
stand_push p x (Stand.next q y g k c r) h n l e = Stand.next q y g k c (stand_push p x r (n 0 (omega arith)) (λ i j. n (suc i) (suc-le-suc j)) l e)
