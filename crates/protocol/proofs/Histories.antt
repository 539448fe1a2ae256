-- What every history keeps: the held bytes are bytes and the total of those taken, and all deliveries and pages held stand among them, apart.
use Rattle.std.proofs.Common.{◌≡◌, ℕ, ◌+◌, ◌-◌, ◌≤◌, max, Bool, true, false, eqb, ltb, List, [], ◌++◌, map, length, take, drop, sym, refl, ap, ◌∙◌, subst, inl, inr, append-nil, arith, length-append, length-drop}
use Rattle.std.proofs.lemmas.List.{take_all, drop_all}
use Rattle.std.proofs.lemmas.Bool.{cond_both, eqb-true, eqb-false}
use Rattle.packet.specs.Bytes.{AreBytes}
use Rattle.packet.specs.Packets.{Packet, claimed}
use Rattle.paging.specs.Schemes.{Scheme}
use Rattle.fixes.specs.declared.fix.Fix.{Fix}
use Rattle.joining.specs.Joining.{Held}
use Rattle.protocol.specs.Links.{Link, fresh, forgotten, Reading, Fixing, Entering}
use Rattle.protocol.specs.Pulls.{Event, empty, partial, sign, broken, packet, found, Pull, pull, done, routed, left, holding}
use Rattle.protocol.specs.Runs.{Given, given, Reached}
use Rattle.protocol.specs.Runs.Reached.{new, pulled, forgot, looked}
use Rattle.protocol.specs.Reports.{Delivery, delivery, deliveries, times}
use Rattle.protocol.specs.Spans.{Span, AllShown}
use Rattle.protocol.specs.Promises.{PagesStandWhole, ForLawfulSchemes}
use Rattle.packet.proofs.Bytes.{bytes_append, bytes_take, bytes_drop}
use Rattle.packet.proofs.Fronts.{Stands}
use Rattle.protocol.proofs.Streams.{Sound, found_sound}
use Rattle.protocol.proofs.Accounts.{seen_of, seen_is, taken_is, split_is, part_is, length_seen, length_gone, length_more}
use Rattle.protocol.proofs.Deliveries.{deliveries_push}
use Rattle.protocol.proofs.Spans.{apart_none}
use Rattle.protocol.proofs.Pages.{nothing_yet, Lies}
use Rattle.protocol.proofs.Shown.{Core, swapped, core_more, dropped, undelivered, core_step}

module _ (a b : Scheme) (reading : Reading) (fix_of : Fixing) (enter : Entering) where
  -- what a history keeps
  pub record Inv (l : Link) (taken : List ℕ) (ds : List Delivery) (ts : List ℕ) : Type 0 where
    pub gone : List ℕ
    pub is : taken ≡ gone ++ l.held
    pub bytes : AreBytes l.held
    pub core : Core a b a b taken (length gone) ds ts l.first l.second

  module _ (l : Link) (taken : List ℕ) (ds : List Delivery) (ts : List ℕ) (v : Inv l taken ds ts) (line : List ℕ) (bytes : AreBytes line) where
    abbrev Kept : Pull → Type 0
    Kept r =
        let now : List Delivery = delivery r.answer r.written in
        Inv r.after (taken ++ take r.taken line) (ds ++ now) (ts ++ map (λ _. length (taken ++ take r.taken line)) now)

    all_bytes : AreBytes (l.held ++ line)
    all_bytes = bytes_append l.held line v.bytes bytes

    -- a pull that delivers nothing and keeps the pages held
    quiet : (extra w : List ℕ) (n : ℕ) (s : Bool) → taken ++ extra ≡ v.gone ++ w → AreBytes w → Inv (holding l (drop n w) s) (taken ++ extra) (ds ++ []) (ts ++ [])
    quiet extra w n s e h = record {
      gone = v.gone ++ take n w;
      is = split_is v.gone w n e;
      bytes = bytes_drop n w h;
      core = undelivered a b (core_more a b v.core extra (length (v.gone ++ take n w)) (length_more v.gone (take n w)));
    }

    seen_bytes : (seen : ℕ) → AreBytes (seen_of l.held line seen)
    seen_bytes seen = bytes_take (max seen (length l.held)) (l.held ++ line) all_bytes

    seen_taken : (seen : ℕ) → taken ++ take (seen - length l.held) line ≡ v.gone ++ seen_of l.held line seen
    seen_taken seen = taken_is v.gone l.held (take (seen - length l.held) line) v.is ∙ ap (λ x. v.gone ++ x) (sym (seen_is l.held line seen))

    line_taken : taken ++ take (length line) line ≡ v.gone ++ (l.held ++ line)
    line_taken = ap (λ x. taken ++ x) (take_all (length line) line (omega arith)) ∙ taken_is v.gone l.held line v.is

    module _ (passed : ℕ) (p : Packet) (stands : Stands (drop passed (l.held ++ line)) p) where
      abbrev size : ℕ
      size = length p.content + 6

      abbrev seen : ℕ
      seen = passed + size

      abbrev extra : List ℕ
      extra = take (seen - length l.held) line

      abbrev held : List ℕ
      held = left l.held line seen seen

      abbrev place : Span
      place = record { at = length v.gone + passed; size = size }

      abbrev gone : List ℕ
      gone = v.gone ++ take seen (seen_of l.held line seen)

      seen_fits : seen ≤ length (l.held ++ line)
      seen_fits =
          let e : length (drop passed (l.held ++ line)) ≡ length (l.held ++ line) - passed = length-drop passed (l.held ++ line) in
          omega (arith, stands.fits)

      gone_ends : length v.gone + passed + size ≡ length gone
      gone_ends = omega (arith, length_gone v.gone (seen_of l.held line seen) seen (length_seen l.held line seen seen_fits))

      taken_fits : length v.gone + passed + size ≤ length (taken ++ extra)
      taken_fits =
          let e : length (taken ++ extra) ≡ length v.gone + length (seen_of l.held line seen) = ap length (seen_taken seen) ∙ length-append v.gone (seen_of l.held line seen) in
          let f : seen ≤ length (seen_of l.held line seen) = length_seen l.held line seen seen_fits in
          omega arith

      lies : (s : Scheme) → p.type ≡ s.type → Lies s (taken ++ extra) (length v.gone) p place
      lies s e = record {
        status = stands.status;
        type = e;
        bytes = stands.bytes;
        small = stands.small;
        behind = omega arith;
        fits = taken_fits;
        is = part_is v.gone (l.held ++ line) (max seen (length l.held)) passed size (seen_taken seen) (omega arith) ∙ stands.is;
      }

      now_core : Core a b a b (taken ++ extra) (length v.gone) ds ts l.first l.second
      now_core = core_more a b v.core extra (length v.gone) (omega arith)

      -- what the packet makes of the pages held and of the deliveries, up to the end of the packet
      routed_by : {x y : Held} {es : List Delivery} {us : List ℕ} → Core a b a b (taken ++ extra) (length v.gone + passed + size) es us x y → (board : List Fix) → Inv (record { held = held; in_step = true; first = x; second = y; board = board }) (taken ++ extra) es us
      routed_by {x} {y} {es} {us} c board = record {
        gone = gone;
        is = split_is v.gone (seen_of l.held line seen) seen (seen_taken seen);
        bytes = bytes_drop seen (seen_of l.held line seen) (seen_bytes seen);
        core = subst (λ t. Core a b a b (taken ++ extra) t es us x y) gone_ends c;
      }

      routed_kept : Kept (routed a b reading fix_of enter l held (seen - length l.held) p)
      routed_kept =
          cond_both (eqb p.type a.type) _ _ Kept
          (λ e. routed_by (core_step a b reading now_core p place (lies a (eqb-true p.type a.type e)) (refl, inl refl)) _)
          (λ n. cond_both (eqb p.type b.type) _ _ Kept
          (λ e.
          let f : p.type ≡ b.type = eqb-true p.type b.type e in
          routed_by (swapped a b (core_step a b reading (swapped a b now_core) p place (lies b f) (refl, inr (refl, λ q. eqb-false p.type a.type n (f ∙ sym q))))) _)
          (λ _. quiet extra (seen_of l.held line seen) seen true (seen_taken seen) (seen_bytes seen)))

    done_kept : (passed : ℕ) (e : Event) → Sound (drop passed (l.held ++ line)) e → Kept (done a b reading fix_of enter l line passed e)
    done_kept passed empty h =
        let all : List ℕ = l.held ++ line in
        subst (λ x. Inv (holding l x l.in_step) (taken ++ take (length line) line) (ds ++ []) (ts ++ [])) (drop_all (length all) all (omega arith)) (quiet (take (length line) line) all (length all) l.in_step line_taken all_bytes)
    done_kept passed partial h = quiet (take (length line) line) (l.held ++ line) passed l.in_step line_taken all_bytes
    done_kept passed (sign c) h = quiet (take (passed + 1 - length l.held) line) (seen_of l.held line (passed + 1)) (passed + 1) l.in_step (seen_taken (passed + 1)) (seen_bytes (passed + 1))
    done_kept passed (broken why) h =
        let seen : ℕ = passed + claimed (drop passed (l.held ++ line)) in
        quiet (take (seen - length l.held) line) (seen_of l.held line seen) (passed + 1) false (seen_taken seen) (seen_bytes seen)
    done_kept passed (packet p) h = routed_kept passed p h

    refused_kept : Inv l (taken ++ []) (ds ++ []) (ts ++ [])
    refused_kept = subst (λ x. Inv l x (ds ++ []) (ts ++ [])) (sym (append-nil taken)) (record { gone = v.gone; is = v.is; bytes = v.bytes; core = undelivered a b v.core })

    pull_kept : (room : ℕ) → Kept (pull a b reading fix_of enter room l line)
    pull_kept room =
        cond_both (ltb room 8064) _ _ Kept
        (λ _. refused_kept)
        (λ _. done_kept (found l.in_step (l.held ++ line)).passed (found l.in_step (l.held ++ line)).event (found_sound l.in_step (l.held ++ line) all_bytes))

  begun : Inv fresh [] [] []
  begun = record {
    gone = [];
    is = refl;
    bytes = tt;
    core = record {
      spans = [];
      shown = AllShown.none;
      this = nothing_yet a [] 0 0 0;
      other = nothing_yet b [] 0 0 0;
      ends = λ k h. absurd (omega arith);
      from_this = λ k h. absurd (omega arith);
      from_other = λ k h. absurd (omega arith);
      between = apart_none [];
    };
  }

  forgot_kept : {l : Link} {taken : List ℕ} {ds : List Delivery} {ts : List ℕ} → Inv l taken ds ts → Inv (forgotten l) taken ds ts
  forgot_kept {l} {taken} v =
      let h : length v.gone ≤ length taken = rw v.is (length_more v.gone l.held) in
      record {
        gone = taken;
        is = sym (append-nil taken);
        bytes = tt;
        core = swapped a b (dropped a b (swapped a b (dropped a b v.core (length taken) h)) (length taken) (omega arith));
      }

  pub kept_always : {l : Link} {taken : List ℕ} {past : List Given} (h : Reached (pull a b reading fix_of enter) l taken past) → Inv l taken (deliveries past) (times (pull a b reading fix_of enter) h)
  kept_always new = begun
  kept_always (pulled {l = l} {taken = taken} {past = past} r room line bytes) =
      let q : Pull = pull a b reading fix_of enter room l line in
      subst (λ d. Inv q.after (taken ++ take q.taken line) d (times (pull a b reading fix_of enter) (pulled r room line bytes))) (sym (deliveries_push past (given q))) (pull_kept l taken (deliveries past) (times (pull a b reading fix_of enter) r) (kept_always r) line bytes room)
  kept_always (forgot r) = forgot_kept (kept_always r)
  kept_always (looked rank r) = kept_always r

pub stands_whole : ForLawfulSchemes PagesStandWhole
stands_whole a b _ _ reading fix_of enter l taken past r = let c = (kept_always a b reading fix_of enter r).core in (c.spans, c.shown)
