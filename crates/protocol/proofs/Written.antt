-- The pages that the page writer writes are the report's, and a new link joins them to it.
use Rattle.std.proofs.Common.{◌≡◌, ℕ, zero, suc, ◌+◌, ◌-◌, ◌*◌, ◌<◌, ◌≤◌, List, [], ◌∷◌, length, drop, refl, ap, ◌∙◌, subst, inl, inr, arith}
use Rattle.std.proofs.lemmas.List.{drop_at}
use Rattle.packet.specs.Bytes.{AreBytes, concat}
use Rattle.packet.proofs.Bytes.{bytes_append, bytes_take, bytes_drop}
use Rattle.paging.specs.declared.header.Header.{Header}
use Rattle.paging.specs.Schemes.{Scheme, Laws}
use Rattle.joining.specs.Joining.{Held}
use Rattle.writing.specs.Writes.{body_size, part_of, page_of, pages_from, page_count}
use Rattle.writing.specs.Cuts.{parts_from}
use Rattle.writing.proofs.Cutting.{within, small_content}
use Rattle.writing.proofs.Holding.{pages_hold}
use Rattle.protocol.specs.Links.{Reading, Fixing, Entering, Link, fresh}
use Rattle.protocol.specs.Reports.{Pages}
use Rattle.protocol.specs.Reports.Pages.{none, next}
use Rattle.protocol.specs.Spans.{GoesTo}
use Rattle.protocol.specs.Promises.{ForLawfulSchemes}
use Rattle.protocol.specs.Written.{WrittenReportComesBack}
use Rattle.protocol.proofs.ZerosPages.{Takes, first_takes, second_takes}
use Rattle.protocol.proofs.Zeros.{walk}

module _ (s : Scheme) (laws : Laws s) (key : ℕ) (low : key < s.keys) (report : List ℕ) (bytes : AreBytes report) (short : length report ≤ s.pages * body_size s) where
  abbrev total : ℕ
  total = page_count s (length report)

  abbrev head : ℕ → Header
  head n = record { key = key; page = n + 1; total = total }

  -- the bodies of k pages, from page n + 1 on
  abbrev bodies : ℕ → ℕ → List (List ℕ)
  bodies n zero = []
  bodies n (suc k) = drop s.header (page_of s key total report n).content ∷ bodies (n + 1) k

  -- each page written is a page of the report
  pages : (n k : ℕ) → n + k ≡ total → Pages s key total n (pages_from s key total report n k) (bodies n k)
  pages n zero e = let f : total ≡ n = omega arith in subst (λ i. Pages s key total i [] []) f none
  pages n (suc k) e =
      let h : n < total = omega arith in
      let w = within s laws key report low short total refl n h in
      next (page_of s key total report n) (omega arith) refl
      (bytes_append (s.write (head n)) (part_of s report n) (laws.bytes (head n) w).0 (bytes_take (body_size s) (drop (n * body_size s) report) (bytes_drop (n * body_size s) report bytes)))
      (small_content s laws key report low short total refl n h)
      (laws.back (head n) (part_of s report n) w)
      (pages (n + 1) k (omega arith))

  body_is : (n : ℕ) → n < total → drop s.header (page_of s key total report n).content ≡ part_of s report n
  body_is n h = drop_at (s.write (head n)) (part_of s report n) s.header (laws.bytes (head n) (within s laws key report low short total refl n h)).1

  -- the bodies are the parts that the report is cut into
  bodies_are : (n k : ℕ) → n + k ≡ total → bodies n k ≡ parts_from s report n k
  bodies_are n zero e = refl
  bodies_are n (suc k) e =
      let h : n < total = omega arith in
      ap (λ l. l ∷ bodies (n + 1) k) (body_is n h) ∙ ap (λ l. part_of s report n ∷ l) (bodies_are (n + 1) k (omega arith))

  report_is : concat (bodies 0 total) ≡ report
  report_is =
      let e : 0 + total ≡ total = omega arith in
      ap concat (bodies_are 0 total e) ∙ (pages_hold s laws report).whole

-- the packets of a type go to the scheme that it goes to
to_one : (a b : Scheme) (reading : Reading) (fix_of : Fixing) (enter : Entering) (s : Scheme) → GoesTo a b s.type s → (x : Link → Held) × Takes a b reading fix_of enter s x
to_one a b reading fix_of enter s (t, inl o) = (λ l. l.first, rw o (first_takes a b reading fix_of enter))
to_one a b reading fix_of enter s (t, inr o) = (λ l. l.second, rw o.0 (second_takes a b reading fix_of enter (rw o.0 at o.1)))

lawful_to : (a b s : Scheme) → GoesTo a b s.type s → Laws a → Laws b → Laws s
lawful_to a b s (t, inl o) la lb = rw o la
lawful_to a b s (t, inr o) la lb = rw o.0 lb

pub comes_back : ForLawfulSchemes WrittenReportComesBack
comes_back a b la lb reading fix_of enter s goes key low report bytes short rooms f =
    let laws = lawful_to a b s goes la lb in
    let x = to_one a b reading fix_of enter s goes in
    let total : ℕ = page_count s (length report) in
    let e : 0 + total ≡ total = omega arith in
    let more : 0 + suc (total - 1) ≡ total = omega arith in
    walk a b reading fix_of enter s laws x.0 x.1 key total (pages s laws key low report bytes short 0 total e) fresh [] tt [] (omega arith) (inl refl) (suc (total - 1)) more report (report_is s laws key low report bytes short) rooms f 0
