-- How the cursor over an application file's records goes on.
use Rattle.std.proofs.Common.{◌≡◌, ℕ, zero, suc, ◌+◌, ◌<◌, ◌≤◌, cond, ltb, List, [], ◌∷◌, length, Ok, Err, sym, refl, ap, ◌∙◌, arith}
use Rattle.std.proofs.lemmas.Bool.{cond-true, cond-false, le-ltb, lt-ltb}
use Rattle.records.specs.declared.fault.RecordFault.{RecordFault}
use Rattle.application.specs.declared.Record.{Record}
use Rattle.application.specs.Applications.{records_from, record_read, record_at, fault_at, length_at, met_with, ReadAt}

-- as many steps as there are bytes left are enough, and more change nothing
enough : (n m : ℕ) (body : List ℕ) (at : ℕ) → length body ≤ at + n → length body ≤ at + m → records_from n body at ≡ records_from m body at
enough zero zero body at h k = refl
enough zero (suc m) body at h k = sym (cond-false _ _ _ (le-ltb at (length body) (omega arith)))
enough (suc n) zero body at h k = cond-false _ _ _ (le-ltb at (length body) (omega arith))
enough (suc n) (suc m) body at h k =
    ap (λ rest. cond (ltb at (length body)) (met_with (fault_at body at) (record_at body at) rest) [])
    (enough n m body (at + 2 + length_at body at) (omega arith) (omega arith))

from_met : (n : ℕ) (body : List ℕ) (at : ℕ) → at < length body → length body ≤ n
    → records_from n body at ≡ met_with (fault_at body at) (record_at body at) (records_from n body (at + 2 + length_at body at))
from_met zero body at h k = absurd (omega arith)
from_met (suc n) body at h k =
    cond-true _ _ _ (lt-ltb at (length body) h)
    ∙ ap (met_with (fault_at body at) (record_at body at)) (enough n (suc n) body (at + 2 + length_at body at) (omega arith) (omega arith))

-- a cursor at the end gives nothing more
pub ended : (body : List ℕ) (at : ℕ) → length body ≤ at → records_from (length body) body at ≡ []
ended body at h = enough (length body) 0 body at (omega arith) (omega arith)

module _ (body : List ℕ) (at : ℕ) where
  -- it goes on by one
  pub went_on : (r : Record) → at < length body → ReadAt body at (Ok r)
      → records_from (length body) body at ≡ Ok (record_read r) ∷ records_from (length body) body (at + 2 + length_at body at)
  went_on r h k =
      from_met (length body) body at h (omega arith)
      ∙ ap (λ f. met_with f (record_at body at) (records_from (length body) body (at + 2 + length_at body at))) k.0
      ∙ ap (λ x. Ok x ∷ records_from (length body) body (at + 2 + length_at body at)) (sym k.1)

  -- it stops at a fault
  pub stopped : (f : RecordFault) → at < length body → ReadAt body at (Err f) → records_from (length body) body at ≡ Err f ∷ records_from (length body) body (length body)
  stopped f h k =
      from_met (length body) body at h (omega arith)
      ∙ ap (λ g. met_with g (record_at body at) (records_from (length body) body (at + 2 + length_at body at))) k
      ∙ ap (λ l. Err f ∷ l) (sym (ended body (length body) (omega arith)))
