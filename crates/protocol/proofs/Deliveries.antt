-- What one answer more delivers.
use Rattle.std.proofs.Common.{◌≡◌, List, [], ◌∷◌, ◌++◌, sym, ap, ◌∙◌, append_assoc, append-nil}
use Rattle.protocol.specs.Runs.{Given}
use Rattle.protocol.specs.Reports.{delivery, deliveries}

pub deliveries_push : (gs : List Given) (g : Given) → deliveries (gs ++ (g ∷ [])) ≡ deliveries gs ++ delivery g.answer g.written
deliveries_push [] g = append-nil (delivery g.answer g.written)
deliveries_push (h ∷ gs) g =
    ap (λ l. delivery h.answer h.written ++ l) (deliveries_push gs g) ∙ sym (append_assoc (delivery h.answer h.written) (deliveries gs) (delivery g.answer g.written))
