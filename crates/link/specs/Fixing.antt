-- The fix of a position: the report's key, and the body's time, PDOP and number of satellites.
use Rattle.std.specs.Prelude.{ℕ, List, slice_index}
use Rattle.records.specs.Numbers.{be32, be64}
use Rattle.fixes.specs.declared.fix.Fix.{Fix}

abbrev pub fix_of : ℕ → List ℕ → Fix
fix_of key body = record { key = key; time = be32 body 72; pdop = be64 body 40; satellites = slice_index body 77 }
