-- Fixes rank by the smaller rank key of their PDOP.
use Rattle.std.specs.Prelude.{Bool, int_le}
use Rattle.fixes.specs.declared.fix.Fix.{Fix}
use Rattle.fixes.specs.Keys.{key}

-- a is no later than b
abbrev pub leads : Fix → Fix → Bool
leads a b = int_le (key a.pdop) (key b.pdop)
