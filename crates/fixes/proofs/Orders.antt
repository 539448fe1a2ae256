-- The order of fixes has the laws of an order.
use Rattle.std.proofs.Common.{arith}
use Rattle.std.proofs.lemmas.Int.{ints}
use Rattle.ranking.specs.Boards.{Order}
use Rattle.fixes.specs.Ranking.{leads}

pub fix_order : Order leads
fix_order = record { total = λ x y h. grind (arith, ints); trans = λ x y z h k. grind (arith, ints) }
