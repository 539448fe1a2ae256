use Rattle.std.proofs.Common.{◌≡◌, ◌%◌, ◌^◌, arith, bit_and}
use Rattle.std.proofs.lemmas.Int.{ints}
use Rattle.std.proofs.lemmas.Nat.{and_mask}
use Rattle.std.proofs.lemmas.Bool.Decides.{nat_tests}
use Rattle.fixes.proofs.double.rank_key.Goals as goal

pub returns-then-bits-ge-SIGN : goal.returns-then-bits-ge-SIGN
returns-then-bits-ge-SIGN c =
    let size : bit_and c.args.bits 0x7FFF_FFFF_FFFF_FFFF ≡ c.args.bits % 2 ^ 63 = and_mask c.args.bits 63 in
    grind (arith, ints, nat_tests)
