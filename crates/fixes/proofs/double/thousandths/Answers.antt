use Rattle.std.proofs.Common.{pos, sym, ap, ◌∙◌, arith, rules}
use Rattle.std.proofs.lemmas.Int.{ints}
use Rattle.fixes.specs.Thousandths.{thousandths_of}
use Rattle.fixes.proofs.Thousandths.{minus_zero, not_shown, shown, tiny, normal, small}
use Rattle.fixes.proofs.double.thousandths.Goals as goal

pub returns-then-bits-eq-SIGN : goal.returns-then-bits-eq-SIGN
returns-then-bits-eq-SIGN c = sym (ap thousandths_of c.if-bits-eq-SIGN.true ∙ minus_zero)

pub returns-then-bits-ge-THOUSAND : goal.returns-then-bits-ge-THOUSAND
returns-then-bits-ge-THOUSAND c = sym (not_shown c.args.bits (omega arith) c.if-bits-eq-SIGN.false c.if-bits-ge-THOUSAND.true)

pub returns-then-exponent-lt-THOUSANDTH : goal.returns-then-exponent-lt-THOUSANDTH
returns-then-exponent-lt-THOUSANDTH c =
    sym (shown c.args.bits c.if-bits-ge-THOUSAND.false ∙ ap pos (tiny c.args.bits c.if-exponent-lt-THOUSANDTH.true))

pub overflow_cast-result : goal.overflow_cast-result
overflow_cast-result c = let s = small c.args.bits c.if-bits-ge-THOUSAND.false in search rules

pub returns : goal.returns
returns c =
    let s = small c.args.bits c.if-bits-ge-THOUSAND.false in
    omega (arith, ints) ∙ ap pos (normal c.args.bits c.if-exponent-lt-THOUSANDTH.false c.if-bits-ge-THOUSAND.false)
    ∙ sym (shown c.args.bits c.if-bits-ge-THOUSAND.false)
