use Rattle.std.proofs.Common.{◌≡◌, length, length-take, sym, ap, ◌∙◌, arith}
use Rattle.std.proofs.lemmas.List.{get_or-take}
use Rattle.fixes.specs.Ranking.{leads}
use Rattle.fixes.specs.Views.{no_fix, board_of}
use Rattle.fixes.proofs.Lost.{lost}
use Rattle.fixes.proofs.Orders.{fix_order}
use Rattle.fixes.proofs.board.FixBoard.keeps_out.Goals as goal

pub returns-then-len-eq32 : goal.returns-then-len-eq32
returns-then-len-eq32 c h =
    let s = c.args.self.now in
    let fix = c.args.fix.now in
    let size : length (board_of s) ≡ 32 = sym c.len.ensures ∙ c.if-len-eq32.true in
    let last = get_or-take s.count s.places 31 no_fix (omega (arith, length-take s.count s.places)) in
    lost leads fix_order.trans fix no_fix 31 (board_of s) size s.order (ap (λ f. leads f fix) last ∙ sym c.no_later.ensures ∙ h)
