use Rattle.std.proofs.Common.{◌≡◌, ◌<◌, ◌≤◌, min, length, get_or, ◌∙◌, arith}
use Rattle.std.proofs.lemmas.Bool.Decides.{nat_tests}
use Rattle.std.proofs.lemmas.List.{set-get_or}
use Rattle.fixes.specs.Views.{no_fix}
use Rattle.link.specs.Views.{state_of}
use Rattle.station.specs.Boards.{row_of}
use Rattle.station.proofs.Rows.{row_more, rows_end}
use Rattle.station.proofs.board.write_rows.Goals as goal

-- no fix stands at the next rank
pub returns-in_default : goal.returns-in_default
returns-in_default c =
    let l = c.loop-count in
    let board = (state_of c.args.link.now).board in
    let k = c.in_default.ensures in
    let none : length board ≤ l.count = grind (arith, nat_tests) in
    let count : l.count ≡ min (length board) (length c.args.rows.now) = omega (arith, none, l.invariant.within) in
    record { count = count; rows = set-get_or l.rows l.count (row_of no_fix) ∙ rows_end board l.rows c.args.rows.now l.count count l.invariant.rows }

pub loop-count-preserved : goal.loop-count-preserved
loop-count-preserved c =
    let l = c.loop-count in
    let board = (state_of c.args.link.now).board in
    let k = c.in-Ok.ensures in
    let here : l.count < length board = grind (arith, nat_tests) in
    let found : c.in-Ok.fix ≡ get_or board l.count no_fix = grind (arith, nat_tests) in
    record { within = omega (arith, here); rows = rw c.from.ensures (row_more board l.rows c.args.rows.now l.count c.in-Ok.fix here (omega arith) found l.invariant.rows) }

-- no row is left
pub returns : goal.returns
returns c =
    let l = c.loop-count in
    let board = (state_of c.args.link.now).board in
    let count : l.count ≡ min (length board) (length c.args.rows.now) = omega (arith, l.invariant.within) in
    record { count = omega (arith, count); rows = rows_end board l.rows c.args.rows.now l.count count l.invariant.rows }
