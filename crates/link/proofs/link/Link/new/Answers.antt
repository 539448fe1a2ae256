use Rattle.std.proofs.Common.{rules}
use Rattle.reading.specs.Readings.{reading}
use Rattle.fixes.specs.Views.{enter}
use Rattle.fixes.specs.Ranking.{leads}
use Rattle.fixes.proofs.Orders.{fix_order}
use Rattle.protocol.proofs.Zeros.{survives}
use Rattle.protocol.proofs.Histories.{stands_whole}
use Rattle.protocol.proofs.Board.{board_best}
use Rattle.protocol.proofs.Room.{never_refuses}
use Rattle.link.specs.Fixing.{fix_of}
use Rattle.link.proofs.link.Link.new.Goals as goal

pub returns : goal.returns
returns g c =
    let a = g.A.Scheme.model in
    let b = g.B.Scheme.model in
    let la = g.met.A.Scheme.lawful in
    let lb = g.met.B.Scheme.lawful in
    record {
      made = search rules;
      report_survives_zeros = survives a b la lb reading fix_of enter;
      pages_stand_whole = stands_whole a b la lb reading fix_of enter;
      board_holds_the_best = board_best a b reading fix_of leads fix_order;
      room_never_refuses = never_refuses a b la lb reading fix_of enter;
    }
