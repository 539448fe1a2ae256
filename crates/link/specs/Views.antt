-- What the structs and the answers of the code stand for.
use Rattle.fixes.specs.Views.{board_of}
use Rattle.protocol.specs.Links as model
use Rattle.link.specs.declared.link.Link.{Link}
use Rattle.link.specs.declared.answer.Answer.{Answer}
use Rattle.link.specs.declared.answer.Answer.TheVariants.{Idle, Signal, Page, Report, Other, Refused}
use Rattle.link.specs.Faults.{link_refusal, reading_in}

abbrev pub answer_of : Answer → model.Answer
answer_of (Idle n) = model.idle n
answer_of (Signal b) = model.signal b
answer_of (Page t n total) = model.page t n total
answer_of (Report t k n r) = model.report t k n (reading_in r)
answer_of (Other s t n) = model.other s t n
answer_of (Refused f) = model.refused (link_refusal f)

abbrev pub state_of : {X Y : Type 0} → Link X Y → model.Link
state_of l = record { held = l.held; in_step = l.in_step; first = l.first.held; second = l.second.held; board = board_of l.board }
