use Rattle.std.proofs.Common.{refl, ◌∙◌, arith}
use Rattle.writing.proofs.Paging.{content_is, page_sent, page_written}
use Rattle.writing.proofs.write.write_pages.Goals as goal

pub returns-in_err-at : goal.returns-in_err-at
returns-in_err-at g c =
    let s = g.S.Scheme.model in
    let laws = g.met.S.Scheme.lawful in
    let r = c.requires in
    let content = content_is s laws c.args.key c.args.report.now r.key r.size c.args.pages r.pages c.loop-index.index (omega arith) _ _ _ _ _ _ refl c.body_size-body.ensures c.min-end.ensures c.lay-size.ensures.size c.lay-size.ensures.bytes in
    let sent = page_sent s laws c.args.key c.args.report.now r.key r.size c.args.pages r.pages c.loop-index.index (omega arith) c.loop-index.at c.loop-index.out c.args.out.now _ content c.loop-index.invariant.0 c.loop-index.auto.out r.room in
    cc (c.in_err-at.ensures.answer)

pub loop-index-preserved : goal.loop-index-preserved
loop-index-preserved g c =
    let s = g.S.Scheme.model in
    let laws = g.met.S.Scheme.lawful in
    let r = c.requires in
    let content = content_is s laws c.args.key c.args.report.now r.key r.size c.args.pages r.pages c.loop-index.index (omega arith) _ _ _ _ _ _ refl c.body_size-body.ensures c.min-end.ensures c.lay-size.ensures.size c.lay-size.ensures.bytes in
    page_written s laws c.args.key c.args.report.now r.key r.size c.args.pages r.pages c.loop-index.index (omega arith) c.loop-index.at c.loop-index.out c.args.out.now _ content c.loop-index.invariant.0 c.loop-index.auto.out r.room
    c.in_ok-at.field-0 c.TYPE.result c.write.new.out (c.TYPE.ensures ∙ g.met.S.Scheme.type_is) c.in_ok-at.ensures.answer c.loop-index.invariant.1 c.in_ok-at.ensures.bytes
