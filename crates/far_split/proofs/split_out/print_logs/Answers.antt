use Rattle.std.proofs.Common.{[], ◌++◌, Err, Ok, drop, subst, ◌∙◌, take, arith, append_assoc}
use Rattle.std.proofs.lemmas.List.{take_all}
use Rattle.std.specs.List.{flat_map}
use Rattle.far_reply.specs.Reply.{log_text}
use Rattle.far_split.specs.Prints.{Prints}
use Rattle.far_split.proofs.Printing.{prints_part, prints_pushed, prints_then, texts_more, texts_rest}
use Rattle.far_split.proofs.split_out.print_logs.Goals as goal

pub returns-in_err-make_room : goal.returns-in_err-make_room
returns-in_err-make_room g c =
    let start = g.W.Write.contents c.args.writer.now in
    let now = g.W.Write.contents c.make_room.new.writer in
    let all = c.args.lines.now in
    let i = c.loop-at.at in
    let fault = c.in_err-make_room.field-0.0 in
    let front = flat_map log_text (take i all) in
    let so_far = prints_then start (g.W.Write.contents c.loop-at.writer) now c.args.buffer.now c.loop-at.buffer c.make_room.new.buffer (Err fault) front [] c.loop-at.invariant c.in_err-make_room.ensures.printed in
    subst (Prints start c.args.buffer.now now c.make_room.new.buffer c.from_residual.result)
    (append_assoc front [] (flat_map log_text (drop i all)) ∙ texts_rest log_text all i)
    (prints_part start now c.args.buffer.now c.make_room.new.buffer fault c.from_residual.result (front ++ []) (flat_map log_text (drop i all)) c.from_residual.ensures.0 so_far)

pub loop-at-preserved : goal.loop-at-preserved
loop-at-preserved g c =
    let start = g.W.Write.contents c.args.writer.now in
    let now = g.W.Write.contents c.make_room.new.writer in
    let all = c.args.lines.now in
    let i = c.loop-at.at in
    let one = c.at.result in
    let roomy = prints_then (g.W.Write.contents c.loop-at.writer) now now c.loop-at.buffer c.make_room.new.buffer c.push_log.new.buffer (Ok tt) [] (log_text one) c.in_ok-make_room.ensures.printed
    (prints_pushed now c.make_room.new.buffer c.push_log.new.buffer (log_text one) c.push_log.ensures) in
    subst (Prints start c.args.buffer.now now c.push_log.new.buffer (Ok tt)) (texts_more log_text all i one (omega (arith, c.loop-at-test.true, c.len-at-end.ensures)) c.at.ensures)
    (prints_then start (g.W.Write.contents c.loop-at.writer) now c.args.buffer.now c.loop-at.buffer c.push_log.new.buffer (Ok tt) (flat_map log_text (take i all)) (log_text one) c.loop-at.invariant roomy)

pub returns : goal.returns
returns g c =
    subst (λ xs. Prints (g.W.Write.contents c.args.writer.now) c.args.buffer.now (g.W.Write.contents c.loop-at.writer) c.loop-at.buffer (Ok tt) (flat_map log_text xs))
    (take_all c.loop-at.at c.args.lines.now (omega (arith, c.loop-at-test.false, c.len-at-end.ensures))) c.loop-at.invariant
