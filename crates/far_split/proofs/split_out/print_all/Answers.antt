use Rattle.std.proofs.Common.{◌+◌, ◌++◌, Err, Ok, drop, subst, ◌∙◌, ap, take, arith}
use Rattle.std.proofs.lemmas.List.{take_all}
use Rattle.std.specs.List.{flat_map}
use Rattle.far_reply.specs.Reply.{reply_text}
use Rattle.far_split.specs.Prints.{Prints}
use Rattle.far_split.specs.Told.{as_told}
use Rattle.far_split.proofs.Printing.{prints_part, prints_then, short_at, texts_more, texts_rest}
use Rattle.far_split.proofs.split_out.print_all.Goals as goal

pub print_told-requires : goal.print_told-requires
print_told-requires g c = short_at c.args.replies.now c.loop-at.at (as_told c.at.result) c.requires (omega (arith, c.loop-at-test.true, c.len-at-end.ensures)) c.at.ensures

pub returns-in_err-print_told : goal.returns-in_err-print_told
returns-in_err-print_told g c =
    let start = g.W.Write.contents c.args.writer.now in
    let now = g.W.Write.contents c.print_told.new.writer in
    let all = c.args.replies.now in
    let i = c.loop-at.at in
    let one = as_told c.at.result in
    let fault = c.in_err-print_told.field-0.0 in
    let so_far = prints_then start (g.W.Write.contents c.loop-at.writer) now c.args.buffer.now c.loop-at.buffer c.print_told.new.buffer (Err fault)
    (flat_map reply_text (take i all)) (reply_text one) c.loop-at.invariant c.in_err-print_told.ensures in
    subst (Prints start c.args.buffer.now now c.print_told.new.buffer c.from_residual.result)
    (ap (λ l. l ++ flat_map reply_text (drop (i + 1) all)) (texts_more reply_text all i one (omega (arith, c.loop-at-test.true, c.len-at-end.ensures)) c.at.ensures) ∙ texts_rest reply_text all (i + 1))
    (prints_part start now c.args.buffer.now c.print_told.new.buffer fault c.from_residual.result
    (flat_map reply_text (take i all) ++ reply_text one) (flat_map reply_text (drop (i + 1) all)) c.from_residual.ensures.0 so_far)

pub loop-at-preserved : goal.loop-at-preserved
loop-at-preserved g c =
    let start = g.W.Write.contents c.args.writer.now in
    let now = g.W.Write.contents c.print_told.new.writer in
    let all = c.args.replies.now in
    let i = c.loop-at.at in
    let one = as_told c.at.result in
    subst (Prints start c.args.buffer.now now c.print_told.new.buffer (Ok tt)) (texts_more reply_text all i one (omega (arith, c.loop-at-test.true, c.len-at-end.ensures)) c.at.ensures)
    (prints_then start (g.W.Write.contents c.loop-at.writer) now c.args.buffer.now c.loop-at.buffer c.print_told.new.buffer (Ok tt)
    (flat_map reply_text (take i all)) (reply_text one) c.loop-at.invariant c.in_ok-print_told.ensures)

pub returns : goal.returns
returns g c =
    subst (λ xs. Prints (g.W.Write.contents c.args.writer.now) c.args.buffer.now (g.W.Write.contents c.loop-at.writer) c.loop-at.buffer (Ok tt) (flat_map reply_text xs))
    (take_all c.loop-at.at c.args.replies.now (omega (arith, c.loop-at-test.false, c.len-at-end.ensures))) c.loop-at.invariant
