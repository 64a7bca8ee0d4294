use Rattle.std.proofs.Common.{[], append-nil, subst, sym, arith}
use Rattle.std.proofs.Math.ListN.{drop_of_length-le}
use Rattle.far_text.specs.Command.{as_command}
use Rattle.far_text.specs.SplitText.{AreOwn}
use Rattle.far_text.specs.Threads.{OfBook}
use Rattle.far_split.specs.BookTold.{BookTold}
use Rattle.far_split.specs.Here.{commands_of}
use Rattle.far_split.specs.Told.{as_reply}
use Rattle.far_split.proofs.OwnLines.{all_short}
use Rattle.far_split.proofs.Telling.{one_told}
use Rattle.far_split.proofs.books.make_book_lines.Goals as goal

pub returns-clause-told : goal.returns-clause-told
returns-clause-told g c =
    let heap = g.K.HeapName.heap in
    let lines = c.args.lines.now in
    let replies = c.loop-at.told in
    subst (BookTold heap (commands_of lines)) (append-nil replies)
    (c.loop-at.invariant.told [] (subst (λ left. BookTold heap (commands_of left) []) (sym (drop_of_length-le lines (omega (arith, c.loop-at-test.false, c.len-at-end.ensures)))) tt))

pub loop-at-preserved : goal.loop-at-preserved
loop-at-preserved g c =
    let heap = g.K.HeapName.heap in
    let lines = c.args.lines.now in
    let told = c.loop-at.told in
    let all = c.push.new.self in
    let one = as_reply c.in-Ok-make_line.answer in
    let i = c.loop-at.invariant in
    let rest = subst (AreOwn heap.mutators OfBook) c.at.ensures.value i.own in
    record {
      told = λ more later. one_told heap lines c.loop-at.at (c.at.result.0, as_command c.at.result.1) told all more one c.at.ensures.value c.in-Ok-push.ensures c.in-Ok-make_line.ensures.told i.told later;
      own = rest.2;
      short = all_short told all one c.in-Ok-push.ensures i.short c.in-Ok-make_line.ensures.short;
      turns = omega (arith, i.turns, c.saturating_add-turn.ensures);
    }
