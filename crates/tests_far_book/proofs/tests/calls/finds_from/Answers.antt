use Rattle.tests_far_book.proofs.tests.calls.finds_from.Goals as goal
use Rattle.std.proofs.Common.{arith, sym}
use Rattle.tests_far_book.proofs.Uses.{begins_there}

pub next_live-requires-clause-begins : goal.next_live-requires-clause-begins
next_live-requires-clause-begins g c =
    let s = g.N.Near.view c.args.book.now.near in
    let t = g.N.Near.view c.spans.new.self.near in
    begins_there s t c.keeps_law.ensures.law c.live_spans_follow.ensures.bounded c.in-Ok.ensures.kept 0 c.in-Ok.spans.items c.in-Ok.ensures.spans
    c.index.result.now (c.args.number, omega (arith, c.if-number-len.false, c.len.ensures, c.in-Ok.spans.ok), sym c.index.ensures)
