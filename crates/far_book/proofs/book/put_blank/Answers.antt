use Rattle.far_book.proofs.book.put_blank.Goals as goal
use Rattle.std.proofs.Common.{◌+◌, refl}
use Rattle.far_hand.proofs.Closure.{first_call, then_came}
use Rattle.far_book.proofs.region.Blanks.{row_puts, row_set, span_set}

pub returns-clause-set : goal.returns-clause-set
returns-clause-set g c =
    let t = g.N.Near.view c.put.new.self in
    let u = g.N.Near.view c.put_zeros.new.self in
    span_set (g.N.Near.view c.args.near.now) t u c.args.pointer c.args.len c.args.ds c.pack.result c.words_for.result c.args.place (λ _. 0) c.put.ensures.set c.pack.ensures c.words_for.ensures
    (row_set g.N.Near.still g.N.Near.view g.N.Near.makes c.args.place.log (c.args.place.at + 1) (λ _. 0) c.words_for.result c.put.new.self c.put_zeros.new.self c.put_zeros.ensures)

pub returns-clause-puts : goal.returns-clause-puts
returns-clause-puts g c = then_came (first_call _ _ ((_, _, refl), c.put.ensures.made))
    (row_puts g.N.Near.still g.N.Near.view g.N.Near.makes c.args.place.log (c.args.place.at + 1) (λ _. 0) c.words_for.result c.put.new.self c.put_zeros.new.self c.put_zeros.ensures)
