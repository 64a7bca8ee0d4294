use Rattle.far_book.proofs.book.Book.tail.Goals as goal
use Rattle.std.proofs.Common.{◌<◌, ◌∙◌, ap, sym, subst}
use Rattle.far_events.specs.state.State.{State}
use Rattle.far_book.specs.book.BookOf.{BookOf}
use Rattle.far_book.specs.book.Own.{own_part}

pub returns-clause-is : goal.returns-clause-is
returns-clause-is g c =
    let s = g.N.Near.view c.self.inside.near in
    let same = ap (λ (b : BookOf g.row.N.Denot g.row.D.Denot). g.N.Near.view b.near) c.self.view_is in
    let within : c.args.log < s.logs = subst (λ (t : State). c.args.log < t.logs) (sym same) c.requires.log in
    c.tail.ensures.is (own_part s) (c.self.invariant.0.notes, within) ∙ ap (λ (t : State). t.tail c.args.log) same
