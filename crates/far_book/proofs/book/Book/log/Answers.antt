use Rattle.far_book.proofs.book.Book.log.Goals as goal
use Rattle.std.proofs.Common.{◌<◌, subst, ap, sym, ◌∙◌}
use Rattle.far_events.specs.state.State.{State}
use Rattle.far_book.specs.book.BookOf.{BookOf}
use Rattle.far_book.specs.book.Own.{own_part}
use Rattle.far_book.specs.book.Rows.{row_of}
use Rattle.far_book.proofs.region.Calls.{row_own}

pub returns-clause-kind : goal.returns-clause-kind
returns-clause-kind g c =
    let same = ap (λ (b : BookOf g.row.N.Denot g.row.D.Denot). g.N.Near.view b.near) c.self.view_is in
    let within : c.args.log < (g.N.Near.view c.self.inside.near).logs = subst (λ (s : State). c.args.log < s.logs) (sym same) c.requires.log in
    c.kind.ensures (own_part (g.N.Near.view c.self.inside.near)) (c.self.invariant.0.notes, within) ∙ ap (λ (s : State). s.kind c.args.log) same

pub returns-clause-row : goal.returns-clause-row
returns-clause-row g c =
    let same = ap (λ (b : BookOf g.row.N.Denot g.row.D.Denot). g.N.Near.view b.near) c.self.view_is in
    let within : c.args.log < (g.N.Near.view c.self.inside.near).logs = subst (λ (s : State). c.args.log < s.logs) (sym same) c.requires.log in
    c.row.ensures (own_part (g.N.Near.view c.self.inside.near)) (c.self.invariant.0.notes, within)
    ∙ row_own (g.N.Near.view c.self.inside.near) c.self.invariant.0.notes.law c.args.log ∙ ap (λ s. row_of s c.args.log) same
