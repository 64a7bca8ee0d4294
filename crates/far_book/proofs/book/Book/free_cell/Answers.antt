use Rattle.far_book.proofs.book.Book.free_cell.Goals as goal
use Rattle.std.proofs.Common.{subst, ◌<◌, ap, sym}
use Rattle.far_events.specs.state.State.{State}
use Rattle.far_book.specs.book.BookOf.{BookOf}
use Rattle.far_book.specs.book.Ledger.{IsLowestFree}
use Rattle.far_book.specs.book.Own.{own_part}
use Rattle.far_book.proofs.region.Calls.{lowest_own}

pub returns : goal.returns
returns g c =
    let same = ap (λ (b : BookOf g.row.N.Denot g.row.D.Denot). g.N.Near.view b.near) c.self.view_is in
    let within : c.args.owner < (g.N.Near.view c.self.inside.near).mutators = subst (λ (s : State). c.args.owner < s.mutators) (sym same) c.requires.owner in
    subst (λ (s : State). IsLowestFree s c.args.owner c.free_cell.result) same
    (lowest_own (g.N.Near.view c.self.inside.near) c.args.owner c.free_cell.result (c.free_cell.ensures (own_part (g.N.Near.view c.self.inside.near)) c.self.invariant.0.notes within))
