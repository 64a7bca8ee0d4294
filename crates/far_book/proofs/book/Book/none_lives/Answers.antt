use Rattle.far_book.proofs.book.Book.none_lives.Goals as goal
use Rattle.std.proofs.Common.{◌≡◌, ◌<◌, ◌∙◌, ℕ, [], ap, sym, subst}
use Rattle.std.proofs.lemmas.Bool.{eqb-true}
use Rattle.far_events.specs.state.State.{State}
use Rattle.far_book.specs.book.BookOf.{BookOf}
use Rattle.far_book.specs.book.NextLive.{live_from}
use Rattle.far_book.specs.book.Own.{own_part}
use Rattle.far_book.proofs.region.NextLives.{none_lives}

pub returns : goal.returns
returns g c vacant =
    let s = g.N.Near.view c.self.inside.near in
    let same = ap (λ (b : BookOf g.row.N.Denot g.row.D.Denot). g.N.Near.view b.near) c.self.view_is in
    let within : c.args.log < s.logs = subst (λ (t : State). c.args.log < t.logs) (sym same) c.requires.log in
    let none = eqb-true _ _ (sym (c.is_vacant.ensures (own_part s) (c.self.invariant.0.notes, within)) ∙ vacant) in
    subst (λ (t : State). (at : ℕ) → live_from t c.args.log at ≡ []) same (none_lives s c.self.invariant.0.notes.law c.args.log none)
