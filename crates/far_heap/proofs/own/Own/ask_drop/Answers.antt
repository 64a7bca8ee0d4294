use Rattle.std.proofs.Common.{◌≡◌, ℕ, true, false, ap, subst, sym, ◌∙◌, arith}
use Rattle.far_table.specs.Seats.{Seated}
use Rattle.far_table.specs.Views.{held_at}
use Rattle.far_heap.specs.Mine.{Mine, OwnOk, StructuresOk, dropping, mine_of, uses, views}
use Rattle.far_table.specs.View.{OwnerView}
use Rattle.far_heap.proofs.Adopting.{dropped_mine, dropped_ok, dropped_structures}
use Rattle.far_heap.proofs.Mines.{none_there, uses_so, views_own}
use Rattle.far_heap.proofs.OwnSteps.{seated_is, used_below}
use Rattle.far_heap.proofs.own.Own.ask_drop.Goals as goal

pub ask-found-requires-clause-used : goal.ask-found-requires-clause-used
ask-found-requires-clause-used g c = (uses_so c.self.inside.seat c.args.p (subst (λ (m : Mine). uses m c.args.p ≡ true) (sym c.self.view_is) c.requires.used)).1

pub ask-found-requires-clause-free : goal.ask-found-requires-clause-free
ask-found-requires-clause-free g c =
    let s = c.self.inside.seat in
    let p : ℕ = c.args.p in
    let own = (uses_so s p (subst (λ (m : Mine). uses m p ≡ true) (sym c.self.view_is) c.requires.used)).0 in
    none_there (held_at s.view p) (sym (views_own s p own) ∙ subst (λ (m : Mine). views m p ≡ false) (sym c.self.view_is) c.requires.free)

pub note_unused-requires : goal.note_unused-requires
note_unused-requires g c =
    let s = c.self.inside in
    let used = subst (λ (m : Mine). uses m c.args.p ≡ true) (sym c.self.view_is) c.requires.used in
    omega (arith, used_below s.seat _ s.number s.rows c.self.invariant.0 c.args.p used, c.self.invariant.0.rows_ok.many)

pub invariant_of-self : goal.invariant_of-self
invariant_of-self g c =
    let s = c.self.inside in
    let p : ℕ = c.args.p in
    let own = (uses_so s.seat p (subst (λ (m : Mine). uses m p ≡ true) (sym c.self.view_is) c.requires.used)).0 in
    let free = sym (views_own s.seat p own) ∙ subst (λ (m : Mine). views m p ≡ false) (sym c.self.view_is) c.requires.free in (
      subst (λ (t : Seated). OwnOk t _ s.number c.note_unused.new.self) (sym (seated_is c.ask-found.new.self s.seat.table _ c.ask-found.ensures.table c.ask-found.ensures.view))
          (dropped_ok s.seat _ s.number s.rows c.self.invariant.0 p (own ∙ c.self.invariant.0.number_is) c.ask-found.result c.note_unused.new.self free c.note_unused.ensures),
      subst (λ (o : OwnerView). StructuresOk o s.number c.note_unused.new.self) (sym c.ask-found.ensures.view)
          (dropped_structures s.seat.view s.number s.rows c.note_unused.new.self c.self.invariant.1 p c.ask-found.result c.note_unused.ensures),
    )

pub returns-clause-dropped : goal.returns-clause-dropped
returns-clause-dropped g c =
    let s = c.self.inside in
    let p : ℕ = c.args.p in
    let own = (uses_so s.seat p (subst (λ (m : Mine). uses m p ≡ true) (sym c.self.view_is) c.requires.used)).0 in
    ap mine_of (seated_is c.ask-found.new.self s.seat.table _ c.ask-found.ensures.table c.ask-found.ensures.view)
    ∙ dropped_mine s.seat _ s.number s.rows c.self.invariant.0 p (own ∙ c.self.invariant.0.number_is) c.ask-found.result ∙ ap (dropping p) c.self.view_is
