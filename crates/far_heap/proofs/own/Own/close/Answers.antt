use Rattle.std.proofs.Common.{refl, ap, subst, sym, ◌∙◌}
use Rattle.far_table.specs.Seats.{Seated}
use Rattle.far_heap.specs.Mine.{OwnOk, closing, mine_of}
use Rattle.far_heap.proofs.Mines.{closed_mine}
use Rattle.far_heap.proofs.OwnSteps.{closed_ok, seated_is, structures_move}
use Rattle.far_heap.proofs.own.Own.close.Goals as goal

pub invariant_of-self : goal.invariant_of-self
invariant_of-self g c =
    let s = c.self.inside in
    let next = c.end_scope in
    let ends = next.ensures.ends in (
      subst (λ (t : Seated). OwnOk t _ s.number next.new.self) (sym (seated_is c.close.new.self s.seat.table _ c.close.ensures.table c.close.ensures.view))
          (closed_ok s.seat _ s.number s.rows c.self.invariant.0 next.new.self ends),
      structures_move s.number s.rows next.new.self s.seat.view c.close.new.self.view _ c.self.invariant.1 c.close.ensures.view (λ p. refl) ends.structures,
    )

pub returns : goal.returns
returns g c =
    let s = c.self.inside in
    ap mine_of (seated_is c.close.new.self s.seat.table _ c.close.ensures.table c.close.ensures.view) ∙ closed_mine s.seat ∙ ap closing c.self.view_is
