use Rattle.std.proofs.Common.{◌≡◌, Some, None, sym, ap, subst, arith}
use Rattle.std.specs.Prelude.{IsSome}
use Rattle.far_table.specs.Layout.{scope_at}
use Rattle.far_table.specs.Seats.{Seated}
use Rattle.far_table.proofs.SeatLemmas.{inside, seat_stays}
use Rattle.far_table.proofs.Steps.{closes}
use Rattle.far_table.proofs.seat.MutSeat.close.Goals as goal

pub store-requires : goal.store-requires
store-requires g c =
    let i = c.self.invariant in
    let opened = subst (λ (z : Seated). IsSome z.view.open_at) (sym c.self.view_is) c.requires.opened in
    let small = i.4 in
    let t = inside _ _ _ (scope_at c.self.inside.number) i.0 (ap (λ t. t.shared.table_id) c.deref.ensures) i.1 (omega arith) in
    (t.0, t.1, closes _ _ _ i.2 _ i.3 opened)

pub invariant_of-self : goal.invariant_of-self
invariant_of-self g c = let i = c.self.invariant in let h = c.store.ensures in
    seat_stays _ _ _ _ _ _ _ _ _ _ _ _ _ i h.0 h.2 (λ e is. let odd : None ≡ Some e = is in cc) i.6 (λ p place h. let odd : None ≡ Some place = h in cc)
