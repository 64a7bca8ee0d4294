use Rattle.std.proofs.Common.{refl, sym, ap, ◌∙◌, subst, arith}
use Rattle.std.specs.Prelude.{IsSome}
use Rattle.far_table.specs.View.{OwnerView}
use Rattle.far_table.specs.Layout.{scope_at}
use Rattle.far_table.specs.Seats.{Seated}
use Rattle.far_table.proofs.SeatLemmas.{inside, places_same, seat_stays}
use Rattle.far_table.proofs.Steps.{opens}
use Rattle.far_table.proofs.SeatLemmas.{remembered_word}
use Rattle.far_table.proofs.seat.MutSeat.open.Goals as goal

pub store-requires : goal.store-requires
store-requires g c =
    let i = c.self.invariant in
    let v = ap (λ (z : Seated). z.view) (sym c.self.view_is) in
    let read = subst (λ (z : Seated). IsSome z.view.epoch) (sym c.self.view_is) c.requires.read in
    let small = i.4 in
    let t = inside _ _ _ (scope_at c.self.inside.number) i.0 (ap (λ t. t.shared.table_id) c.deref.ensures) i.1 (omega arith) in
    (t.0, t.1, opens _ _ _ i.2 _ _ i.3 (ap (λ (y : OwnerView). y.open_at) (sym v) ∙ c.requires.closed) read (remembered_word _ _ i.5 read).0)

pub invariant_of-self : goal.invariant_of-self
invariant_of-self g c = let i = c.self.invariant in let h = c.store.ensures in
    seat_stays _ _ _ _ _ _ _ _ _ _ _ _ _ i h.0 h.2 i.5 i.6 (places_same _ _ _ refl refl refl refl i.7)
