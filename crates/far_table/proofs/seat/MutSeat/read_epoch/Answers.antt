use Rattle.std.proofs.Common.{◌≡◌, refl, sym, ap, ◌∙◌, arith}
use Rattle.far_table.specs.View.{OwnerView}
use Rattle.far_table.specs.Layout.{EPOCH_AT}
use Rattle.far_table.specs.Seats.{Seated}
use Rattle.far_table.proofs.SeatLemmas.{inside, places_same, seat_stays}
use Rattle.far_table.proofs.Steps.{reads_epoch}
use Rattle.far_table.proofs.seat.MutSeat.read_epoch.Goals as goal

pub load-found-requires : goal.load-found-requires
load-found-requires g c =
    let i = c.self.invariant in
    let v = ap (λ (z : Seated). z.view) (sym c.self.view_is) in
    let t = inside _ _ _ EPOCH_AT i.0 (ap (λ t. t.shared.table_id) c.deref.ensures) i.1 (omega arith) in
    (t.0, t.1, reads_epoch _ _ _ i.2 (ap (λ (y : OwnerView). y.open_at) (sym v) ∙ c.requires.closed))

pub invariant_of-self : goal.invariant_of-self
invariant_of-self g c = let i = c.self.invariant in let h = c.load-found.ensures in
    seat_stays _ _ _ _ _ _ _ _ _ _ _ _ _ i h.0 h.2.1 (λ e is. let same : c.load-found.result ≡ e = cc in (sym same, h.2.0)) i.6 (places_same _ _ _ refl refl refl refl i.7)
