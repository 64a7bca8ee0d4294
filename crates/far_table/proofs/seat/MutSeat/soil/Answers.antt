use Rattle.std.proofs.Common.{true, refl, sym, ap, ◌∙◌, subst, arith, ◌∷◌}
use Rattle.std.specs.Prelude.{IsSome}
use Rattle.far_events.specs.declared.event.Event.TheVariants.{Soil}
use Rattle.far_events.proofs.Put.{put_same}
use Rattle.far_table.specs.View.{OwnerView}
use Rattle.far_table.specs.Layout.{cell_at}
use Rattle.far_table.specs.Seats.{Seated}
use Rattle.far_table.specs.Tells.{owner_of}
use Rattle.far_table.specs.Views.{dirtied_at, held_at, soiled_at, soiled_view}
use Rattle.far_table.proofs.HeldFacts.{some_there}
use Rattle.far_table.proofs.SoilSteps.{dirtied_again, dirtied_anew, soils}
use Rattle.far_table.proofs.SeatLemmas.{inside, places_same, seat_made, seat_stays}
use Rattle.far_table.proofs.seat.MutSeat.soil.Goals as goal

pub fetch_or-requires : goal.fetch_or-requires
fetch_or-requires g c =
    let i = c.self.invariant in
    let held = subst (λ (z : Seated). IsSome (held_at z.view c.args.p)) (sym c.self.view_is) c.requires.held in
    let there = some_there _ held in
    let own = (i.7 c.args.p there.0 there.1).own in
    let number = i.3 in
    let few = i.4 in
    let t = inside _ _ _ (cell_at c.args.p) i.0 (ap (λ t. t.shared.table_id) c.deref.ensures) i.1 (omega arith) in
    (t.0, t.1, soils _ _ _ i.2 c.args.p _ c.mask.ensures (omega arith) own held)

pub invariant_of-self : goal.invariant_of-self
invariant_of-self g c =
    let i = c.self.invariant in
    let h = c.fetch_or.ensures in
    let o : OwnerView = owner_of c.self.inside.seat.me.0 in
    seat_stays _ _ _ _ _ _ _ _ _ _ _ _ _ i h.0 (h.2.1 c.args.p refl) i.5 i.6 (places_same o (soiled_view c.args.p c.fetch_or.result o) _ refl refl refl refl i.7)

pub returns-clause-view : goal.returns-clause-view
returns-clause-view g c = ap owner_of (c.fetch_or.ensures.2.1 c.args.p refl).after_is ∙ ap (λ (z : Seated). soiled_view c.args.p c.fetch_or.result z.view) c.self.view_is

pub returns-clause-soiled : goal.returns-clause-soiled
returns-clause-soiled g c =
    let o : OwnerView = owner_of c.self.inside.seat.me.0 in
    ap (λ z. soiled_at (owner_of z) c.args.p) (c.fetch_or.ensures.2.1 c.args.p refl).after_is ∙ put_same (soiled_at o) c.args.p true c.args.p refl

pub returns-clause-anew : goal.returns-clause-anew
returns-clause-anew g c = λ clean. ap (λ (o : OwnerView). dirtied_at o c.args.p) (returns-clause-view g c) ∙ dirtied_anew c.args.p c.fetch_or.result c.args.self.now.view clean

pub returns-clause-again : goal.returns-clause-again
returns-clause-again g c = λ dirty. ap (λ (o : OwnerView). dirtied_at o c.args.p) (returns-clause-view g c) ∙ dirtied_again c.args.p c.fetch_or.result c.args.self.now.view dirty

pub returns-clause-found : goal.returns-clause-found
returns-clause-found g c =
    let n = c.fetch_or.result in
    ap (λ z. (owner_of z).found) (c.fetch_or.ensures.2.1 c.args.p refl).after_is ∙ ap (λ (z : Seated). (c.args.p, n) ∷ z.view.found) c.self.view_is

pub returns-clause-event : goal.returns-clause-event
returns-clause-event g c =
    seat_made _ _ _ (λ (o : OwnerView). Soil o.number c.args.p) _ _ (ap (λ (z : Seated). z.view) c.self.view_is) (c.fetch_or.ensures.2.1 c.args.p refl)
