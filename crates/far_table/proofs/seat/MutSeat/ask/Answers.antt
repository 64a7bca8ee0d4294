use Rattle.std.proofs.Common.{◌≡◌, ◌/◌, true, refl, sym, ap, ◌∙◌, subst, arith, None, ◌∷◌}
use Rattle.far_word.specs.declared.sizes.TheConstants.{CELLS}
use Rattle.far_events.specs.declared.event.Event.TheVariants.{Ask}
use Rattle.far_table.specs.View.{OwnerView}
use Rattle.far_table.specs.Layout.{cell_at}
use Rattle.far_table.specs.Seats.{Seated, Remembers}
use Rattle.far_table.specs.Tells.{owner_of}
use Rattle.far_table.specs.Views.{asked_view, held_at, uses}
use Rattle.far_table.proofs.AskSteps.{asks}
use Rattle.far_table.proofs.SeatLemmas.{asked_epoch, asked_found, inside, places_asked, seat_made, seat_stays}
use Rattle.far_table.proofs.seat.MutSeat.ask.Goals as goal

pub fetch_or-requires : goal.fetch_or-requires
fetch_or-requires g c =
    let i = c.self.invariant in
    let q = subst (λ (z : Seated). (c.args.p / CELLS ≡ z.view.number) × (uses z.view c.args.p ≡ true) × (held_at z.view c.args.p ≡ None)) (sym c.self.view_is) (c.requires.own, c.requires.used, c.requires.free) in
    let own = q.0 in
    let number = i.3 in
    let few = i.4 in
    let t = inside _ _ _ (cell_at c.args.p) i.0 (ap (λ t. t.shared.table_id) c.deref.ensures) i.1 (omega arith) in
    (t.0, t.1, asks _ _ _ i.2 c.args.p _ c.args.mark c.mask.ensures c.requires.request (omega arith) q.0 q.1 q.2)

pub invariant_of-self : goal.invariant_of-self
invariant_of-self g c =
    let i = c.self.invariant in
    let h = c.fetch_or.ensures in
    let free = subst (λ (z : Seated). held_at z.view c.args.p ≡ None) (sym c.self.view_is) c.requires.free in
    let epoch = asked_epoch c.args.p c.args.mark c.fetch_or.result (owner_of c.self.inside.seat.me.0) in
    seat_stays _ _ _ _ _ _ _ _ _ _ _ _ _ i h.0 (h.2 c.args.p c.args.mark c.requires.request refl c.mask.ensures) (subst (λ z. Remembers z c.self.inside.epoch) (sym epoch) i.5) i.6
    (places_asked c.args.p c.args.mark c.fetch_or.result _ _ free i.7)

pub returns-clause-view : goal.returns-clause-view
returns-clause-view g c =
    let t = c.fetch_or.ensures.2 c.args.p c.args.mark c.requires.request refl c.mask.ensures in
    ap owner_of t.after_is ∙ ap (λ (z : Seated). asked_view c.args.p c.args.mark c.fetch_or.result z.view) c.self.view_is

pub returns-clause-found : goal.returns-clause-found
returns-clause-found g c =
    let n = c.fetch_or.result in
    let t = c.fetch_or.ensures.2 c.args.p c.args.mark c.requires.request refl c.mask.ensures in
    ap (λ z. (owner_of z).found) t.after_is ∙ asked_found c.args.p c.args.mark n _ c.requires.request ∙ ap (λ (z : Seated). (c.args.p, n) ∷ z.view.found) c.self.view_is

pub returns-clause-event : goal.returns-clause-event
returns-clause-event g c =
    seat_made _ _ _ (λ (o : OwnerView). Ask o.number c.args.p c.args.mark) _ _ (ap (λ (z : Seated). z.view) c.self.view_is)
    (c.fetch_or.ensures.2 c.args.p c.args.mark c.requires.request refl c.mask.ensures)
