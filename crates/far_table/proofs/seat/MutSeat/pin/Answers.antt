use Rattle.std.proofs.Common.{◌≡◌, ◌/◌, true, refl, sym, ap, ◌∙◌, subst, arith, Some, None, ◌∷◌}
use Rattle.std.specs.Prelude.{IsSome}
use lib.ListN.{length-set}
use Rattle.far_word.specs.declared.sizes.TheConstants.{CELLS}
use Rattle.far_word.specs.Pointer.{read_of}
use Rattle.far_events.specs.declared.event.Event.TheVariants.{Pin}
use Rattle.far_events.specs.events.Pin.{pin_answer, place_to_view}
use Rattle.far_events.proofs.Put.{put_same}
use Rattle.far_table.specs.View.{OwnerView}
use Rattle.far_table.specs.Layout.{cell_at}
use Rattle.far_table.specs.Seats.{Seated}
use Rattle.far_table.specs.Tells.{owner_of}
use Rattle.far_table.specs.Views.{held_at, held_view, pinned_at, uses, warmed_view}
use Rattle.far_table.proofs.PinSteps.{pins}
use Rattle.far_table.proofs.SeatLemmas.{inside, pin_held, pin_kept, places_put, places_warmed, rests, seat_made, seat_stays}
use Rattle.far_table.proofs.seat.MutSeat.pin.Goals as goal

pub fetch_or-found-requires : goal.fetch_or-found-requires
fetch_or-found-requires g c =
    let i = c.self.invariant in
    let q = subst (λ (z : Seated). (c.args.p / CELLS ≡ z.view.number) × (uses z.view c.args.p ≡ true) × (held_at z.view c.args.p ≡ None) × IsSome z.view.open_at) (sym c.self.view_is)
    (c.requires.own, c.requires.used, c.requires.free, c.requires.opened) in
    let own = q.0 in
    let number = i.3 in
    let few = i.4 in
    let t = inside _ _ _ (cell_at c.args.p) i.0 (ap (λ t. t.shared.table_id) c.deref.ensures) i.1 (omega arith) in
    (t.0, t.1, pins _ _ _ i.2 c.args.p _ c.mask.ensures (omega arith) q.0 q.1 q.2 q.3)

pub invariant_of-self : goal.invariant_of-self
invariant_of-self g c =
    let i = c.self.invariant in
    let h = c.fetch_or-found.ensures in
    let l = h.2.1 c.args.p refl in
    let r = rests c.fetch_or-found.result (read_of c.fetch_or-found.result) c.resting_place.result refl l.0.0 c.resting_place.ensures in
    let none : place_to_view (read_of c.fetch_or-found.result) ≡ None = sym r ∙ c.in_default.is in
    seat_stays _ _ _ _ _ _ _ _ _ _ _ _ _ i h.0 (pin_kept _ _ _ c.args.p c.fetch_or-found.result none l.1) i.5 i.6
    (places_warmed c.args.p c.fetch_or-found.result _ _ i.7)

pub returns-in_default-clause-kept : goal.returns-in_default-clause-kept
returns-in_default-clause-kept g c =
    let l = c.fetch_or-found.ensures.2.1 c.args.p refl in
    let r = rests c.fetch_or-found.result (read_of c.fetch_or-found.result) c.resting_place.result refl l.0.0 c.resting_place.ensures in
    let none : place_to_view (read_of c.fetch_or-found.result) ≡ None = sym r ∙ c.in_default.is in
    let t = pin_kept _ _ _ c.args.p c.fetch_or-found.result none l.1 in
    (ap owner_of t.after_is ∙ ap (λ (z : Seated). warmed_view c.args.p c.fetch_or-found.result z.view) c.self.view_is, none)

pub returns-in_default-clause-found : goal.returns-in_default-clause-found
returns-in_default-clause-found g c =
    let n = c.fetch_or-found.result in
    let l = c.fetch_or-found.ensures.2.1 c.args.p refl in
    let r = rests n (read_of n) c.resting_place.result refl l.0.0 c.resting_place.ensures in
    let none : place_to_view (read_of n) ≡ None = sym r ∙ c.in_default.is in
    let t = pin_kept _ _ _ c.args.p n none l.1 in
    (n, ap (λ z. (owner_of z).found) t.after_is ∙ ap (λ (z : Seated). (c.args.p, n) ∷ z.view.found) c.self.view_is, ap (pin_answer n) (sym none))

pub returns-in_default-clause-event : goal.returns-in_default-clause-event
returns-in_default-clause-event g c =
    let l = c.fetch_or-found.ensures.2.1 c.args.p refl in
    let r = rests c.fetch_or-found.result (read_of c.fetch_or-found.result) c.resting_place.result refl l.0.0 c.resting_place.ensures in
    let none : place_to_view (read_of c.fetch_or-found.result) ≡ None = sym r ∙ c.in_default.is in
    let t = pin_kept _ _ _ c.args.p c.fetch_or-found.result none l.1 in
    seat_made _ _ _ (λ (o : OwnerView). Pin o.number c.args.p) _ _ (ap (λ (z : Seated). z.view) c.self.view_is) t

pub overflow_mul-place : goal.overflow_mul-place
overflow_mul-place g c =
    let l = c.fetch_or-found.ensures.2.1 c.args.p refl in
    let r = rests c.fetch_or-found.result (read_of c.fetch_or-found.result) c.resting_place.result refl l.0.0 c.resting_place.ensures in
    let fits = (l.0.1 c.in-Some.place (sym r ∙ c.in-Some.is)).0 in
    omega arith

pub overflow_add-place : goal.overflow_add-place
overflow_add-place g c =
    let l = c.fetch_or-found.ensures.2.1 c.args.p refl in
    let r = rests c.fetch_or-found.result (read_of c.fetch_or-found.result) c.resting_place.result refl l.0.0 c.resting_place.ensures in
    let fits = (l.0.1 c.in-Some.place (sym r ∙ c.in-Some.is)).0 in
    omega arith

pub overflow_add-place-2 : goal.overflow_add-place-2
overflow_add-place-2 g c =
    let l = c.fetch_or-found.ensures.2.1 c.args.p refl in
    let r = rests c.fetch_or-found.result (read_of c.fetch_or-found.result) c.resting_place.result refl l.0.0 c.resting_place.ensures in
    let fits = (l.0.1 c.in-Some.place (sym r ∙ c.in-Some.is)).0 in
    omega arith

pub invariant_of-self-2 : goal.invariant_of-self-2
invariant_of-self-2 g c =
    let i = c.self.invariant in
    let h = c.fetch_or-found.ensures in
    let l = h.2.1 c.args.p refl in
    let r = rests c.fetch_or-found.result (read_of c.fetch_or-found.result) c.resting_place.result refl l.0.0 c.resting_place.ensures in
    let some = sym r ∙ c.in-Some.is in
    let own = c.requires.own ∙ ap (λ (z : Seated). z.view.number) (sym c.self.view_is) in
    let fits = l.0.1 c.in-Some.place some in
    seat_stays _ _ _ _ _ _ _ _ _ _ _ _ _ i h.0 (pin_held _ _ _ c.args.p c.fetch_or-found.result c.in-Some.place some l.1) i.5 (length-set _ _ _ ∙ i.6)
    (places_put _ _ c.args.p c.in-Some.place (places_warmed c.args.p c.fetch_or-found.result _ _ i.7) i.6 own fits.0 fits.1)

pub returns-clause-held : goal.returns-clause-held
returns-clause-held g c =
    let l = c.fetch_or-found.ensures.2.1 c.args.p refl in
    let r = rests c.fetch_or-found.result (read_of c.fetch_or-found.result) c.resting_place.result refl l.0.0 c.resting_place.ensures in
    let some = sym r ∙ c.in-Some.is in
    let n = c.fetch_or-found.result in
    let t = pin_held _ _ _ c.args.p n c.in-Some.place some l.1 in
    (n, some, ap owner_of t.after_is ∙ ap (λ (z : Seated). held_view c.args.p c.in-Some.place (warmed_view c.args.p n z.view)) c.self.view_is)

pub returns-clause-pinned : goal.returns-clause-pinned
returns-clause-pinned g c =
    let l = c.fetch_or-found.ensures.2.1 c.args.p refl in
    let r = rests c.fetch_or-found.result (read_of c.fetch_or-found.result) c.resting_place.result refl l.0.0 c.resting_place.ensures in
    let t = pin_held _ _ _ c.args.p c.fetch_or-found.result c.in-Some.place (sym r ∙ c.in-Some.is) l.1 in
    let o = owner_of c.self.inside.seat.me.0 in (
      ap (λ z. pinned_at (owner_of z) c.args.p) t.after_is ∙ put_same (pinned_at o) c.args.p true c.args.p refl,
      ap (λ z. held_at (owner_of z) c.args.p) t.after_is ∙ put_same (held_at o) c.args.p (Some c.in-Some.place) c.args.p refl,
    )

pub returns-clause-found : goal.returns-clause-found
returns-clause-found g c =
    let n = c.fetch_or-found.result in
    let l = c.fetch_or-found.ensures.2.1 c.args.p refl in
    let r = rests n (read_of n) c.resting_place.result refl l.0.0 c.resting_place.ensures in
    let some = sym r ∙ c.in-Some.is in
    let t = pin_held _ _ _ c.args.p n c.in-Some.place some l.1 in
    (n, ap (λ z. (owner_of z).found) t.after_is ∙ ap (λ (z : Seated). (c.args.p, n) ∷ z.view.found) c.self.view_is, ap (pin_answer n) (sym some))

pub returns-clause-event : goal.returns-clause-event
returns-clause-event g c =
    let l = c.fetch_or-found.ensures.2.1 c.args.p refl in
    let r = rests c.fetch_or-found.result (read_of c.fetch_or-found.result) c.resting_place.result refl l.0.0 c.resting_place.ensures in
    let t = pin_held _ _ _ c.args.p c.fetch_or-found.result c.in-Some.place (sym r ∙ c.in-Some.is) l.1 in
    seat_made _ _ _ (λ (o : OwnerView). Pin o.number c.args.p) _ _ (ap (λ (z : Seated). z.view) c.self.view_is) t
