use Rattle.std.proofs.Common.{◌≡◌, true, ◌+◌, ◌-◌, ◌*◌, ◌%◌, ◌^◌, ◌<◌, ℕ, sym, ap, ◌∙◌, subst, arith}
use Rattle.std.specs.Prelude.{IsSome}
use Rattle.std.proofs.lemmas.Grind.{get_or_default_zero}
use Rattle.far_word.specs.declared.sizes.TheConstants.{CELLS}
use Rattle.far_word.specs.Sizes.{words_for}
use Rattle.far_events.specs.declared.event.Event.TheVariants.{Store}
use Rattle.far_table.specs.View.{OwnerView}
use Rattle.far_table.specs.Seats.{Seated}
use Rattle.far_table.specs.Tells.{owner_of}
use Rattle.far_table.specs.Views.{held_at, len_of, object_at, soiled_at, stored_view}
use Rattle.far_table.proofs.StoreSteps.{store_told, stores_at}
use Rattle.far_table.proofs.SeatLemmas.{inside, places_stored, seat_made, seat_stays}
use Rattle.far_table.proofs.seat.MutSeat.store.Goals as goal

pub store-requires : goal.store-requires
store-requires g c =
    let i = c.self.invariant in
    let q = subst (λ (z : Seated). IsSome (held_at z.view c.args.p) × (c.args.i < words_for (len_of (object_at z.view c.args.p))) × (c.args.word < 2 ^ (8 * (len_of (object_at z.view c.args.p) - 8 * c.args.i))))
    (sym c.self.view_is) (c.requires.held, c.requires.inside, c.requires.padding) in
    let soiled = subst (λ (z : Seated). soiled_at z.view c.args.p ≡ true) (sym c.self.view_is) c.requires.soiled in
    let long = i.6 in
    let read = c.index.ensures ∙ get_or_default_zero c.self.inside.places.items (c.args.p % CELLS) c.index.result.now (omega arith) in
    let w = stores_at {S = ℕ} c.deref.result.now.shared.table_id.slots c.self.inside.seat.id c.self.inside.seat.me i.2 c.self.inside.places.items i.7 c.args.p c.args.i c.args.word q.0 q.1 soiled c.ranges.word.fits q.2 (c.index.result.now + c.args.i) (ap (λ z. z + c.args.i) read) in
    let t = inside _ _ _ _ i.0 (ap (λ t. t.shared.table_id) c.deref.ensures) i.1 w.0 in
    (t.0, t.1, w.1)

pub invariant_of-self : goal.invariant_of-self
invariant_of-self g c =
    let i = c.self.invariant in
    let q = subst (λ (z : Seated). IsSome (held_at z.view c.args.p) × (c.args.i < words_for (len_of (object_at z.view c.args.p))) × (c.args.word < 2 ^ (8 * (len_of (object_at z.view c.args.p) - 8 * c.args.i))))
    (sym c.self.view_is) (c.requires.held, c.requires.inside, c.requires.padding) in
    let soiled = subst (λ (z : Seated). soiled_at z.view c.args.p ≡ true) (sym c.self.view_is) c.requires.soiled in
    let long = i.6 in
    let read = c.index.ensures ∙ get_or_default_zero c.self.inside.places.items (c.args.p % CELLS) c.index.result.now (omega arith) in
    let t = store_told {S = ℕ} c.deref.result.now.shared.table_id.slots c.self.inside.seat.id c.self.inside.seat.me i.2 c.self.inside.places.items i.7 c.args.p c.args.i c.args.word q.0 q.1 soiled c.ranges.word.fits q.2 (c.index.result.now + c.args.i) (ap (λ z. z + c.args.i) read)
    c.store.new.seat.me c.store.ensures.2 in
    seat_stays _ _ _ _ _ _ _ _ _ _ _ _ _ i c.store.ensures.0 t i.5 i.6 (places_stored c.args.p c.args.i c.args.word _ _ i.7)

pub returns-clause-view : goal.returns-clause-view
returns-clause-view g c =
    let i = c.self.invariant in
    let q = subst (λ (z : Seated). IsSome (held_at z.view c.args.p) × (c.args.i < words_for (len_of (object_at z.view c.args.p))) × (c.args.word < 2 ^ (8 * (len_of (object_at z.view c.args.p) - 8 * c.args.i))))
    (sym c.self.view_is) (c.requires.held, c.requires.inside, c.requires.padding) in
    let soiled = subst (λ (z : Seated). soiled_at z.view c.args.p ≡ true) (sym c.self.view_is) c.requires.soiled in
    let long = i.6 in
    let read = c.index.ensures ∙ get_or_default_zero c.self.inside.places.items (c.args.p % CELLS) c.index.result.now (omega arith) in
    let t = store_told {S = ℕ} c.deref.result.now.shared.table_id.slots c.self.inside.seat.id c.self.inside.seat.me i.2 c.self.inside.places.items i.7 c.args.p c.args.i c.args.word q.0 q.1 soiled c.ranges.word.fits q.2 (c.index.result.now + c.args.i) (ap (λ z. z + c.args.i) read)
    c.store.new.seat.me c.store.ensures.2 in
    ap owner_of t.after_is ∙ ap (λ (z : Seated). stored_view c.args.p c.args.i c.args.word z.view) c.self.view_is

pub returns-clause-event : goal.returns-clause-event
returns-clause-event g c =
    let i = c.self.invariant in
    let q = subst (λ (z : Seated). IsSome (held_at z.view c.args.p) × (c.args.i < words_for (len_of (object_at z.view c.args.p))) × (c.args.word < 2 ^ (8 * (len_of (object_at z.view c.args.p) - 8 * c.args.i))))
    (sym c.self.view_is) (c.requires.held, c.requires.inside, c.requires.padding) in
    let soiled = subst (λ (z : Seated). soiled_at z.view c.args.p ≡ true) (sym c.self.view_is) c.requires.soiled in
    let long = i.6 in
    let read = c.index.ensures ∙ get_or_default_zero c.self.inside.places.items (c.args.p % CELLS) c.index.result.now (omega arith) in
    let t = store_told {S = ℕ} c.deref.result.now.shared.table_id.slots c.self.inside.seat.id c.self.inside.seat.me i.2 c.self.inside.places.items i.7 c.args.p c.args.i c.args.word q.0 q.1 soiled c.ranges.word.fits q.2 (c.index.result.now + c.args.i) (ap (λ z. z + c.args.i) read)
    c.store.new.seat.me c.store.ensures.2 in
    seat_made _ _ _ (λ (o : OwnerView). Store o.number c.args.p c.args.i c.args.word) _ _ (ap (λ (z : Seated). z.view) c.self.view_is) t
