use Rattle.std.proofs.Common.{◌+◌, ◌≡◌, ◌%◌, ◌<◌, ℕ, true, sym, ap, ◌∙◌, subst, arith}
use Rattle.std.specs.Prelude.{IsSome}
use Rattle.std.proofs.lemmas.Grind.{get_or_default_zero}
use Rattle.far_word.specs.declared.sizes.TheConstants.{CELLS}
use Rattle.far_word.specs.Sizes.{words_for}
use Rattle.far_events.specs.declared.event.Event.TheVariants.{Load}
use Rattle.far_table.specs.View.{OwnerView}
use Rattle.far_table.specs.Seats.{Seated}
use Rattle.far_table.specs.Tells.{owner_of}
use Rattle.far_table.specs.Views.{held_at, len_of, object_at, word_in_view}
use Rattle.far_table.proofs.LoadSteps.{load_told, loads_at}
use Rattle.far_table.proofs.SeatLemmas.{inside, seat_made, seat_stays}
use Rattle.far_table.proofs.seat.MutSeat.load.Goals as goal

pub load-requires : goal.load-requires
load-requires g c =
    let i = c.self.invariant in
    let q = subst (λ (z : Seated). IsSome (held_at z.view c.args.p) × (c.args.i < words_for (len_of (object_at z.view c.args.p)))) (sym c.self.view_is) (c.requires.held, c.requires.inside) in
    let long = i.6 in
    let read = c.index.ensures ∙ get_or_default_zero c.self.inside.places.items (c.args.p % CELLS) c.index.result.now (omega arith) in
    let w = loads_at _ _ _ i.2 _ i.7 c.args.p c.args.i q.0 q.1 (c.index.result.now + c.args.i) (ap (λ z. z + c.args.i) read) in
    let t = inside _ _ _ _ i.0 (ap (λ t. t.shared.table_id) c.deref.ensures) i.1 w.0 in
    (t.0, t.1, w.1)

pub invariant_of-self : goal.invariant_of-self
invariant_of-self g c =
    let i = c.self.invariant in
    let q = subst (λ (z : Seated). IsSome (held_at z.view c.args.p) × (c.args.i < words_for (len_of (object_at z.view c.args.p)))) (sym c.self.view_is) (c.requires.held, c.requires.inside) in
    let long = i.6 in
    let read = c.index.ensures ∙ get_or_default_zero c.self.inside.places.items (c.args.p % CELLS) c.index.result.now (omega arith) in
    let t = load_told {S = ℕ} c.deref.result.now.shared.table_id.slots c.self.inside.seat.id c.self.inside.seat.me i.2 c.self.inside.places.items i.7 c.args.p c.args.i q.0 q.1 (c.index.result.now + c.args.i) (ap (λ z. z + c.args.i) read)
    c.load.result c.load.new.seat.me c.load.ensures.2 in
    seat_stays _ _ _ _ _ _ _ _ _ _ _ _ _ i c.load.ensures.0 t.1 i.5 i.6 i.7

pub returns-clause-word : goal.returns-clause-word
returns-clause-word g c =
    let i = c.self.invariant in
    let q = subst (λ (z : Seated). IsSome (held_at z.view c.args.p) × (c.args.i < words_for (len_of (object_at z.view c.args.p)))) (sym c.self.view_is) (c.requires.held, c.requires.inside) in
    let long = i.6 in
    let read = c.index.ensures ∙ get_or_default_zero c.self.inside.places.items (c.args.p % CELLS) c.index.result.now (omega arith) in
    let t = load_told {S = ℕ} c.deref.result.now.shared.table_id.slots c.self.inside.seat.id c.self.inside.seat.me i.2 c.self.inside.places.items i.7 c.args.p c.args.i q.0 q.1 (c.index.result.now + c.args.i) (ap (λ z. z + c.args.i) read)
    c.load.result c.load.new.seat.me c.load.ensures.2 in
    subst (λ (z : Seated). z.view.honest ≡ true → c.load.result ≡ word_in_view (object_at z.view c.args.p) c.args.i) c.self.view_is t.0

pub returns-clause-same : goal.returns-clause-same
returns-clause-same g c =
    let i = c.self.invariant in
    let q = subst (λ (z : Seated). IsSome (held_at z.view c.args.p) × (c.args.i < words_for (len_of (object_at z.view c.args.p)))) (sym c.self.view_is) (c.requires.held, c.requires.inside) in
    let long = i.6 in
    let read = c.index.ensures ∙ get_or_default_zero c.self.inside.places.items (c.args.p % CELLS) c.index.result.now (omega arith) in
    let t = load_told {S = ℕ} c.deref.result.now.shared.table_id.slots c.self.inside.seat.id c.self.inside.seat.me i.2 c.self.inside.places.items i.7 c.args.p c.args.i q.0 q.1 (c.index.result.now + c.args.i) (ap (λ z. z + c.args.i) read)
    c.load.result c.load.new.seat.me c.load.ensures.2 in
    let table = c.load.ensures.0 in
    let view = ap owner_of t.1.after_is in
    (λ j. record { table = table j; view = view j }) ∙ c.self.view_is

pub returns-clause-event : goal.returns-clause-event
returns-clause-event g c =
    let i = c.self.invariant in
    let q = subst (λ (z : Seated). IsSome (held_at z.view c.args.p) × (c.args.i < words_for (len_of (object_at z.view c.args.p)))) (sym c.self.view_is) (c.requires.held, c.requires.inside) in
    let long = i.6 in
    let read = c.index.ensures ∙ get_or_default_zero c.self.inside.places.items (c.args.p % CELLS) c.index.result.now (omega arith) in
    let t = load_told {S = ℕ} c.deref.result.now.shared.table_id.slots c.self.inside.seat.id c.self.inside.seat.me i.2 c.self.inside.places.items i.7 c.args.p c.args.i q.0 q.1 (c.index.result.now + c.args.i) (ap (λ z. z + c.args.i) read)
    c.load.result c.load.new.seat.me c.load.ensures.2 in
    seat_made _ _ _ (λ (o : OwnerView). Load o.number c.args.p c.args.i) _ _ (ap (λ (z : Seated). z.view) c.self.view_is) t.1
