use Rattle.std.proofs.Common.{◌+◌, ◌*◌, ◌/◌, ◌%◌, ◌≤◌, length, sym, ap, ◌∙◌, subst, arith}
use Rattle.std.specs.Arc.{arc_value}
use Rattle.std.specs.Prelude.{IsSome}
use Rattle.std.proofs.lemmas.Grind.{get_or_default_zero}
use Rattle.atomic_table.specs.Seated.{TableId}
use Rattle.far_word.specs.declared.sizes.TheConstants.{CELLS}
use Rattle.far_table.specs.SeatRows.{RowLoaded}
use Rattle.far_table.specs.Seats.{Seated}
use Rattle.far_table.specs.Tells.{owner_of}
use Rattle.far_table.specs.View.{OwnerView, View}
use Rattle.far_table.specs.Views.{held_at, len_of, object_at}
use Rattle.far_table.proofs.SeatLemmas.{SeatOk}
use Rattle.far_table.proofs.seat.MutSeat.load_words.Goals as goal

pub load_row-requires : goal.load_row-requires
load_row-requires g c =
    let i = c.self.invariant in
    let long = i.6 in
    let q = subst (λ (z : Seated). IsSome (held_at z.view c.args.p) × (8 * c.args.first + length c.args.out.now ≤ len_of (object_at z.view c.args.p))) (sym c.self.view_is) (c.requires.held, c.requires.inside) in
    let read = c.index.ensures ∙ get_or_default_zero c.self.inside.places.items (c.args.p % CELLS) c.index.result.now (omega arith) in record {
      row = record {
        list = c.self.inside.places.items;
        table = (i.0 ∙ sym (ap (λ t. t.shared.table_id) c.deref.ensures), i.1);
        owner = i.2;
        places = i.7;
        begins = ap (λ z. z + c.args.first) read;
        held = q.0;
        inside = q.1;
      };
    }

pub invariant_of-self : goal.invariant_of-self
invariant_of-self g c =
    let s = c.self.inside in
    let e = c.load_row.ensures in
    subst (λ (z : TableId × View). SeatOk z.0 (arc_value s.table).shared.table_id z.1 s.number s.epoch s.places.items) (λ j. (sym e.table j, sym e.view j)) c.self.invariant

pub returns-clause-same : goal.returns-clause-same
returns-clause-same g c =
    let table = c.load_row.ensures.table in
    let view = ap owner_of c.load_row.ensures.view in
    (λ j. record { table = table j; view = view j }) ∙ c.self.view_is

pub returns-clause-bytes : goal.returns-clause-bytes
returns-clause-bytes g c h k lt =
    let e = c.load_row.ensures in
    let here = ap owner_of e.view ∙ ap (λ (z : Seated). z.view) c.self.view_is in
    (subst (λ (z : OwnerView). RowLoaded c.args.p c.args.first (length c.args.out.now / 8) c.load_row.new.out z) here e.loaded).bytes h k (omega (arith, c.requires.whole, c.load_row.auto.out))

pub returns-clause-events : goal.returns-clause-events
returns-clause-events g c =
    let e = c.load_row.ensures in
    let here = ap owner_of e.view ∙ ap (λ (z : Seated). z.view) c.self.view_is in
    (subst (λ (z : OwnerView). RowLoaded c.args.p c.args.first (length c.args.out.now / 8) c.load_row.new.out z) here e.loaded).events
