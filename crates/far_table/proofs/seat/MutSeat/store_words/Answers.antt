use Rattle.std.proofs.Common.{◌≡◌, ◌+◌, ◌*◌, ◌/◌, ◌%◌, ◌≤◌, true, length, take, sym, ap, ◌∙◌, subst, arith}
use Rattle.std.specs.Prelude.{IsSome}
use Rattle.std.proofs.lemmas.Grind.{get_or_default_zero}
use Rattle.std.proofs.lemmas.List.{take_all}
use Rattle.far_word.specs.declared.sizes.TheConstants.{CELLS}
use Rattle.far_word.specs.Bytes.{packed_word}
use Rattle.far_table.specs.Ranges.{Wrote}
use Rattle.far_table.specs.RowTells.{StoredEach}
use Rattle.far_table.specs.Seats.{Seated}
use Rattle.far_table.specs.Tells.{owner_of}
use Rattle.far_table.specs.Views.{held_at, len_of, object_at, soiled_at}
use Rattle.far_table.proofs.RowParts.{all_of}
use Rattle.far_table.proofs.WholeWords.{row_stays}
use Rattle.far_table.proofs.seat.MutSeat.store_words.Goals as goal

pub store_row-requires : goal.store_row-requires
store_row-requires g c =
    let i = c.self.invariant in
    let long = i.6 in
    let q = subst (λ (z : Seated). IsSome (held_at z.view c.args.p) × (soiled_at z.view c.args.p ≡ true) × (8 * c.args.first + length c.args.bytes.now ≤ len_of (object_at z.view c.args.p))) (sym c.self.view_is)
    (c.requires.held, c.requires.soiled, c.requires.inside) in
    let read = c.index.ensures ∙ get_or_default_zero c.self.inside.places.items (c.args.p % CELLS) c.index.result.now (omega arith) in record {
      row = record {
        row = record {
          list = c.self.inside.places.items;
          table = (i.0 ∙ sym (ap (λ t. t.shared.table_id) c.deref.ensures), i.1);
          owner = i.2;
          places = i.7;
          begins = ap (λ z. z + c.args.first) read;
          held = q.0;
          inside = q.2;
        };
        soiled = q.1;
      };
    }

pub invariant_of-self : goal.invariant_of-self
invariant_of-self g c =
    let e = c.store_row.ensures in
    let i = c.self.invariant in
    let same = e.row.row.table.0 ∙ ap (λ t. t.shared.table_id) c.deref.ensures ∙ sym i.0 in
    row_stays _ _ _ _ _ _ _ _ c.args.p _ _ _ _ _ i same e.row.row.owner e.stored.wrote e.stored.events

pub returns-clause-table : goal.returns-clause-table
returns-clause-table g c =
    let i = c.self.invariant in
    c.store_row.ensures.row.row.table.0 ∙ ap (λ t. t.shared.table_id) c.deref.ensures ∙ sym i.0 ∙ ap (λ (z : Seated). z.table) c.self.view_is

pub returns-clause-wrote : goal.returns-clause-wrote
returns-clause-wrote g c =
    let bytes = c.args.bytes.now in
    let all : 8 * (length c.args.bytes.now / 8) ≡ length c.args.bytes.now = omega (arith, c.requires.whole) in
    let whole = subst (λ xs. Wrote c.args.p (8 * c.args.first) xs (owner_of c.self.inside.seat.me.0) (owner_of c.store_row.new.seat.me.0)) (ap (λ n. take n bytes) all ∙ take_all (length bytes) bytes (all_of (length bytes)))
    c.store_row.ensures.stored.wrote in
    subst (λ (z : Seated). Wrote c.args.p (8 * c.args.first) c.args.bytes.now z.view (owner_of c.store_row.new.seat.me.0)) c.self.view_is whole

pub returns-clause-events : goal.returns-clause-events
returns-clause-events g c =
    subst (λ (z : Seated). StoredEach c.args.p c.args.first (packed_word c.args.bytes.now) (length c.args.bytes.now / 8) z.view (owner_of c.store_row.new.seat.me.0)) c.self.view_is c.store_row.ensures.stored.events
