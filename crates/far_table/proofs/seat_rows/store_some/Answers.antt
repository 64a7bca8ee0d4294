use Rattle.std.proofs.Common.{◌≡◌, ◌+◌, ◌*◌, ◌≤◌, length, take, drop, refl, sym, ap, ◌∙◌, subst, arith}
use Rattle.far_events.specs.declared.event.Event.TheVariants.{Store}
use Rattle.far_events.specs.declared.event.Reply.TheVariants.{Done}
use Rattle.far_table.specs.Ranges.{Wrote}
use Rattle.far_table.specs.SeatRows.{RowStored}
use Rattle.far_table.specs.Tells.{OwnerMade, owner_of}
use Rattle.far_table.specs.View.{View, Owner}
use Rattle.far_table.specs.Views.{len_of, object_at}
use Rattle.far_table.proofs.RowParts.{row_beyond, soiled_later, word_left, word_stored}
use Rattle.far_table.proofs.RowSteps.{store_asks, store_tells}
use Rattle.far_table.proofs.WholeWords.{word_wrote}
use Rattle.far_table.proofs.seat_rows.store_some.Goals as goal

pub loop-i-init : goal.loop-i-init
loop-i-init g c =
    let none : c.args.done ≡ c.args.done + 0 = omega arith in
    record { rows = λ begin at n r. r; stored = λ o s. subst (λ k. RowStored c.args.p c.args.first k c.args.bytes.now o (owner_of c.args.seat.now.me.0)) none s }

pub overflow_add-at-in-loop-i : goal.overflow_add-at-in-loop-i
overflow_add-at-in-loop-i g c = row_beyond _ _ _ _ _ _ _ c.requires.row.row c.loop-i.i 2224 (omega (arith, c.loop-i-test.true)) (omega arith)

pub read_u64-word-requires : goal.read_u64-word-requires
read_u64-word-requires g c = word_left (c.args.done + c.loop-i.i) c.args.bytes.now (omega (arith, c.requires.room, c.loop-i-test.true))

pub store-requires : goal.store-requires
store-requires g c =
    store_asks _ _ c.args.p c.args.start (c.args.first + c.args.done) (8 * c.args.count) c.loop-i.i (c.args.first + (c.args.done + c.loop-i.i)) c.read_u64-word.result c.loop-i.seat.id c.loop-i.seat.me (omega arith) (omega (arith, c.loop-i-test.true))
    (c.loop-i.invariant.rows _ _ _ c.requires.row) c.read_u64-word.type_inv

pub loop-i-preserved : goal.loop-i-preserved
loop-i-preserved g c =
    let u = owner_of c.loop-i.seat.me.0 in
    let s = c.loop-i.invariant.rows _ _ _ c.requires.row in
    let fits : 8 * (c.args.done + c.loop-i.i) + 8 ≤ length c.args.bytes.now = omega (arith, c.requires.room, c.loop-i-test.true) in
    let room : 8 * (c.args.first + (c.args.done + c.loop-i.i)) + 8 ≤ len_of (object_at (owner_of c.loop-i.seat.me.0) c.args.p) = omega (arith, s.row.inside, c.loop-i-test.true) in
    let t = store_tells _ _ c.args.p c.args.start (c.args.first + c.args.done) (8 * c.args.count) c.loop-i.i (c.args.first + (c.args.done + c.loop-i.i)) c.read_u64-word.result c.loop-i.seat.id c.loop-i.seat.me (omega arith) (omega (arith, c.loop-i-test.true)) s
    c.read_u64-word.type_inv c.store.new.seat.me c.store.ensures.2 in
    let view = ap owner_of t.after_is in
    let one = subst (λ z. Wrote c.args.p (8 * (c.args.first + (c.args.done + c.loop-i.i))) (take 8 (drop (8 * (c.args.done + c.loop-i.i)) c.args.bytes.now)) u z) (sym view)
    (word_wrote c.args.p c.args.first (c.args.done + c.loop-i.i) c.read_u64-word.result c.args.bytes.now _ u (λ k. (c.type_inv.bytes k).fits) fits room refl c.read_u64-word.ensures) in record {
      rows = λ begin at n r. soiled_later _ _ _ _ _ c.args.p begin at n _ _ c.store.ensures.0 (t.after_is ∙ ap (λ (z : View). Owner (owner_of z)) (sym t.after_is)) one (c.loop-i.invariant.rows begin at n r);
      stored = λ o before. word_stored c.args.p c.args.first (c.args.done + c.loop-i.i) (c.args.done + (c.loop-i.i + 1)) c.read_u64-word.result c.args.bytes.now _ o u (owner_of c.store.new.seat.me.0) (λ k. (c.type_inv.bytes k).fits) fits room refl
          c.read_u64-word.ensures (omega arith) view (subst (λ z. OwnerMade (Store u.number c.args.p (c.args.first + (c.args.done + c.loop-i.i)) c.read_u64-word.result) u Done z) (sym view) t.made) (c.loop-i.invariant.stored o before);
    }

pub returns-clause-stored : goal.returns-clause-stored
returns-clause-stored g c =
    let all : c.loop-i.i ≡ c.args.count = omega (arith, c.loop-i-test.false, c.loop-i.auto.i-end) in
    λ o s. subst (λ k. RowStored c.args.p c.args.first (c.args.done + k) c.args.bytes.now o (owner_of c.loop-i.seat.me.0)) all (c.loop-i.invariant.stored o s)
