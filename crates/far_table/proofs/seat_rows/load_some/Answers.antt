use Rattle.std.proofs.Common.{◌≡◌, ℕ, ◌+◌, ◌*◌, ◌≤◌, length, refl, sym, ap, ◌∙◌, subst, arith}
use Rattle.far_table.specs.SeatRows.{RowLoaded}
use Rattle.far_table.specs.Tells.{owner_of}
use Rattle.far_table.specs.View.{OwnerView}
use Rattle.far_table.proofs.RowParts.{row_beyond, word_left, word_loaded}
use Rattle.far_table.proofs.RowSteps.{load_asks, load_tells}
use Rattle.far_table.proofs.seat_rows.load_some.Goals as goal

pub loop-i-init : goal.loop-i-init
loop-i-init g c =
    let none : c.args.done ≡ c.args.done + 0 = omega arith in
    record { table = refl; view = refl; loaded = subst (λ k. RowLoaded c.args.p c.args.first k c.args.out.now (owner_of c.args.seat.now.me.0)) none c.requires.loaded }

pub overflow_add-at-in-loop-i : goal.overflow_add-at-in-loop-i
overflow_add-at-in-loop-i g c = row_beyond _ _ _ _ _ _ _ c.requires.row c.loop-i.i 2224 (omega (arith, c.loop-i-test.true)) (omega arith)

pub write_u64-requires : goal.write_u64-requires
write_u64-requires g c = word_left (c.args.done + c.loop-i.i) c.loop-i.out (omega (arith, c.requires.room, c.loop-i-test.true, c.loop-i.auto.out))

pub load-word-requires : goal.load-word-requires
load-word-requires g c =
    load_asks _ _ _ _ c.args.p c.args.start (c.args.first + c.args.done) (8 * c.args.count) c.loop-i.i (c.args.first + (c.args.done + c.loop-i.i)) c.loop-i.seat.id c.loop-i.seat.me (omega arith) (omega (arith, c.loop-i-test.true)) c.requires.row
    c.loop-i.invariant.table c.loop-i.invariant.view

pub loop-i-preserved : goal.loop-i-preserved
loop-i-preserved g c =
    let fits : 8 * (c.args.done + c.loop-i.i) + 8 ≤ length c.loop-i.out = omega (arith, c.requires.room, c.loop-i-test.true, c.loop-i.auto.out) in
    let t = load_tells _ _ _ _ c.args.p c.args.start (c.args.first + c.args.done) (8 * c.args.count) c.loop-i.i (c.args.first + (c.args.done + c.loop-i.i)) c.loop-i.seat.id c.loop-i.seat.me (omega arith) (omega (arith, c.loop-i-test.true)) c.requires.row
    c.loop-i.invariant.table c.loop-i.invariant.view c.load-word.result c.load-word.new.seat.me c.load-word.ensures.2 in record {
      table = c.load-word.ensures.0 ∙ c.loop-i.invariant.table;
      view = t.1;
      loaded = word_loaded c.args.p c.args.first (c.args.done + c.loop-i.i) (c.args.done + (c.loop-i.i + 1)) c.load-word.result c.loop-i.out c.write_u64.new.buf (owner_of c.args.seat.now.me.0) c.load-word.type_inv fits c.write_u64.ensures (omega arith) t.0 t.2
          c.loop-i.invariant.loaded;
    }

pub returns-clause-loaded : goal.returns-clause-loaded
returns-clause-loaded g c =
    let all : c.loop-i.i ≡ c.args.count = omega (arith, c.loop-i-test.false, c.loop-i.auto.i-end) in
    subst (λ (z : ℕ × OwnerView). RowLoaded c.args.p c.args.first (c.args.done + z.0) c.loop-i.out z.1) (λ k. (all k, sym (ap owner_of c.loop-i.invariant.view) k)) c.loop-i.invariant.loaded
