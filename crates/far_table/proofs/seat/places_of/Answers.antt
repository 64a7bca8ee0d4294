use Rattle.std.proofs.Common.{◌≡◌, ◌∙◌, ap, map, arith}
use Rattle.std.specs.List.{range_with_len}
use Rattle.far_word.specs.declared.sizes.TheConstants.{CELLS}
use Rattle.far_core.specs.state.CoreState.{core_state}
use Rattle.far_table.specs.Seats.{data_begin}
use Rattle.far_table.proofs.Seating.{held_fits, places_at}
use Rattle.far_table.proofs.Tables.{filled_more}
use Rattle.far_table.proofs.seat.places_of.Goals as goal

pub loop-cell-init : goal.loop-cell-init
loop-cell-init c = let w = c.in_ok-places.ensures in (w.items, w.len, w.capacity)

pub data_begin-requires : goal.data_begin-requires
data_begin-requires c = held_fits (core_state c.args.core.now) c.keeps_law.ensures.law _ c.held.result c.held.ensures

pub push_reserved-requires : goal.push_reserved-requires
push_reserved-requires c = let i = c.loop-cell.invariant in let l = c.loop-cell-test.true in let a = i.1 in let b = i.2 in omega arith

pub loop-cell-preserved : goal.loop-cell-preserved
loop-cell-preserved c =
    let i = c.loop-cell.invariant in
    let p = c.push_reserved.ensures in
    let len = p.len in let cap = p.capacity in let a = i.1 in let b = i.2 in
    (p.items ∙ filled_more (places_at (core_state c.args.core.now) c.args.number) c.loop-cell.cell _ _ i.0 (c.data_begin.ensures ∙ ap data_begin c.held.ensures), omega arith, omega arith)

pub returns : goal.returns
returns c =
    let a = c.loop-cell-test.false in let b = c.loop-cell.auto.cell-end in
    let all : c.loop-cell.cell ≡ CELLS = omega arith in c.loop-cell.invariant.0 ∙ ap (λ n. map (places_at (core_state c.args.core.now) c.args.number) (range_with_len 0 n)) all
